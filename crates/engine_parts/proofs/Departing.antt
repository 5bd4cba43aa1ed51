-- An instruction by which harts leave, and what holds after any.
use Rattle.std.proofs.Common.{◌≡◌, ◌<◌, ◌≤◌, ℕ, ◌+◌, ◌++◌, true, false, List, [], ◌∷◌, length, refl, sym, ap, ◌∙◌, subst, arith, length-set}
use Rattle.std.specs.Prelude.{Option, Some, None, map, slice_get, slice_set}
use Rattle.std.proofs.lemmas.Option.{slice_get_within}
use Rattle.rv_exec.specs.declared.effect.Stepped.{Stepped}
use Rattle.rv_exec.specs.declared.effect.Stepped.TheVariants as stepped
use Rattle.text_words.specs.Words.{Words}
use Rattle.plain_machine.specs.Environment.{Goes, LeavesAlone}
use Rattle.scratch_slots.specs.declared.slots.SlotUse.{SlotUse}
use Rattle.hart_machine.specs.declared.hart.Core.{Core}
use Rattle.hart_machine.specs.Patched.{Patched}
use Rattle.hart_machine.specs.Stepping.{StepsTo, has_run}
use Rattle.hart_machine.proofs.Places.{set_twice, get-set_same}
use Rattle.dbg_model.specs.declared.entry.Entry.TheVariants.{Left}
use Rattle.dbg_model.specs.Journals.{lengthened}
use Rattle.engine_parts.specs.declared.mind.Hold.{Hold}
use Rattle.engine_parts.specs.declared.mind.Mind.{Mind}
use Rattle.engine_parts.specs.Minds.{after_step, gone_mind, lefts_live}
use Rattle.engine_parts.specs.Seen.{Engine}
use Rattle.engine_parts.specs.Facts.{Sound, Planted, wants_of}
use Rattle.engine_parts.specs.Moves.{HeldInText}
use Rattle.engine_parts.specs.Homecoming.{IsSlotted, home_core, GoesHome, AllGoHome}
use Rattle.engine_parts.proofs.Holding.{released, unholds, held_text}
use Rattle.engine_parts.proofs.Homecoming.{slotted_by, home_is, home_counts, home_out, home_known, home_slots, home_rest, all_are_home, all_are_free, all_ready, all_slotted}
use Rattle.engine_parts.proofs.Bounding.{Small}
use Rattle.engine_parts.proofs.Stepping.{after_slot, ran_of}
use Rattle.engine_parts.proofs.Exiting.{departs_alone, departs_all}
use Rattle.engine_parts.specs.Steps.{Parts, applied, exits_of, leaves}
use Rattle.engine_parts.specs.Homing.{ComesHome, HomedBy}
use Rattle.engine_parts.proofs.Executing.{parts_of, noted_by, run_with, ran_to, Ready, plain_gives, done, counts, known, Executed, stepped_to, stepped_as, instruction, ran_on}

-- the same with the machine and the hold of an instruction by which none exits
kept_by : (s : Stepped) (r : Engine) (h spare : ℕ) (z : Mind) (m n : Patched) (hold : Option Hold) → (hold ≡ r.hold) × (n ≡ m) → Executed s r (ran_to s r h z m r.hold spare) h z → Executed s r (ran_to s r h z n hold spare) h z
kept_by s r h spare z m n hold rel e =
    let P : Patched → Option Hold → Type 0 = λ n o. Executed s r (ran_to s r h z n o spare) h z in
    subst (λ (o : Option Hold). P n o) (sym rel.0) (subst (λ (n : Patched). P n r.hold) (sym rel.1) e)

-- the machine at the end, by its parts
whole : (s : Stepped) (r : Engine) (h spare : ℕ) (z : Mind) (m n : Patched) (hold : Option Hold) → hold ≡ None → n ≡ m → Executed s r (ran_to s r h z m None spare) h z → Executed s r (ran_to s r h z n hold spare) h z
whole s r h spare z m n hold none same e =
    let P : Patched → Option Hold → Type 0 = λ n o. Executed s r (ran_to s r h z n o spare) h z in
    subst (λ (o : Option Hold). P n o) (sym none) (subst (λ (n : Patched). P n None) (sym same) e)

-- the machine after harts came home, by its parts
parts_home : (old between new : Patched) (cs : List Core) (slots : List (Option SlotUse)) → between ≡ record old { cores = between.cores; slots = between.slots } → between.cores ≡ cs → new ≡ record between { text = new.text }
    → new ≡ record { text = new.text; cores = cs; memory = old.memory; slots = between.slots }
parts_home old between new cs slots rest cores text =
    text ∙ (ap (λ (m : Patched). let n : Patched = record { text = new.text; cores = m.cores; memory = m.memory; slots = m.slots } in n) rest
    ∙ ap (λ ds. let n : Patched = record { text = new.text; cores = ds; memory = old.memory; slots = between.slots } in n) cores)

-- this hart left
left_alone : (r : Engine) (h spare code : ℕ) (c : Core) (x : Mind) (new m : Patched) (hold : Option Hold) → Ready r h c x → (t : StepsTo (stepped.HartExit code) r.machine h c new)
    → ComesHome (stepped_to r h t.core t.memory) m (wants_of r) hold (λ k. GoesHome (stepped_to r h t.core t.memory) k h (after_step x.phase))
    → Executed (stepped.HartExit code) r (ran_to (stepped.HartExit code) r h (ran_of r h c x t.memory) m hold spare) h (ran_of r h c x t.memory)
left_alone r h spare code c x new m hold k t rel =
    let p = r.opening.image in
    let s = stepped.HartExit code in
    let mid = stepped_to r h t.core t.memory in
    let q = after_step x.phase in
    let g = rel.between in
    let hs = known s r h c x new refl k t in
    let at : slice_get mid.cores h ≡ Some t.core = get-set_same r.machine.cores h t.core c k.mover.core in
    let z = ran_of r h c x t.memory in
    let x_at : slice_get (slice_set r.minds h z) h ≡ Some z = get-set_same r.minds h z x k.mover.mind in
    let fact = hs.each h t.core z at x_at in
    let own = slotted_by p mid h t.core q fact.placed in
    let d = home_core r.machine.slots t.core q in
    let n = counts s r h c x new refl k t in
    let same = home_counts r.machine.slots t.core q in
    let cores : g.cores ≡ slice_set r.machine.cores h d = home_known mid g h t.core q at rel.home ∙ set_twice r.machine.cores h t.core d in
    let free = home_slots p r.machine.cores mid g r.minds r.hold h x q k.facts.harts k.mover.mind (after_slot x.phase) own rel.home in
    let one = home_rest mid g h q rel.home in
    let texts = released p g.text m.text (wants_of r) (subst (λ (u : Words). Planted p u (wants_of r)) (ap (λ (u : Patched). u.text) (sym one.rest)) k.facts.planted) rel.released in
    let is = plain_gives s r h c x new k t ∙ ap (λ u. Goes u t.memory [] (LeavesAlone code)) (home_is p r.machine.slots h t.core q fact.placed) in
    let e = departs_alone r h spare code c d x t.memory m.text g.slots k.facts k.mover k.runs k.before k.none k.may is (same.0 ∙ n.retired) (same.1 ∙ n.copied)
    (home_out p r.machine.slots h t.core q fact.placed (λ without. n.entered)) (unholds r.hold h k.free) free one.slots_len texts in
    let end : Patched = record { text = m.text; cores = slice_set r.machine.cores h d; memory = t.memory; slots = g.slots } in
    let parts = parts_home mid g m (slice_set r.machine.cores h d) g.slots one.rest cores rel.rest in
    let P : Patched → Option Hold → Type 0 = λ n o. ComesHome mid n (wants_of r) o (λ k. GoesHome mid k h q) in
    let homed = subst (λ (o : Option Hold). P end o) rel.none (subst (λ (n : Patched). P n hold) parts rel) in
    let by = instruction s r h c t.core x t.memory k.mover k.before (stepped_as s r h c x new k.mover t) in
    whole s r h spare z end m hold rel.none parts (record {
      facts = e.facts;
      does = λ u ws. (code, record { by = by; homed = record { home = end; homed = homed; patched = refl; minds = refl }; leavers = e.leavers; journal = e.journal; harts = e.harts; retired = refl; opening = refl });
    })

-- all harts left
left_all : (r : Engine) (h spare code : ℕ) (c : Core) (x : Mind) (new m : Patched) (hold : Option Hold) → Ready r h c x → (t : StepsTo (stepped.AllExit code) r.machine h c new)
    → ComesHome (stepped_to r h t.core t.memory) m (wants_of r) hold (λ k. AllGoHome (stepped_to r h t.core t.memory) k 0 (slice_set r.minds h (ran_of r h c x t.memory)))
    → Executed (stepped.AllExit code) r (ran_to (stepped.AllExit code) r h (ran_of r h c x t.memory) m hold spare) h (ran_of r h c x t.memory)
left_all r h spare code c x new m hold k t rel =
    let p = r.opening.image in
    let s = stepped.AllExit code in
    let mid = stepped_to r h t.core t.memory in
    let z = ran_of r h c x t.memory in
    let xs = slice_set r.minds h z in
    let g = rel.between in
    let hs = known s r h c x new refl k t in
    let n = counts s r h c x new refl k t in
    let home = all_are_home p mid g xs hs.len (all_ready p mid.cores r.machine.slots xs r.hold hs) rel.home in
    let free = all_are_free mid g xs hs.used rel.home in
    let cores : length g.cores ≡ length r.machine.cores = rel.home.len ∙ length-set r.machine.cores h t.core in
    let texts = released p g.text m.text (wants_of r) (subst (λ (u : Words). Planted p u (wants_of r)) (ap (λ (u : Patched). u.text) (sym rel.home.rest)) k.facts.planted) rel.released in
    let es = lefts_live code 0 xs in
    let e = departs_all r h spare code c t.core x g.cores t.memory m.text g.slots k.facts k.mover k.runs k.before k.none k.may (plain_gives s r h c x new k t) n.retired n.copied home free rel.home.slots_len cores texts in
    let end : Patched = record { text = m.text; cores = g.cores; memory = t.memory; slots = g.slots } in
    let parts = parts_home mid g m g.cores g.slots rel.home.rest refl rel.rest in
    let P : Patched → Option Hold → Type 0 = λ n o. ComesHome mid n (wants_of r) o (λ k. AllGoHome mid k 0 xs) in
    let homed = subst (λ (o : Option Hold). P end o) rel.none (subst (λ (n : Patched). P n hold) parts rel) in
    let by = instruction s r h c t.core x t.memory k.mover k.before (stepped_as s r h c x new k.mover t) in
    whole s r h spare z end m hold rel.none parts (record {
      facts = e.facts;
      does = λ u ws. (code, length es, record { by = by; homed = record { home = end; homed = homed; patched = refl; minds = refl }; leavers = e.leavers; journal = e.journal; harts = e.harts; retired = refl; opening = refl });
    })

not_run : {A : Type 0} → false ≡ true → A
not_run e = cc

executed_by : (s : Stepped) (r : Engine) (h spare : ℕ) (c : Core) (x : Mind) (new m : Patched) (hold : Option Hold) → has_run s ≡ true → Ready r h c x → (t : StepsTo s r.machine h c new)
    → HomedBy s (wants_of r) hold (record { hart = h; phase = after_step x.phase; minds = slice_set r.minds h (ran_of r h c x t.memory) })
    (stepped_to r h t.core t.memory) m → Executed s r (ran_to s r h (ran_of r h c x t.memory) m hold spare) h (ran_of r h c x t.memory)
executed_by stepped.Ran r h spare c x new m hold d k t rel =
    let g = ran_on r h spare c t.core x t.memory [] stepped.Ran k (counts stepped.Ran r h c x new d k t) (plain_gives stepped.Ran r h c x new k t) (stepped_as stepped.Ran r h c x new k.mover t) in
    kept_by stepped.Ran r h spare (ran_of r h c x t.memory) (stepped_to r h t.core t.memory) m hold rel (record { facts = g.facts; does = g.runs })
executed_by (stepped.Wrote addr len) r h spare c x new m hold d k t rel =
    let s = stepped.Wrote addr len in
    let p = plain_gives s r h c x new k t in
    let g = ran_on r h spare c t.core x t.memory p.0 s k (counts s r h c x new d k t) p.3 (stepped_as s r h c x new k.mover t) in
    kept_by s r h spare (ran_of r h c x t.memory) (stepped_to r h t.core t.memory) m hold rel (record { facts = g.facts; does = λ u ws. (p.0, p.1, p.2, g.runs u ws) })
executed_by (stepped.HartExit code) r h spare c x new m hold d k t rel = left_alone r h spare code c x new m hold k t rel
executed_by (stepped.AllExit code) r h spare c x new m hold d k t rel = left_all r h spare code c x new m hold k t rel
executed_by stepped.Hit r h spare c x new m hold d k t rel = not_run d
executed_by (stepped.Trap cause) r h spare c x new m hold d k t rel = not_run d

pub executed_to : (s : Stepped) (r : Engine) (h spare : ℕ) (c : Core) (x : Mind) (new m : Patched) (hold : Option Hold) (q : Parts) (noted : ℕ) → has_run s ≡ true → Ready r h c x → StepsTo s r.machine h c new
    → HomedBy s (wants_of r) hold (record { hart = h; phase = after_step x.phase; minds = slice_set r.minds h (ran_of r h c x new.memory) }) new m
    → q ≡ applied s h (ran_of r h c x new.memory) (parts_of r) → noted ≡ noted_by s h (ran_of r h c x new.memory) r.minds r.noted
    → Executed s r (run_with r m q noted hold spare) h (ran_of r h c x new.memory)
executed_to s r h spare c x new m hold q noted d k t rel is count =
    let Z : Patched → Mind = λ n. ran_of r h c x n.memory in
    let Q : Parts → Type 0 = λ u. Executed s r (run_with r m u noted hold spare) h (Z new) in
    let N : ℕ → Type 0 = λ n. Executed s r (run_with r m (applied s h (Z new) (parts_of r)) n hold spare) h (Z new) in
    let R : Patched → Type 0 = λ n. HomedBy s (wants_of r) hold (record { hart = h; phase = after_step x.phase; minds = slice_set r.minds h (Z n) }) n m in
    let E : Patched → Type 0 = λ n. Executed s r (ran_to s r h (Z n) m hold spare) h (Z n) in
    subst Q (sym is) (subst N (sym count) (subst E (sym t.machine) (executed_by s r h spare c x new m hold d k t (subst R t.machine rel))))

-- what holds of the engine then, where this is kept of the hart
pub executed_as : (s : Stepped) (r : Engine) (h spare : ℕ) (c : Core) (x z : Mind) (new m : Patched) (hold : Option Hold) (q : Parts) → has_run s ≡ true → Ready r h c x → StepsTo s r.machine h c new → ran_of r h c x new.memory ≡ z
    → HomedBy s (wants_of r) hold (record { hart = h; phase = z.phase; minds = slice_set r.minds h z }) new m → q ≡ applied s h z (parts_of r) → Sound (run_with r m q (noted_by s h z r.minds r.noted) hold spare)
executed_as s r h spare c x z new m hold q d k t same rel is =
    let P : Mind → Type 0 = λ z. HomedBy s (wants_of r) hold (record { hart = h; phase = z.phase; minds = slice_set r.minds h z }) new m
    → q ≡ applied s h z (parts_of r) → Sound (run_with r m q (noted_by s h z r.minds r.noted) hold spare) in
    subst P same (λ rel is. (executed_to s r h spare c x new m hold q (noted_by s h (ran_of r h c x new.memory) r.minds r.noted) d k t rel is refl).facts) rel is

-- what is kept of the harts where none leaves
pub stayed : (s : Stepped) (h : ℕ) (z : Mind) (p : Parts) → has_run s ≡ true → leaves s ≡ false → (applied s h z p).minds ≡ slice_set p.minds h z
stayed stepped.Ran h z p done none = refl
stayed (stepped.Wrote addr len) h z p done none = refl
stayed (stepped.HartExit code) h z p done none = cc
stayed (stepped.AllExit code) h z p done none = cc
stayed stepped.Hit h z p done none = cc
stayed (stepped.Trap cause) h z p done none = cc

-- the parts after an instruction, where what is kept of the hart was set before
pub applied_twice : (s : Stepped) (h : ℕ) (z : Mind) (p : Parts) → has_run s ≡ true → applied s h z (record p { minds = slice_set p.minds h z }) ≡ applied s h z p
applied_twice stepped.Ran h z p done = ap (λ xs. let q : Parts = record { journal = lengthened p.journal h; minds = xs } in q) (set_twice p.minds h z z)
applied_twice (stepped.Wrote addr len) h z p done = ap (λ xs. let q : Parts = record { journal = lengthened p.journal h; minds = xs } in q) (set_twice p.minds h z z)
applied_twice (stepped.HartExit code) h z p done = ap (λ xs. let q : Parts = record { journal = lengthened p.journal h ++ Left h code ∷ []; minds = xs } in q) (set_twice p.minds h z (gone_mind z))
applied_twice (stepped.AllExit code) h z p done = ap (λ xs. let q : Parts = record { journal = lengthened p.journal h ++ lefts_live code 0 xs; minds = map gone_mind xs } in q) (set_twice p.minds h z z)
applied_twice stepped.Hit h z p done = cc
applied_twice (stepped.Trap cause) h z p done = cc

pub exits_twice : (s : Stepped) (h : ℕ) (z : Mind) (xs : List Mind) → exits_of s h z (slice_set xs h z) ≡ exits_of s h z xs
exits_twice stepped.Ran h z xs = refl
exits_twice (stepped.Wrote addr len) h z xs = refl
exits_twice (stepped.HartExit code) h z xs = refl
exits_twice (stepped.AllExit code) h z xs = ap (λ ys. length (lefts_live code 0 ys)) (set_twice xs h z z)
exits_twice stepped.Hit h z xs = refl
exits_twice (stepped.Trap cause) h z xs = refl

-- each hart that left is noted
pub exits_noted : (s : Stepped) (h : ℕ) (z : Mind) (xs : List Mind) (n : ℕ) → n + exits_of s h z xs ≡ noted_by s h z xs n
exits_noted stepped.Ran h z xs n = omega arith
exits_noted (stepped.Wrote addr len) h z xs n = omega arith
exits_noted (stepped.HartExit code) h z xs n = refl
exits_noted (stepped.AllExit code) h z xs n = refl
exits_noted stepped.Hit h z xs n = omega arith
exits_noted (stepped.Trap cause) h z xs n = omega arith

-- what the harts that leave need to come home
pub record Prepared (r : Engine) (h : ℕ) (c : Core) (x : Mind) (new : Patched) : Type 0 where
  pub text : HeldInText new.text r.hold
  pub few : length new.cores ≤ 16
  pub harts : length (slice_set r.minds h (ran_of r h c x new.memory)) ≤ length new.cores
  pub hart : h < length new.cores
  pub slot : IsSlotted new h (after_step x.phase)
  pub slots : (j : ℕ) (y : Mind) → slice_get (slice_set r.minds h (ran_of r h c x new.memory)) j ≡ Some y → IsSlotted new j y.phase

no_less : (a b : ℕ) → a ≡ b → b ≤ a
no_less a b e = omega arith

pub prepared : (s : Stepped) (r : Engine) (h : ℕ) (c : Core) (x : Mind) (new : Patched) → has_run s ≡ true → Ready r h c x → Small r → StepsTo s r.machine h c new → Prepared r h c x new
prepared s r h c x new d k small t =
    let mid = stepped_to r h t.core t.memory in
    let xs = slice_set r.minds h (ran_of r h c x t.memory) in
    let hs = known s r h c x new d k t in
    let slots = all_slotted r.opening.image mid xs r.hold hs in
    let len : length xs ≡ length r.minds = length-set r.minds h (ran_of r h c x t.memory) in
    let low : h < length r.minds = slice_get_within r.minds h x k.mover.mind in
    let x_at : slice_get xs h ≡ Some (ran_of r h c x t.memory) = get-set_same r.minds h (ran_of r h c x t.memory) x k.mover.mind in
    subst (Prepared r h c x) (sym t.machine)
    (record {
      text = held_text r k.facts;
      few = subst (λ (n : ℕ). n ≤ 16) (sym (hs.len ∙ len)) small.harts;
      harts = no_less (length mid.cores) (length xs) hs.len;
      hart = subst (λ (n : ℕ). h < n) (sym (hs.len ∙ len)) low;
      slot = slots h (ran_of r h c x t.memory) x_at;
      slots = slots;
    })
