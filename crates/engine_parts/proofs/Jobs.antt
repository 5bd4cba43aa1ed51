-- To whom a job is given, and when what became of it is taken back.
use Rattle.std.proofs.Common.{◌≡◌, ◌<◌, ◌≤◌, ℕ, zero, suc, ◌-◌, Bool, true, false, List, [], ◌∷◌, refl, sym, ap, ◌∙◌, subst, arith}
use Rattle.std.specs.Prelude.{Option, Some, None, IsSome, ◌&&◌, ◌==◌, ◌↔◌, IsTrue, is_none, is_some, nat_eq, nat_lt, not, slice_get}
use Rattle.std.specs.Cmp.Lexicographic.{pointwise, same_text}
use Rattle.std.proofs.lemmas.Bool.{eq-eqb}
use Rattle.std.proofs.lemmas.Bool.Decides.{nat_tests}
use Rattle.rv_exec.specs.Registers.{Registers}
use Rattle.text_words.specs.Words.{shown, unpatched}
use Rattle.reg_slices.specs.declared.slice.Job.{Job}
use Rattle.reg_slices.specs.declared.slice.Slice.{Slice}
use Rattle.hart_machine.specs.declared.hart.Core.{Core}
use Rattle.hart_machine.specs.Slices.{AreStored, window}
use Rattle.dbg_model.specs.declared.hart.Hart.{Hart}
use Rattle.dbg_model.specs.Lawful.{may_go}
use Rattle.dbg_model.proofs.Options.{both_true}
use Rattle.engine_parts.specs.declared.mind.Mind.{Mind}
use Rattle.engine_parts.specs.Minds.{slot_of}
use Rattle.engine_parts.specs.Movers.{is_free}
use Rattle.engine_parts.specs.Seen.{Engine, seen, seen_hart}
use Rattle.engine_parts.specs.Facts.{InText, Sound, other_holder}
use Rattle.engine_parts.proofs.Bounding.{below}
use Rattle.engine_parts.proofs.Keeping.{Mover, hart_at}
use Rattle.engine_parts.proofs.Holding.{and_off, core_at, own_seen}
use Rattle.engine_parts.specs.Slicing.{CanTake, IsJobOf, gives_job, goes_apart, is_ready, is_word}
use Rattle.engine_parts.proofs.Executing.{same_hart}
use Rattle.engine_parts.proofs.Taking.{apart_so, begun}

-- ---- registers

equal : (a b : Registers) → (pointwise nat_eq a.x b.x && (a.pc == b.pc)) ≡ true → a ≡ b
equal a b e =
    let t = both_true (pointwise nat_eq a.x b.x) (a.pc == b.pc) e in
    let at : (a.pc == b.pc) ≡ true = t.1 in
    let pc : a.pc ≡ b.pc = grind (arith, nat_tests) in
    ap (λ (xs : List ℕ). let r : Registers = record { x = xs; pc = a.pc } in r) (same_text a.x b.x (sym t.0)) ∙ ap (λ (n : ℕ). let r : Registers = record { x = b.x; pc = n } in r) pc

same_items : (xs : List ℕ) → pointwise nat_eq xs xs ≡ true
same_items [] = refl
same_items (x ∷ xs) = rw (eq-eqb x x refl) (same_items xs)

same_tests : (a : Registers) → (pointwise nat_eq a.x a.x && (a.pc == a.pc)) ≡ true
same_tests a = rw (same_items a.x, eq-eqb a.pc a.pc refl) refl

-- what a comparison of registers tells
pub registers_same : (k d : Core) (q : Registers) (b : Bool) → d ≡ k → b ≡ (pointwise nat_eq d.regs.x q.x && (d.regs.pc == q.pc)) → IsTrue b ↔ (k.regs ≡ q)
registers_same k d q b same is = (
  λ yes. ap (λ (e : Core). e.regs) (sym same) ∙ equal d.regs q (sym is ∙ yes),
  λ there. is ∙ subst (λ (r : Registers). (pointwise nat_eq d.regs.x r.x && (d.regs.pc == r.pc)) ≡ true) (ap (λ (e : Core). e.regs) same ∙ there) (same_tests d.regs),
)

-- ---- no patch is lifted for another hart

none_by : (o : Option ℕ) → false ≡ is_some o → is_none o ≡ true
none_by None e = refl
none_by (Some k) e = cc

pub free_by : (r : Engine) (h : ℕ) (o : Option ℕ) → o ≡ other_holder r.hold h → false ≡ is_some o → is_free r.hold h ≡ true
free_by r h o is none = ap is_none (sym is) ∙ none_by o none

-- ---- a job

pub own_regs : (r : Engine) (c : Core) (x : Mind) → goes_apart x ≡ true → (seen_hart r.opening.image c x).regs ≡ c.regs
own_regs r c x apart = own_seen r.opening.image c.regs x.activity x.phase (ap slot_of (apart_so x apart).idle)

-- whether a hart of which this is kept gets a job
job_is : (r : Engine) (h : ℕ) (c : Core) (x : Mind) → Mover r h c x
    → gives_job r h ≡ ((nat_lt 0 r.opening.settings.slice && may_go r.opening (seen r)) && (is_free r.hold h && (goes_apart x && (not x.asked && is_word r.opening.image (seen_hart r.opening.image c x).regs.pc))))
job_is r h c x m =
    let some = nat_lt 0 r.opening.settings.slice && may_go r.opening (seen r) in
    ap (λ (o : Option Mind). some && (is_free r.hold h && is_ready r.opening.image o (slice_get (seen r).harts h))) m.mind ∙ ap (λ (o : Option Hart). some && (is_free r.hold h && is_ready r.opening.image (Some x) o)) (hart_at r h c x m)

last_off : (a b c d : Bool) → (a && (b && (c && (d && false)))) ≡ false
last_off a b c d = ap (λ e. a && (b && (c && e))) (and_off d) ∙ (ap (λ e. a && (b && e)) (and_off c) ∙ (ap (λ e. a && e) (and_off b) ∙ and_off a))

all_on : (a b c d e f : Bool) → a ≡ true → b ≡ true → c ≡ true → d ≡ true → e ≡ true → f ≡ true → ((a && b) && (c && (d && (e && f)))) ≡ true
all_on a b c d e f ea eb ec ed ee ef = rw (ea, eb, ec, ed, ee, ef) refl

absent : (o : Option ℕ) → (IsSome o → IsTrue false) → is_some o ≡ false
absent None n = refl
absent (Some w) n = sym (n refl)

some_by : (n : ℕ) → (n ≡ 0 → ⊥) → nat_lt 0 n ≡ true
some_by zero none = absurd (none refl)
some_by (suc n) none = let some : 0 < suc n = omega arith in grind (arith, nat_tests)

-- a hart that is not in text gets none
pub no_word : (r s : Engine) (h pc : ℕ) (x : Mind) → r ≡ s → Sound r → slice_get s.minds h ≡ Some x → goes_apart x ≡ true
    → ((c : Core) → slice_get r.machine.cores h ≡ Some c → pc ≡ c.regs.pc) → (InText s.opening.image pc → IsTrue false) → false ≡ gives_job s h
no_word r s h pc x same f at apart here out =
    let k = core_at r h x f (ap (λ (q : Engine). slice_get q.minds h) same ∙ at) in
    let c = k.0 in
    let y = seen_hart r.opening.image c x in
    let off : is_word r.opening.image pc ≡ false = ap (λ (q : Engine). is_word q.opening.image pc) same ∙ absent (shown (unpatched s.opening.image) pc) out in
    let own : pc ≡ y.regs.pc = here c k.1.core ∙ ap (λ (q : Registers). q.pc) (sym (own_regs r c x apart)) in
    let some = nat_lt 0 r.opening.settings.slice && may_go r.opening (seen r) in
    let none : gives_job r h ≡ false =
    job_is r h c x k.1 ∙ (ap (λ b. some && (is_free r.hold h && (goes_apart x && (not x.asked && b)))) (ap (is_word r.opening.image) (sym own) ∙ off) ∙ last_off some (is_free r.hold h) (goes_apart x) (not x.asked)) in
    subst (λ (q : Engine). false ≡ gives_job q h) same (sym none)

-- a hart of which all of this is so gets one
pub given : (r s : Engine) (h pc : ℕ) (x : Mind) → r ≡ s → Sound r → slice_get s.minds h ≡ Some x → (r.opening.settings.slice ≡ 0 → ⊥) → may_go s.opening (seen s) ≡ true → is_free r.hold h ≡ true → goes_apart x ≡ true → x.asked ≡ false
    → ((c : Core) → slice_get r.machine.cores h ≡ Some c → pc ≡ c.regs.pc) → InText s.opening.image pc → true ≡ gives_job s h
given r s h pc x same f at some may free apart unasked here word =
    let k = core_at r h x f (ap (λ (q : Engine). slice_get q.minds h) same ∙ at) in
    let c = k.0 in
    let y = seen_hart r.opening.image c x in
    let own : pc ≡ y.regs.pc = here c k.1.core ∙ ap (λ (q : Registers). q.pc) (sym (own_regs r c x apart)) in
    let go : may_go r.opening (seen r) ≡ true = ap (λ (q : Engine). may_go q.opening (seen q)) same ∙ may in
    let is = all_on (nat_lt 0 r.opening.settings.slice) (may_go r.opening (seen r)) (is_free r.hold h) (goes_apart x) (not x.asked)
    (is_word r.opening.image y.regs.pc) (some_by r.opening.settings.slice some) go free apart (ap not unasked)
    (ap (is_word r.opening.image) (sym own) ∙ (ap (λ (q : Engine). is_word q.opening.image pc) same ∙ word)) in
    subst (λ (q : Engine). true ≡ gives_job q h) same (sym (job_is r h c x k.1 ∙ is))

pub gives_by : (b : Bool) (r s : Engine) (h pc : ℕ) (x : Mind) → r ≡ s → Sound r → slice_get s.minds h ≡ Some x → (r.opening.settings.slice ≡ 0 → ⊥)
    → may_go s.opening (seen s) ≡ true → is_free r.hold h ≡ true → goes_apart x ≡ true → x.asked ≡ false
    → ((c : Core) → slice_get r.machine.cores h ≡ Some c → pc ≡ c.regs.pc) → IsTrue b ↔ InText s.opening.image pc → b ≡ gives_job s h
gives_by true r s h pc x same f at some may free apart unasked here word = given r s h pc x same f at some may free apart unasked here (word.0 refl)
gives_by false r s h pc x same f at some may free apart unasked here word = no_word r s h pc x same f at apart here word.1

-- and this is its job
pub job_of : (r s : Engine) (h limit : ℕ) (x : Mind) (job : Job) → r ≡ s → Sound r → slice_get s.minds h ≡ Some x → goes_apart x ≡ true → (job.hart ≡ h) × (job.limit ≡ limit)
    → ((c : Core) → slice_get r.machine.cores h ≡ Some c → (job.regs ≡ c.regs) × (job.at ≡ c.regs.pc)) → job.words.items ≡ window r.machine.text job.at → limit ≡ r.opening.settings.slice → IsJobOf s h job
job_of r s h limit x job same f at apart own here words most =
    let k = core_at r h x f (ap (λ (q : Engine). slice_get q.minds h) same ∙ at) in
    let c = k.0 in
    let there = here c k.1.core in
    let is : IsJobOf r h job = record {
      hart = own.0;
      regs = λ y shows. ap (λ (z : Hart). z.regs) (sym (same_hart r h c x y k.1 shows)) ∙ (own_regs r c x apart ∙ sym there.0);
      at = there.1 ∙ ap (λ (q : Registers). q.pc) (sym there.0);
      words = words;
      limit = own.1 ∙ most;
    } in
    subst (λ (q : Engine). IsJobOf q h job) same is

-- ---- what is taken back

-- the hart's registers are those that the slice began with
pub began : (r s : Engine) (slice : Slice) (b : Bool) → r ≡ s → Sound r → CanTake s slice → ((c : Core) → slice_get r.machine.cores slice.hart ≡ Some c → IsTrue b ↔ (c.regs ≡ slice.regs)) → IsTrue b
began r s slice b same f can tells =
    let fits = begun r slice f (subst (λ (q : Engine). CanTake q slice) (sym same) can) in
    (tells fits.core fits.there).1 fits.regs

-- the words of its window are stored
pub found : (r s : Engine) (slice : Slice) (ws : List ℕ) → r ≡ s → ws ≡ slice.words.items → CanTake s slice → AreStored r.machine.text slice.at ws
found r s slice ws same are can = subst (AreStored r.machine.text slice.at) (sym are) (subst (λ (q : Engine). CanTake q slice) (sym same) can).words

-- a slice of which all of this is so can be taken
pub takes : (r s : Engine) (slice : Slice) (x : Mind) (count : ℕ) (ws : List ℕ) → r ≡ s → Sound r → may_go s.opening (seen s) ≡ true
    → count ≤ r.opening.settings.budget - r.retired → count ≡ slice.count → is_free r.hold slice.hart ≡ true → slice_get s.minds slice.hart ≡ Some x → goes_apart x ≡ true
    → ((c : Core) → slice_get r.machine.cores slice.hart ≡ Some c → c.regs ≡ slice.regs) → ws ≡ slice.words.items → AreStored r.machine.text slice.at ws → CanTake s slice
takes r s slice x count ws same f may budget many free at apart began are words =
    let go : may_go r.opening (seen r) ≡ true = ap (λ (q : Engine). may_go q.opening (seen q)) same ∙ may in
    let low = below r go in
    let there : slice_get r.minds slice.hart ≡ Some x = ap (λ (q : Engine). slice_get q.minds slice.hart) same ∙ at in
    let k = core_at r slice.hart x f there in
    let can : CanTake r slice = record {
      may = go;
      budget = omega (arith, low.0);
      free = free;
      mind = x;
      at = there;
      apart = apart;
      hart = seen_hart r.opening.image k.0 x;
      shown = hart_at r slice.hart k.0 x k.1;
      regs = own_regs r k.0 x apart ∙ began k.0 k.1.core;
      words = subst (AreStored r.machine.text slice.at) are words;
    } in
    subst (λ (q : Engine). CanTake q slice) same can
