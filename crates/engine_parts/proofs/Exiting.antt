-- An instruction by which harts exit: they leave, each is reported, and no patch stays lifted.
use Rattle.std.proofs.Common.{◌≡◌, ◌≤◌, ℕ, ◌+◌, true, false, List, [], ◌∷◌, ◌++◌, length, refl, sym, ap, ◌∙◌, subst, arith, length-set}
use Rattle.std.specs.Prelude.{Option, Some, None, map, slice_get, slice_index, slice_set}
use Rattle.std.proofs.lemmas.List.{length-map}
use Rattle.rv_exec.specs.Memory.{Memory}
use Rattle.text_words.specs.Words.{Words}
use Rattle.plain_machine.specs.Environment.{Goes, LeavesAlone, LeavesAll}
use Rattle.plain_machine.specs.Plain.{plain}
use Rattle.elf32_read.specs.Program.{Program}
use Rattle.scratch_slots.specs.declared.slots.SlotUse.{SlotUse}
use Rattle.mi_commands.specs.declared.command.Displaced.{Displaced}
use Rattle.step_over.specs.declared.phase.Phase.TheVariants as phase
use Rattle.hart_machine.specs.declared.hart.Core.{Core}
use Rattle.hart_machine.proofs.Places.{set_twice, get-set_same}
use Rattle.break_table.specs.Table.{stands}
use Rattle.dbg_model.specs.declared.entry.Entry.{Entry}
use Rattle.dbg_model.specs.declared.entry.Entry.TheVariants.{Left}
use Rattle.dbg_model.specs.declared.entry.Mode.TheVariants as mode
use Rattle.dbg_model.specs.declared.hart.Hart.{Hart}
use Rattle.dbg_model.specs.State.{State, any_leaves}
use Rattle.watch_points.specs.Watches.{fired_by}
use Rattle.dbg_model.specs.Lawful.{one_more_at, may_run, leaving, passes}
use Rattle.dbg_model.specs.Lawful as lawful
use Rattle.dbg_model.specs.Leaving.{lefts_from, gone, LeaveWith}
use Rattle.dbg_model.specs.Journals.{Leaves, lengthened}
use Rattle.dbg_model.proofs.Adding.{lengthens}
use Rattle.dbg_model.proofs.Ending.{one_open}
use Rattle.dbg_model.proofs.Leaving.{drains}
use Rattle.engine_parts.specs.declared.mind.Activity.TheVariants as activity
use Rattle.engine_parts.specs.declared.mind.Mind.{Mind}
use Rattle.engine_parts.specs.Minds.{mode_of, after_step, is_before, gone_mind, lefts_live}
use Rattle.engine_parts.specs.Seen.{Engine, seen, seen_hart, seen_harts, running_regs}
use Rattle.engine_parts.specs.Facts.{Sound, Planted, AreCopied, Retired, called, held_by, pending, wants_of}
use Rattle.engine_parts.specs.Moves.{AreHome}
use Rattle.engine_parts.specs.Calls.{Leavers}
use Rattle.engine_parts.proofs.Built.{departed}
use Rattle.engine_parts.proofs.Showing.{seen-set, seen_quiet, alone_lefts, alone_gone, alone_with, alone_some, all_lefts, all_left, all_with, all_some}
use Rattle.engine_parts.proofs.Counting.{retired_ran, retired_quiet, quiet_lefts_live, copied_more, Balances, adds}
use Rattle.engine_parts.proofs.Updating.{SlotChange, AllFree, updated, all_updated, home_at, gone_by, none_some}
use Rattle.engine_parts.proofs.Keeping.{Mover, entered, hart_at}
use Rattle.engine_parts.proofs.Stepping.{after_one, is_copied, sets_out, ran_of, one_seen, ran_seen, balances, here_none}
use Rattle.engine_parts.proofs.Holding.{idle_pending}

-- an instruction by which harts left, and the journal's entries of that
pub record Departs (r n : Engine) (h code : ℕ) (lefts : List Entry) : Type 0 where
  pub facts : Sound n
  pub leavers : Leavers r h (length lefts) code
  pub journal : n.journal ≡ lengthened r.journal h ++ lefts_from 0 leavers.between.harts
  pub harts : (seen n).harts ≡ map gone leavers.between.harts

-- the state after the entries of the harts that leave
drained : (r n : Engine) (h : ℕ) (t : State) (lefts : List Entry) → Sound r → n.opening ≡ r.opening → n.journal ≡ lengthened r.journal h ++ lefts
    → Leaves r.opening (lengthened r.journal h) t → t.exited ≡ false → lefts_from 0 t.harts ≡ lefts
    → Leaves n.opening n.journal (record t { harts = map gone t.harts; noted = t.noted + length lefts })
drained r n h t lefts f same journal l still is =
    let d = drains r.opening (lengthened r.journal h) t [] t.harts t.noted still refl l in
    let P : List Entry → Type 0 = λ es. Leaves r.opening (lengthened r.journal h ++ es) (record t { harts = map gone t.harts; noted = t.noted + length es }) in
    rw (same, journal) (subst P is d)

zero_plus : (h : ℕ) → 0 + h ≡ h
zero_plus h = omega arith

-- this hart exits, and is home
pub departs_alone : (r : Engine) (h spare code : ℕ) (c d : Core) (x : Mind) (mem : Memory) (t : Words) (slots : List (Option SlotUse)) → Sound r → Mover r h c x → x.activity ≡ activity.Running → is_before x.phase ≡ true
    → (x.phase ≡ phase.Idle → called r.breaks r.waits c.regs.pc ≡ false) → may_run r.opening (seen r) h (seen_hart r.opening.image c x) ≡ true
    → plain r.opening.image (seen_hart r.opening.image c x).regs r.machine.memory ≡ Goes d.regs mem [] (LeavesAlone code) → d.retired ≡ c.retired + 1 → d.copied ≡ c.copied + adds (is_copied x.phase) → d.entered ≡ None
    → ((k : ℕ) → (h ≡ k → ⊥) → held_by r.hold k ≡ held_by None k) → SlotChange r.machine.slots slots h phase.Idle → length slots ≡ length r.machine.slots → Planted r.opening.image t (record (wants_of r) { hold = None })
    → Departs r (departed r h (slice_set r.machine.cores h d) (slice_set r.minds h (gone_mind (ran_of r h c x mem))) mem t slots (Left h code ∷ []) 1 spare) h code (Left h code ∷ [])
departs_alone r h spare code c d x mem t slots f m runs before none may is more copied out holds free len p =
    let image = r.opening.image in
    let y = seen_hart image c x in
    let goes = one_seen r h c x d.regs mem [] (LeavesAlone code) m may is in
    let x' = gone_mind (ran_of r h c x mem) in
    let xs = slice_set r.minds h x' in
    let cs = slice_set r.machine.cores h d in
    let es = Left h code ∷ [] in
    let n : Engine = departed r h cs xs mem t slots es 1 spare in
    let s = after_one r h c x d.regs mem [] (LeavesAlone code) in
    let v = lawful.stepped (sets_out r h c x) d.regs (fired_by r.watches r.machine.memory mem) in
    let w : Hart = record v { mode = mode.Running } in
    let z : Hart = record v { mode = mode.Leaving code } in
    let stepped_is : v ≡ w = ap (λ a. let u : Hart = record v { mode = mode_of a } in u) runs in
    let ys = slice_set (seen r).harts h v in
    let quiet = seen_quiet image r.machine.cores r.minds in
    let had = hart_at r h c x m in
    let there : slice_get ys h ≡ Some w = get-set_same (seen r).harts h v y had ∙ ap Some stepped_is in
    let harts : s.harts ≡ slice_set (seen r).harts h z = ap (lawful.leaving_at code ys h) there ∙ set_twice (seen r).harts h v z in
    let lefts : lefts_from 0 s.harts ≡ es = ap (lefts_from 0) harts ∙ (alone_lefts (seen r).harts h 0 code y z quiet had refl ∙ ap (λ k. Left k code ∷ []) (zero_plus h)) in
    let after : map gone s.harts ≡ seen_harts image cs xs = ap (map gone) harts ∙ (alone_gone (seen r).harts h z quiet ∙ sym (seen-set image r.machine.cores r.minds h d x')) in
    let l = lengthens r.opening r.journal h (seen r) s f.leaves goes.one in
    let u : State = record s { harts = map gone s.harts; noted = s.noted + 1 } in
    let idle_bal : Balances r.opening.settings.slots r.displaced c d x.phase phase.Idle (adds (passes (seen r) y)) =
    λ some.
    let b = balances r.opening.settings.slots r.displaced c d x.phase (stands y.regs.pc r.breaks) before copied (here_none r c x none runs) some in
    let e = idle_pending r.displaced in
    omega (arith, b, e)
    in
    let e = entered n u f.settings (drained r n h s es f refl refl l (one_open r.opening h (seen r) s goes.one) lefts) (ap (λ hs. let a : State = record u { harts = hs } in a) after)
    (record {
      count = length-set r.minds h x' ∙ f.count;
      selected = f.selected;
      harts = updated image r.machine.cores r.machine.slots slots r.minds r.hold None h d x x' f.harts m.mind
          (record { slots = free; holds = holds; fact = record { placed = tt; entered = out; held = refl; idle = λ e. refl }; holder = λ d e. none_some d e });
      slots = len ∙ f.slots;
      planted = p;
      texts = f.texts;
      places = f.places;
      many = f.many;
      awaits = f.awaits;
      sources = f.sources;
      retired = retired_quiet cs (lengthened r.journal h) es (λ i. refl) (retired_ran r.machine.cores h c d r.journal m.core more f.retired);
      copied = copied_more r.opening.settings.slots r.machine.cores r.minds h c d x x' r.displaced (seen r).passed (seen r).sets (passes (seen r) y) m.core m.mind idle_bal f.copied;
    }) in
    record {
      facts = e.facts;
      leavers =
          record {
            between = s;
            one = goes.one;
            wrote = goes.wrote;
            some = ap any_leaves harts ∙ alone_some (seen r).harts h code y z had refl;
            codes = subst (LeaveWith code) (sym harts) (alone_with (seen r).harts h code z quiet refl);
            counted = ap length lefts;
          };
      journal = ap (λ ls. lengthened r.journal h ++ ls) (sym lefts);
      harts = sym after;
    }

-- the counts of harts that came home
pub retired_home : (p : Program) (cs : List Core) (xs : List Mind) (ds : List Core) (j : List Entry) → AreHome p cs xs ds → Retired cs j → Retired ds j
retired_home p cs xs ds j home r k d at =
    let a = home_at p cs xs ds k d home at in
    a.home.retired ∙ r k a.core a.core_at

-- what the copies of harts that have exited count
copied_gone : (p : Program) (count : ℕ) (cs : List Core) (xs : List Mind) (ds : List Core) (d : Displaced) (passed : List ℕ) (sets : ℕ)
    → AreHome p cs xs ds → AreCopied count cs xs d passed sets → AreCopied count ds (map gone_mind xs) d passed sets
copied_gone p count cs xs ds d passed sets home f some k e y ek yk =
    let a = home_at p cs xs ds k e home ek in
    let had : slice_index passed k + pending d a.mind.phase ≤ a.core.copied + sets = f some k a.core a.mind a.core_at a.mind_at in
    let same = a.home.copied in
    let none : pending d y.phase ≡ 0 = ap (pending d) (gone_by xs k y yk).phase_is ∙ idle_pending d in
    omega (arith, had, same, none)

-- all harts exit, and are home
pub departs_all : (r : Engine) (h spare code : ℕ) (c c' : Core) (x : Mind) (ds : List Core) (mem : Memory) (t : Words) (slots : List (Option SlotUse)) → Sound r → Mover r h c x → x.activity ≡ activity.Running → is_before x.phase ≡ true
    → (x.phase ≡ phase.Idle → called r.breaks r.waits c.regs.pc ≡ false) → may_run r.opening (seen r) h (seen_hart r.opening.image c x) ≡ true
    → plain r.opening.image (seen_hart r.opening.image c x).regs r.machine.memory ≡ Goes (running_regs r.opening.image c'.regs (after_step x.phase))
    mem [] (LeavesAll code) → c'.retired ≡ c.retired + 1 → c'.copied ≡ c.copied + adds (is_copied x.phase)
    → AreHome r.opening.image (slice_set r.machine.cores h c') (slice_set r.minds h (ran_of r h c x mem)) ds → AllFree slots
    → length slots ≡ length r.machine.slots → length ds ≡ length r.machine.cores → Planted r.opening.image t (record (wants_of r) { hold = None })
    → (let es = lefts_live code 0 (slice_set r.minds h (ran_of r h c x mem)) in Departs r (departed r h ds (map gone_mind (slice_set r.minds h (ran_of r h c x mem))) mem t slots es (length es) spare) h code es)
departs_all r h spare code c c' x ds mem t slots f m runs before none may is more copied home free slots_len ds_len p =
    let image = r.opening.image in
    let q = running_regs image c'.regs (after_step x.phase) in
    let y = seen_hart image c x in
    let goes = one_seen r h c x q mem [] (LeavesAll code) m may is in
    let cs = slice_set r.machine.cores h c' in
    let z = ran_of r h c x mem in
    let xs = slice_set r.minds h z in
    let es = lefts_live code 0 xs in
    let n : Engine = departed r h ds (map gone_mind xs) mem t slots es (length es) spare in
    let s = after_one r h c x q mem [] (LeavesAll code) in
    let w = lawful.stepped (sets_out r h c x) q (fired_by r.watches r.machine.memory mem) in
    let w_is : w ≡ seen_hart image c' z = ran_seen r h c c' x mem runs in
    let ran : slice_set (seen r).harts h w ≡ seen_harts image cs xs = ap (slice_set (seen r).harts h) w_is ∙ sym (seen-set image r.machine.cores r.minds h c' z) in
    let harts : s.harts ≡ map (leaving code) (seen_harts image cs xs) = ap (map (leaving code)) ran in
    let cores : length cs ≡ length r.machine.cores = length-set r.machine.cores h c' in
    let minds : length xs ≡ length r.minds = length-set r.minds h z in
    let len : length cs ≡ length xs = cores ∙ (f.harts.len ∙ sym minds) in
    let home_len : length ds ≡ length xs = ds_len ∙ (f.harts.len ∙ sym minds) in
    let lefts : lefts_from 0 s.harts ≡ es = ap (lefts_from 0) harts ∙ all_lefts image 0 code cs xs len in
    let after : map gone s.harts ≡ seen_harts image ds (map gone_mind xs) = ap (map gone) harts ∙ all_left image code cs xs ds home in
    let l = lengthens r.opening r.journal h (seen r) s f.leaves goes.one in
    let u : State = record s { harts = map gone s.harts; noted = s.noted + length es } in
    let gone_len : length (map gone_mind xs) ≡ length xs = simp length-map in
    let counted = copied_more r.opening.settings.slots r.machine.cores r.minds h c c' x z r.displaced (seen r).passed (seen r).sets (passes (seen r) y) m.core m.mind
    (balances r.opening.settings.slots r.displaced c c' x.phase (stands y.regs.pc r.breaks) before copied (here_none r c x none runs)) f.copied in
    let e = entered n u f.settings (drained r n h s es f refl refl l (one_open r.opening h (seen r) s goes.one) lefts) (ap (λ hs. let a : State = record u { harts = hs } in a) after)
    (record {
      count = gone_len ∙ (minds ∙ f.count);
      selected = f.selected;
      harts = all_updated image cs slots xs ds home_len home free;
      slots = slots_len ∙ f.slots;
      planted = p;
      texts = f.texts;
      places = f.places;
      many = f.many;
      awaits = f.awaits;
      sources = f.sources;
      retired = retired_quiet ds (lengthened r.journal h) es (quiet_lefts_live code 0 xs) (retired_home image cs xs ds (lengthened r.journal h) home (retired_ran r.machine.cores h c c' r.journal m.core more f.retired));
      copied = copied_gone image r.opening.settings.slots cs xs ds r.displaced (one_more_at (seen r).passed h (passes (seen r) y)) (seen r).sets home counted;
    }) in
    record {
      facts = e.facts;
      leavers =
          record {
            between = s;
            one = goes.one;
            wrote = goes.wrote;
            some = all_some code (slice_set (seen r).harts h w) h w (get-set_same (seen r).harts h w y (hart_at r h c x m)) (ap mode_of runs);
            codes = subst (LeaveWith code) (sym harts) (all_with image code cs xs);
            counted = ap length lefts;
          };
      journal = ap (λ ls. lengthened r.journal h ++ ls) (sym lefts);
      harts = sym after;
    }
