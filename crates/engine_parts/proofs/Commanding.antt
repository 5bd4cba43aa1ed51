-- A line keeps what the type of an engine keeps.
use Rattle.std.proofs.Common.{◌≡◌, ℕ, zero, suc, ◌+◌, ◌^◌, ◌-◌, ◌<◌, ◌≤◌, Bool, true, false, cond, List, [], ◌∷◌, ◌++◌, length, refl, sym, ap, ◌∙◌, subst, arith, append_assoc}
use Rattle.std.specs.Prelude.{Option, Some, None, is_some, map, slice_get, slice_set, ◌&&◌, not, nat_le}
use Rattle.std.proofs.lemmas.Bool.Decides.{nat_tests}
use Rattle.std.proofs.lemmas.Option.{slice_get_within}
use Rattle.elf32_read.specs.Program.{Program}
use Rattle.text_words.specs.Words.{Words}
use Rattle.hart_machine.specs.declared.hart.Core.{Core}
use Rattle.hart_machine.specs.Patched.{Patched}
use Rattle.break_table.specs.Entry.{Entry as BreakEntry}
use Rattle.break_table.specs.Table.{Table}
use Rattle.elf32_read.specs.declared.spans.Span.{Span}
use Rattle.dbg_model.specs.declared.entry.Entry.{Entry}
use Rattle.dbg_model.specs.declared.entry.Entry.TheVariants.{Did, Poked}
use Rattle.dbg_model.specs.declared.entry.Poke.{Poke}
use Rattle.dbg_model.specs.declared.entry.Poke.TheVariants as poke
use Rattle.data_memory.specs.Ranges.{with_bytes}
use Rattle.hart_machine.specs.Poking.{poked_core}
use Rattle.hart_machine.proofs.Places.{same_some}
use Rattle.dbg_model.specs.declared.opening.Opening.{Opening}
use Rattle.mi_commands.specs.declared.command.Displaced.{Displaced}
use Rattle.step_over.specs.declared.phase.Phase.{Phase}
use Rattle.dbg_model.specs.Limits.{history}
use Rattle.dbg_model.specs.declared.hart.Hart.{Hart}
use Rattle.dbg_model.specs.State.{State, any_runs, is_off, is_stopped}
use Rattle.watch_points.specs.declared.watchpoint.Watch.{Watch}
use Rattle.dbg_model.specs.Outcome.{Change, stays, resumes, selects, inserts, adds_watch, deletes, enables, conditions, ignores, interrupts, displaces, pokes, exits}
use Rattle.dbg_model.specs.Sight.{thread_at}
use Rattle.dbg_model.specs.Reply.{exited_after, answer_of, changed_by, done_by, is_wait, selected_after, displaced_after, sets_after, breaks_after, given_after, pending_after, watches_after}
use Rattle.dbg_model.specs.Lawful.{enter, may_go, may_do}
use Rattle.dbg_model.proofs.Founding.{IsFounded, IsStoppedHart, IsWritable, change_founded, change_writable}
use Rattle.dbg_model.proofs.Inserting.{there}
use Rattle.dbg_model.proofs.Numbering.{given_within}
use Rattle.dbg_model.proofs.Options.{both_true}
use Rattle.engine_parts.specs.declared.mind.Mind.{Mind}
use Rattle.engine_parts.specs.declared.mind.Activity.{Activity}
use Rattle.engine_parts.specs.declared.mind.Activity.TheVariants as activity
use Rattle.engine_parts.specs.Minds.{awaited, entered_of, is_active, is_lifted, mode_of}
use Rattle.engine_parts.specs.Seen.{Engine, seen, seen_with, told_of, seen_hart, seen_harts}
use Rattle.engine_parts.specs.Facts.{Facts, Sound, IsThread, wants_of, Planted, AreInText, pending}
use Rattle.engine_parts.proofs.Built.{lined, poked}
use Rattle.engine_parts.specs.Tables.{ArePlanted}
use Rattle.engine_parts.proofs.Stopping.{lines}
use Rattle.engine_parts.specs.Moves.{SameCopies}
use Rattle.engine_parts.proofs.Bounding.{below}
use Rattle.engine_parts.proofs.CopyCounts.{copies_set}
use Rattle.engine_parts.proofs.Breaking.{planted_again}
use Rattle.engine_parts.proofs.Keeping.{Enters, Mover, hart_at}
use Rattle.engine_parts.proofs.Holding.{core_at, get_within}
use Rattle.engine_parts.proofs.Stepping.{fact_of}
use Rattle.engine_parts.proofs.Asking.{Writes, asking, writes_register, writes_bytes}
use Rattle.engine_parts.specs.Changing.{Makes, Retabled, wants_by}
use Rattle.engine_parts.specs.Calls.{Lines, pokes_of, poked_after}
use Rattle.engine_parts.specs.Writing.{CanPoke, Pokes}
use Rattle.engine_parts.specs.Resuming.{minds_after}
use Rattle.engine_parts.proofs.GoingOn.{line_ordered}
use Rattle.engine_parts.proofs.Holds.{Moved}
use Rattle.engine_parts.proofs.Halting.{Noted}

enter_did : (o : Opening) (s : State) (line : List ℕ) → may_do o s line ≡ true → enter o s (Did line) ≡ Some (done_by o s line)
unfolding enter
enter_did o s line may = rw may refl

pub harts_length : (p : Program) (cs : List Core) (xs : List Mind) → length cs ≡ length xs → length (seen_harts p cs xs) ≡ length xs
harts_length p [] [] len = refl
harts_length p [] (x ∷ xs) len = absurd (omega arith)
harts_length p (c ∷ cs) [] len = refl
harts_length p (c ∷ cs) (x ∷ xs) len = let l : length cs ≡ length xs = omega arith in ap suc (harts_length p cs xs l)

-- a thread that is there has a number of one of the harts
pub thread_within : (o : Opening) (xs : List Hart) (t : ℕ) → length xs ≡ o.settings.harts → is_some (thread_at xs t) ≡ true → IsThread o t
thread_within o xs zero len e = absurd cc
thread_within o xs (suc h) len e =
    let x = there (slice_get xs h) e in
    let low = slice_get_within xs h x.0 x.1 in
    (omega arith, omega (arith, len))

selected_within : (o : Opening) (p : Program) (xs : List Hart) (es : List BreakEntry) (selected : ℕ) (c : Change) → IsThread o selected → length xs ≡ o.settings.harts → IsFounded p xs es c → IsThread o (selected_after selected c)
selected_within o p xs es selected stays is len f = is
selected_within o p xs es selected (resumes ts plan) is len f = is
selected_within o p xs es selected (selects t) is len f = thread_within o xs t len f
selected_within o p xs es selected (inserts a) is len f = is
selected_within o p xs es selected (adds_watch text b) is len f = is
selected_within o p xs es selected (deletes ns) is len f = is
selected_within o p xs es selected (enables b ns) is len f = is
selected_within o p xs es selected (conditions n c) is len f = is
selected_within o p xs es selected (ignores n k) is len f = is
selected_within o p xs es selected (interrupts ts) is len f = is
selected_within o p xs es selected (displaces value) is len f = is
selected_within o p xs es selected (pokes w) is len f = is
selected_within o p xs es selected exits is len f = is

done_is : (o : Opening) (s : State) (line : List ℕ) (c : Change) → (answer_of o s line).outcome.change ≡ c → done_by o s line ≡ changed_by s c
unfolding done_by
done_is o s line c is = ap (changed_by s) is

abbrev pub LinedTo : Engine → Engine → List ℕ → Type 0
LinedTo r new line = Noted new (λ n. Lines r n line)

-- the engine after such a line
abbrev after_line : Engine → List ℕ → Change → Words → ℕ → Engine
after_line r line c t spare =
    lined r (Did line) (minds_after r.minds c) (selected_after r.selected c) (displaced_after r.displaced c) t (breaks_after r.breaks r.given c) (watches_after r.watches r.given c) (given_after r.given c) (exited_after r.exited c) spare

pending_as : (d : Displaced) (q : Phase) (off lifted : Bool) → is_off d ≡ off → is_lifted q ≡ lifted → pending d q ≡ cond (not off && lifted) 1 0
pending_as d q off lifted e f = ap (λ b. cond (not b && is_lifted q) 1 0) e ∙ ap (λ b. cond (not off && b) 1 0) f

pending_by : (d : Displaced) (q : Phase) (off lifted : Bool) → is_off d ≡ off → is_lifted q ≡ lifted → pending d q ≤ cond off 0 1
pending_by d q true lifted e f = let p : pending d q ≡ cond (not true && lifted) 1 0 = pending_as d q true lifted e f in omega (arith, p)
pending_by d q false true e f = let p : pending d q ≡ cond (not false && true) 1 0 = pending_as d q false true e f in omega (arith, p)
pending_by d q false false e f = let p : pending d q ≡ cond (not false && false) 1 0 = pending_as d q false false e f in omega (arith, p)

sets_by_more : (d value : Displaced) (q : Phase) (sets : ℕ) (off : Bool) → is_off value ≡ off → pending value q + sets ≤ pending d q + cond off sets (sets + 1)
sets_by_more d value q sets true e = let l = pending_by value q true (is_lifted q) e refl in omega (arith, l)
sets_by_more d value q sets false e = let l = pending_by value q false (is_lifted q) e refl in omega (arith, l)

-- a line that switches displaced stepping on is counted for the one patch that may be lifted then
sets_more : (d : Displaced) (sets : ℕ) (c : Change) (q : Phase) → pending (displaced_after d c) q + sets ≤ pending d q + sets_after sets c
sets_more d sets stays q = omega arith
sets_more d sets (resumes ts plan) q = omega arith
sets_more d sets (selects t) q = omega arith
sets_more d sets (inserts a) q = omega arith
sets_more d sets (adds_watch text b) q = omega arith
sets_more d sets (deletes ns) q = omega arith
sets_more d sets (enables b ns) q = omega arith
sets_more d sets (conditions n c) q = omega arith
sets_more d sets (ignores n k) q = omega arith
sets_more d sets (interrupts ts) q = omega arith
sets_more d sets (displaces value) q = sets_by_more d value q sets (is_off value) refl
sets_more d sets (pokes w) q = omega arith
sets_more d sets exits q = omega arith

lined_to : (r : Engine) (line : List ℕ) (c : Change) (t : Words) (spare : ℕ) → Sound r → may_do r.opening (seen r) line ≡ true → Makes r line c
    → pending_after None c ≡ None → Planted r.opening.image t (record (wants_of r) { entries = breaks_after r.breaks r.given c })
    → AreInText r.opening.image (breaks_after r.breaks r.given c) → LinedTo r (after_line r line c t spare) line
lined_to r line c t spare f may is none p texts =
    let image = r.opening.image in
    let n = after_line r line c t spare in
    let s = changed_by (seen r) c in
    let done = done_is r.opening (seen r) line c is in
    let o = line_ordered image r.machine.cores r.machine.slots r.hold r.minds c f.harts in
    let same : s ≡ seen_with n (told_of s) =
    ap (λ w. let u : State = record s { pending = w } in u) none ∙ ap (λ ys. let u : State = record s { harts = ys; pending = None } in u) (sym o.sees) in
    let founded = subst (IsFounded image (seen r).harts r.breaks) is (change_founded r.opening (seen r) line) in
    let len : length (seen r).harts ≡ r.opening.settings.harts = harts_length image r.machine.cores r.minds f.harts.len ∙ f.count in
    let e : Enters n s =
    lines r (Did line) (minds_after r.minds c) (selected_after r.selected c) (displaced_after r.displaced c) t (breaks_after r.breaks r.given c)
    (watches_after r.watches r.given c) (given_after r.given c) (exited_after r.exited c) spare s f refl (enter_did r.opening (seen r) line may ∙ ap Some done) same
    o.len
    (selected_within r.opening image (seen r).harts r.breaks r.selected c f.selected len founded)
    o.harts
    (record { phases = o.phases; passed = refl; sets = λ q. sets_more r.displaced (seen r).sets c q }) p texts in
    let asks : (done_by r.opening (seen r) line).pending ≡ None = ap (λ (t : State). t.pending) done ∙ none in
    record {
      sound = e.facts;
      does = λ u ws. record {
        journal = ap (λ q. r.journal ++ Did line ∷ pokes_of q) (sym asks);
        seen = ap (poked_after r.opening (done_by r.opening (seen r) line)) asks ∙ ap Some (done ∙ e.seen);
        opening = refl;
        copies = refl;
      };
    }

-- ---- writes

-- the engine after a line that asks for a write, with a machine in which that was written
abbrev pub written_run : Engine → List Entry → Patched → ℕ → Engine
written_run r j m spare = record r { journal = j; spare = spare; machine = m; noted = r.noted + 2 }

-- the line and its write are in the journal, and the state is that after both
write_lines : (r new : Engine) (line : List ℕ) (p : Poke) → Facts r → Makes r line (pokes p) → Writes r new p
    → new.journal ≡ (r.journal ++ Did line ∷ []) ++ Poked p ∷ [] → new.opening ≡ r.opening → new.waits ≡ r.waits → new.minds ≡ r.minds → SameCopies r new
    → Moved new (Lines r new line)
write_lines r new line p f is w journal opening waits minds copies =
    let done = done_is r.opening (seen r) line (pokes p) is in
    let asks : (done_by r.opening (seen r) line).pending ≡ Some p = ap (λ (t : State). t.pending) done in
    record {
      facts = record { sound = w.facts; waits = waits ∙ (f.waits ∙ (ap (λ (o : Opening). map (awaited o.image) r.minds) (sym opening) ∙ ap (map (awaited new.opening.image)) (sym minds))) };
      does = record {
        journal = journal ∙ (append_assoc r.journal (Did line ∷ []) (Poked p ∷ []) ∙ ap (λ q. r.journal ++ Did line ∷ pokes_of q) (sym asks));
        seen = ap (poked_after r.opening (done_by r.opening (seen r) line)) asks ∙ (ap (λ t. enter r.opening t (Poked p)) done ∙ w.comes);
        opening = opening;
        copies = copies;
      };
    }

-- a stopped hart, as the engine keeps it
stops_as : (a : Activity) → is_stopped (mode_of a) ≡ true → a ≡ activity.Stopped
stops_as activity.Stopped is = refl
stops_as activity.Running is = cc
stops_as activity.Exited is = cc

record Stops (r : Engine) (h : ℕ) : Type 0 where
  core : Core
  mind : Mind
  mover : Mover r h core mind
  stops : mind.activity ≡ activity.Stopped

stops_at : (r : Engine) (h : ℕ) → Sound r → IsStoppedHart (seen r).harts h → Stops r h
stops_at r h f s =
    let low = slice_get_within (seen r).harts h s.hart s.at in
    let len = harts_length r.opening.image r.machine.cores r.minds f.harts.len in
    let x = get_within r.minds h (omega (arith, low, len)) in
    let c = core_at r h x.0 f x.1 in
    let same : seen_hart r.opening.image c.0 x.0 ≡ s.hart = same_some (seen_hart r.opening.image c.0 x.0) s.hart (sym (hart_at r h c.0 x.0 c.1) ∙ s.at) in
    record { core = c.0; mind = x.0; mover = c.1; stops = stops_as x.0.activity (ap (λ (y : Hart). is_stopped y.mode) same ∙ s.stopped) }

-- what a line asks to be written can be
can_poke_by : (r : Engine) (p : Poke) → Sound r → IsWritable (seen r) p → CanPoke r.machine p
can_poke_by r (poke.Register h n v) f w =
    let s = stops_at r h f w.0 in
    let fact = fact_of r h s.core s.mind f s.mover in
    let out : s.core.entered ≡ None = fact.entered ∙ ap entered_of (fact.idle (ap is_active s.stops)) in
    let low = slice_get_within r.machine.cores h s.core s.mover.core in
    let n' = both_true (nat_le 1 n) (nat_le n 31) w.1 in
    let least = n'.0 in
    let most = n'.1 in
    (low, (grind (arith, nat_tests), grind (arith, nat_tests)), λ c at. ap (λ (d : Core). d.entered) (same_some c s.core (sym at ∙ s.mover.core)) ∙ out)
can_poke_by r (poke.Bytes a bytes) f w = w

pub can_poke : (r : Engine) (line : List ℕ) (p : Poke) → Sound r → Makes r line (pokes p) → CanPoke r.machine p
can_poke r line p f is = can_poke_by r p f (change_writable r.opening (seen r) line p is)

wrote_by : (r : Engine) (spare : ℕ) (line : List ℕ) (p : Poke) (m : Patched) → Facts r → may_do r.opening (seen r) line ≡ true → Makes r line (pokes p) → IsWritable (seen r) p → Pokes r.machine p m
    → (let new = written_run r ((r.journal ++ Did line ∷ []) ++ Poked p ∷ []) m spare in Moved new (Lines r new line))
wrote_by r spare line (poke.Register h n v) m f may is can w =
    let p : Poke = poke.Register h n v in
    let s = stops_at r h f.sound can.0 in
    let did : enter r.opening (seen r) (Did line) ≡ Some (asking (seen r) p) = enter_did r.opening (seen r) line may ∙ ap Some (done_is r.opening (seen r) line (pokes p) is) in
    let e = writes_register r line h n v spare s.core s.mind f.sound did s.mover s.stops can.1 in
    let P : Patched → Type 0 = λ n. (let new = written_run r ((r.journal ++ Did line ∷ []) ++ Poked p ∷ []) n spare in Moved new (Lines r new line)) in
    subst P (sym (w s.core s.mover.core)) (write_lines r (poked r line p (slice_set r.machine.cores h (poked_core s.core n v)) r.machine.memory spare) line p f is e refl refl refl refl
    (copies_set r.machine.cores h s.core (poked_core s.core n v) s.mover.core refl))
wrote_by r spare line (poke.Bytes a bytes) m f may is can w =
    let p : Poke = poke.Bytes a bytes in
    let did : enter r.opening (seen r) (Did line) ≡ Some (asking (seen r) p) = enter_did r.opening (seen r) line may ∙ ap Some (done_is r.opening (seen r) line (pokes p) is) in
    let e = writes_bytes r line a bytes spare f.sound did can in
    let P : Patched → Type 0 = λ n. (let new = written_run r ((r.journal ++ Did line ∷ []) ++ Poked p ∷ []) n spare in Moved new (Lines r new line)) in
    subst P (sym w) (write_lines r (poked r line p r.machine.cores (with_bytes r.machine.memory a bytes) spare) line p f is e refl refl refl refl refl)

-- A line that asks for a write was done, and that was written.
pub wrote_line : (r : Engine) (spare : ℕ) (line : List ℕ) (p : Poke) (j : List Entry) (m : Patched) → Facts r → may_do r.opening (seen r) line ≡ true
    → Makes r line (pokes p) → j ≡ (r.journal ++ Did line ∷ []) ++ Poked p ∷ [] → Pokes r.machine p m
    → (let new = written_run r j m spare in Moved new (Lines r new line))
wrote_line r spare line p j m f may is journal w =
    let P : List Entry → Type 0 = λ es. (let new = written_run r es m spare in Moved new (Lines r new line)) in
    subst P (sym journal) (wrote_by r spare line p m f may is (change_writable r.opening (seen r) line p is) w)

-- A line that makes a change was done: the journal, what is kept of the harts, the settings and the table are those after it.
pub done_line : (r : Engine) (spare : ℕ) (line : List ℕ) (c : Change) (j : List Entry) (m : Patched) (xs : List Mind) (selected : ℕ) (d : Displaced)
    (exited : Bool) (watches : List Watch) (old new : Table) → Sound r → may_do r.opening (seen r) line ≡ true → Makes r line c → pending_after None c ≡ None
    → r.breaks ≡ old.entries → r.given ≡ old.given → r.bounds ≡ old.text → r.waits ≡ old.waits
    → j ≡ r.journal ++ Did line ∷ [] → xs ≡ minds_after r.minds c → selected ≡ selected_after r.selected c → d ≡ displaced_after r.displaced c → exited ≡ exited_after r.exited c
    → new ≡ record old { entries = breaks_after old.entries old.given c; given = given_after old.given c } → watches ≡ watches_after r.watches old.given c → Retabled r.machine m (wants_by new r.hold)
    → LinedTo r (record r {
      journal = j;
      spare = spare;
      machine = m;
      minds = xs;
      watches = watches;
      breaks = new.entries;
      given = new.given;
      bounds =
          new.text;
      waits = new.waits;
      selected = selected;
      displaced = d;
      noted = r.noted + 1;
      exited = exited;
    }) line
done_line r spare line c j m xs selected d exited watches old new f may is none breaks given bounds waits same minds chosen set ended table watched w =
    let N : List Watch → List Entry → Patched → List Mind → ℕ → Displaced → Bool → List BreakEntry → ℕ → List Span → List (Option ℕ) → Type 0 =
    λ ps es n ys t v x cs g us vs. LinedTo r (record r {
      watches = ps;
      journal = es;
      spare = spare;
      machine = n;
      minds = ys;
      selected = t;
      displaced = v;
      breaks = cs;
      given = g;
      bounds = us;
      waits
          = vs;
      noted = r.noted + 1;
      exited = x;
    }) line in
    let es = r.journal ++ Did line ∷ [] in
    let m' : Patched = record r.machine { text = m.text } in
    let ys = minds_after r.minds c in
    let t = selected_after r.selected c in
    let v = displaced_after r.displaced c in
    let x = exited_after r.exited c in
    let cs = breaks_after r.breaks r.given c in
    let g = given_after r.given c in
    let bs : new.entries ≡ cs = ap (λ (t : Table). t.entries) table ∙ (ap (λ es. breaks_after es old.given c) (sym breaks) ∙ ap (λ g. breaks_after r.breaks g c) (sym given)) in
    let gs : new.given ≡ g = ap (λ (t : Table). t.given) table ∙ ap (λ g. given_after g c) (sym given) in
    let ts : new.text ≡ r.bounds = ap (λ (t : Table). t.text) table ∙ sym bounds in
    let ws : new.waits ≡ r.waits = ap (λ (t : Table). t.waits) table ∙ sym waits in
    let A : List BreakEntry → List (Option ℕ) → Type 0 = λ es vs. ArePlanted m.text (record { entries = es; waits = vs; hold = r.hold }) in
    let again = planted_again r m.text cs f w.words (subst (λ (vs : List (Option ℕ)). A cs vs) ws (subst (λ (es : List BreakEntry). A es new.waits) bs w.planted)) in
    let ps = watches_after r.watches r.given c in
    let watches_are : watches ≡ ps = watched ∙ ap (λ g. watches_after r.watches g c) (sym given) in
    let first : N ps es m' ys t v x cs g r.bounds r.waits = lined_to r line c m.text spare f may is none again.0 again.1 in
    subst (λ (vs : List Watch). N vs j m xs selected d exited new.entries new.given new.text new.waits) (sym watches_are)
    (subst (λ (ls : List Entry). N ps ls m xs selected d exited new.entries new.given new.text new.waits) (sym same)
    (subst (λ (n : Patched). N ps es n xs selected d exited new.entries new.given new.text new.waits) (sym w.rest)
    (subst (λ (zs : List Mind). N ps es m' zs selected d exited new.entries new.given new.text new.waits) (sym minds)
    (subst (λ (u : ℕ). N ps es m' ys u d exited new.entries new.given new.text new.waits) (sym chosen)
    (subst (λ (u : Displaced). N ps es m' ys t u exited new.entries new.given new.text new.waits) (sym set)
    (subst (λ (u : Bool). N ps es m' ys t v u new.entries new.given new.text new.waits) (sym ended)
    (subst (λ (ds : List BreakEntry). N ps es m' ys t v x ds new.given new.text new.waits) (sym bs)
    (subst (λ (k : ℕ). N ps es m' ys t v x cs k new.text new.waits) (sym gs)
    (subst (λ (us : List Span). N ps es m' ys t v x cs g us new.waits) (sym ts)
    (subst (λ (vs : List (Option ℕ)). N ps es m' ys t v x cs g r.bounds vs) (sym ws) first))))))))))

-- ---- what a new breakpoint rests on

-- the numbers have room
pub numbers_room : (r : Engine) → Sound r → r.noted < history → r.given < 2 ^ 32 - 1
numbers_room r f low = omega (arith, given_within r.opening r.journal (seen r) f.leaves)

-- a line that may be done is not beyond the last
pub noted_low : (r : Engine) (line : List ℕ) → may_do r.opening (seen r) line ≡ true → r.noted < history
noted_low r line may =
    let s = seen r in
    (below r (both_true (may_go r.opening s) (not (any_runs s.harts && is_wait line)) may).0).1
