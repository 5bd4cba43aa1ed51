-- The headline, from what the type of a session keeps, and what it says of the status.
use Rattle.std.proofs.Common.{◌≡◌, ◌≤◌, ℕ, Bool, true, false, List, [], ◌∷◌, ◌++◌, length, refl, sym, ap, ◌∙◌, arith, subst}
use Rattle.std.specs.Prelude.{Option, Some, None, IfSome, IsSome}
use mathlib.Core.Logic.{inl, inr}
use mathlib.Core.List.{append-nil}
use Rattle.std.specs.Prelude.{map}
use Rattle.dbg_traits.specs.Told.{Told}
use Rattle.mi_input.specs.Lines.{lines}
use Rattle.dbg_model.specs.declared.hart.Hart.{Hart}
use Rattle.dbg_model.specs.Journals.{did, noted}
use Rattle.dbg_model.specs.Erase.{erase, steps}
use Rattle.dbg_model.proofs.Plainly.{lawful_plain, plain_of, plain_hart}
use Rattle.dbg_model.proofs.Counting.{counted}
use Rattle.dbg_model.proofs.Bounding.{within_budget}
use Rattle.mi_reports.proofs.Telling.{said_output}
use Rattle.engine_parts.specs.declared.ending.Closed.{Closed}
use Rattle.session_parts.specs.Stage.{Stage}
use Rattle.session_parts.specs.Taking.{Gives}
use Rattle.session_parts.specs.Left.{IsLeft, hart_registers, plain_registers}
use Rattle.session_parts.specs.Ties.{IsTied, IsHeld, Opened, ComesFrom, IsFileOf, AllDone, Taken}
use Rattle.session_parts.specs.Ties as ties
use Rattle.elf_checks.specs.Checks.{fault_of}
use Rattle.elf32_read.specs.Program.{Program}
use Rattle.elf_checks.specs.Reading as reading
use Rattle.elf_checks.specs.declared.fault.ElfFault.{ElfFault}
use Rattle.dbg_model.proofs.Options.{same_some}
use Rattle.dbg_traits.specs.declared.settings.Settings.{Settings}
use Rattle.dbg_model.specs.declared.opening.Opening.{Opening}
use Rattle.session_parts.specs.declared.file.Served.{Served}
use Rattle.session_parts.specs.declared.file.Source.{Source}
use Rattle.session_parts.specs.declared.file.Source.TheVariants.{File, Generated}
use Rattle.session_parts.specs.Source.{file_bytes, input_bytes, input_ended}
use Rattle.session_parts.specs.Early.{Early, IsPart}
use Rattle.session_parts.specs.InTime.{ToldInTime}
use Rattle.session_parts.specs.Logged.{Tells}
use Rattle.session_parts.specs.Scene.{AskFile}
use Rattle.session_parts.specs.Words.{served, served_words, IsWhole}
use Rattle.session_parts.specs.Headline.{Headline, IsDone, IsBelow, Why, Prints, Refused, Good, IsFine, IsWords, IsFile, Ends}
use Rattle.session_parts.specs.declared.status.Status.{Status}
use Rattle.session_parts.specs.declared.status.Status.TheVariants as status
use Rattle.session_parts.proofs.Tying.{told_same}
use Rattle.journal_laws.proofs.Firing.{tells_changes}
use Rattle.journal_laws.proofs.Lasting.{stops_first}

front_lines : (ended : Bool) (bytes : List ℕ) (done : List (List ℕ)) (rest : List ℕ) → Gives ended bytes done rest → (more : List (List ℕ)) × (done ++ more ≡ lines bytes ended)
front_lines true bytes done rest h = (lines rest true, sym h)
front_lines false bytes done rest h = (lines (rest ++ []) false, sym (h [] false) ∙ ap (λ t. lines t false) (append-nil bytes))

all_lines : (bytes : List ℕ) (done : List (List ℕ)) (rest : List ℕ) → Gives true bytes done rest → lines rest true ≡ [] → lines bytes true ≡ done
all_lines bytes done rest h none = h ∙ (ap (λ t. done ++ t) none ∙ append-nil done)

-- the numbers of the journal
pub record Numbers (c : Closed) (r : Stage) : Type 0 where
  pub retired : steps (erase c.journal) ≡ r.state.retired
  pub notes : noted c.journal ≡ r.state.noted
  pub most : r.state.retired ≤ c.opening.settings.budget
  pub budget : c.opening.settings.budget ≡ r.opening.settings.budget

pub numbers : (c : Closed) (r : Stage) → IsLeft r c → Numbers c r
numbers c r e =
    let n = counted c.opening c.journal r.state e.leaves in
    record { retired = sym n.retired; notes = sym n.noted; most = within_budget c.opening c.journal r.state e.leaves; budget = ap (λ o. o.settings.budget) e.opening }

below : (t : Told) (r : Stage) (i : Taken) (c : Closed) → IsLeft r c → IsHeld t r i → ties.IsBelow r i.count → IsBelow t c
below t r i c e h b =
    let n = numbers c r e in
    let low = b.budget in
    let few = b.history in
    let less = b.input in
    record { budget = omega (arith, low, n.retired, n.budget); history = omega (arith, few, n.notes); input = omega (arith, less, h.count) }

done_by : (name : List ℕ) (t : Told) (r : Stage) (i : Taken) (c : Closed) → IsLeft r c → IsHeld t r i → AllDone r i → IsDone (File name) t c r.state
done_by name t r i c e h d =
    let ended = d.ended in
    record {
      ended = h.ended ∙ ended;
      all = told_same t.polled (λ b. Gives i.ended b (did r.journal) i.rest) (λ b. lines b true ≡ did c.journal) (λ b g. all_lines b (did r.journal) i.rest (rw ended at g) d.none ∙ ap did (sym e.journal)) h.input;
      still = d.still;
    }

pub whys : (name : List ℕ) (s : Status) (t : Told) (r : Stage) (i : Taken) (c : Closed) → IsLeft r c → IsTied (Some s) t r i → Why (File name) s t c r.state
whys name status.Done t r i c e h =
    let d = h.cause in
    (d.0, below t r i c e h.held d.1, elim d.2 [ inl all ↦ inl (done_by name t r i c e h.held all) | inr exited ↦ inr exited ])
whys name status.Budget t r i c e h = let n = numbers c r e in let b = h.cause.1 in (h.cause.0, omega (arith, n.retired, n.most, n.budget))
whys name status.History t r i c e h =
    let n = numbers c r e in
    let b = h.cause.1 in
    let same = h.held.count in (
      h.cause.0,
      omega (arith, n.retired, n.budget),
      elim h.cause.2 [ inl noted ↦ inl (omega (arith, n.notes)) | inr count ↦ inr (omega (arith, same)) ],
    )
whys name status.ReadFault t r i c e h = h.cause
whys name status.WriteFault t r i c e h = h.cause
whys name status.NoMemory t r i c e h = tt
whys name status.Words t r i c e h = absurd h.cause
whys name (status.File f) t r i c e h = absurd h.cause
whys name status.Rejected t r i c e h = absurd h.cause

regs_plain : (xs : List Hart) → plain_registers (map plain_hart xs) ≡ hart_registers xs
regs_plain [] = refl
regs_plain (x ∷ xs) = ap (λ t. x.regs ∷ t) (regs_plain xs)

-- the headline, of what a session left, and of where its program and its lines came from
pub heading : (s : Status) (t : Told) (r : Stage) (c : Closed) → IsLeft r c → (opened : Opened t c.opening) → IfSome t.polled (λ b. length b ≡ t.input_length)
    → IfSome (input_bytes opened.source t) (λ b. (rest : List (List ℕ)) × (did c.journal ++ rest ≡ lines b (input_ended opened.source t)))
    → ToldInTime c.opening c.journal t.polled t.asks → Prints opened.source opened.has_log s t c r.state → Why opened.source s t c r.state → Headline s t c
heading s t r c e opened polled front in_time said why = record {
  opened = opened;
  polled = polled;
  lines = front;
  in_time = in_time;
  state = r.state;
  lawful = e.leaves;
  triggered = tells_changes c.opening c.journal r.state e.leaves;
  held = stops_first c.opening c.journal r.state e.leaves;
  plain = plain_of r.state;
  erased = lawful_plain c.opening c.journal r.state e.leaves;
  registers = regs_plain r.state.harts ∙ sym e.registers;
  memory = sym e.memory;
  output = refl;
  planted = e.planted;
  retired = e.retired;
  copied = e.copied;
  said = said;
  shown = said_output c.opening c.journal r.state e.leaves;
  why = why;
}

-- where an opening comes from that the words name in two ways
pub record Named (t : Told) (source : Source) (has_log : Bool) (o : Opening) : Type 0 where
  pub asked : served_words t.words ≡ Some (record { source = source; settings = o.settings; has_log = has_log })
  pub comes : ComesFrom source t o.image

pub named : (t : Told) (o p : Opening) (source : Source) (settings : Settings) (has_log : Bool) → p ≡ o → Opened t o → served_words t.words ≡ Some (record { source = source; settings = settings; has_log = has_log })
    → Named t source has_log p × (p.settings ≡ settings)
named t o p source settings has_log same h asked =
    let a : Served = record { source = h.source; settings = o.settings; has_log = h.has_log } in
    let b : Served = record { source = source; settings = settings; has_log = has_log } in
    let is : a ≡ b = same_some a b (sym h.asked ∙ asked) in
    let from : h.source ≡ source = ap (λ (x : Served). x.source) is in
    let logs : h.has_log ≡ has_log = ap (λ (x : Served). x.has_log) is in
    let P : Source → Type 0 = λ x. Named t x h.has_log o in
    let R : Bool → Type 0 = λ l. Named t source l o in
    let Q : Opening → Type 0 = λ q. Named t source has_log q × (q.settings ≡ settings) in
    subst Q (sym same) (subst R logs (subst P from (record { asked = h.asked; comes = h.comes })), ap (λ (x : Served). x.settings) is)

-- a world in which only puts were made
abbrev pub with_put : Told → Option (List ℕ) → ℕ → Told
with_put t written faults = record t { written = written; put_faults = faults }

-- that of a session over a file, behind whose lines no more was put, or its log
pub heading_file : (s : Status) (has_log : Bool) (t : Told) (w : Option (List ℕ)) (faults : ℕ) (r : Stage) (i : Taken) (c : Closed) → IsLeft r c → IsHeld t r i → (ask : AskFile t.words has_log)
    → IfSome w (λ written. Tells has_log s written c) → Why (File ask.name) s (with_put t w faults) c r.state → Headline s (with_put t w faults) c
heading_file s has_log t w faults r i c e h ask said why =
    let n = (named t r.opening c.opening (File ask.name) ask.settings has_log e.opening h.file ask.served).0 in
    let f = n.comes in
    heading s (with_put t w faults) r c e
    (record { source = File ask.name; has_log = has_log; asked = n.asked; comes = record { named = f.named; whole = f.whole; taken = f.taken; faults = f.faults; image = f.image } })
    (told_same t.polled (λ b. length b ≡ i.count) (λ b. length b ≡ t.input_length) (λ b is. is ∙ sym h.count) h.polled)
    (told_same t.polled (λ b. Gives i.ended b (did r.journal) i.rest) (λ b. (rest : List (List ℕ)) × (did c.journal ++ rest ≡ lines b t.poll_ended)) (λ b g. rw (e.journal, h.ended) (front_lines i.ended b (did r.journal) i.rest g)) h.input)
    (rw (e.opening, e.journal) h.asks)
    said
    why

-- ---- what the status says

clash : {A : Type 0} (o : Option A) (x : A) → o ≡ None → o ≡ Some x → ⊥
clash o x none some = let e : None ≡ Some x = sym none ∙ some in cc

unserved : (o : Option Served) → o ≡ None → IsSome o → ⊥
unserved None none some = cc
unserved (Some x) none some = cc

part_of : (t : Told) → IsPart t → IsWhole t → ⊥
part_of t part (inl ended) = let e : false ≡ true = sym part.ended ∙ ended in cc
part_of t part (inr most) = let l = part.length in omega (arith, most)

told_bytes : (o : Option (List ℕ)) (bytes : List ℕ) (P : List ℕ → Type 0) → o ≡ Some bytes → IfSome o P → P bytes
told_bytes o bytes P is h = subst (λ (x : Option (List ℕ)). IfSome x P) is h

-- a refused file that was read whole is answered with its fault
refuses : (s : Status) (t : Told) (f : ElfFault) → Early s t → Refused t f → IsFile f s
refuses status.Words t f early r = absurd (unserved (served_words t.words) (ap served early.2) r.words)
refuses (status.File g) t f early r =
    let is : fault_of r.bytes ≡ Some g = told_bytes t.file_taken r.bytes (λ b. reading.Refused b g) r.taken early.1.fault in
    same_some g f (sym is ∙ r.fault)
refuses status.ReadFault t f early r = absurd (part_of t early.2 r.whole)
refuses status.NoMemory t f early r = tt
refuses status.Done t f early r = absurd early
refuses status.Budget t f early r = absurd early
refuses status.History t f early r = absurd early
refuses status.WriteFault t f early r = absurd early
refuses status.Rejected t f early r = absurd early

-- no session is begun over a refused file
not_refused : (source : Source) (t : Told) (p : Program) (f : ElfFault) → ComesFrom source t p → Refused t f → ⊥
not_refused (File name) t p f h r =
    let image : reading.IsImage r.bytes p = told_bytes t.file_taken r.bytes (λ b. reading.IsImage b p) r.taken h.image in
    clash (fault_of r.bytes) f image.accepted r.fault
not_refused (Generated n) t p f h r = elim r.whole [
  | inl ended ↦ let e : false ≡ true = sym h.0.ended ∙ ended in absurd cc
  | inr most ↦ let none = h.0.taken in absurd (omega (arith, most, none))
]

pub file_of : (s : Status) (t : Told) (c : Option Closed) (f : ElfFault) → Ends s t c → Refused t f → IsFile f s
file_of s t None f h r = refuses s t f h r
file_of s t (Some c) f h r = absurd (not_refused h.opened.source t c.opening.image f h.opened.comes r)

pub words_of : (s : Status) (t : Told) (c : Option Closed) → Ends s t c → served_words t.words ≡ None → IsWords s
words_of s t (Some c) h none = absurd (clash (served_words t.words) _ none h.opened.asked)
words_of status.Words t None h none = tt
words_of (status.File f) t None h none = absurd (clash (served_words t.words) _ none h.1.read.words)
words_of status.ReadFault t None h none = absurd (clash (served_words t.words) _ none h.1.words)
words_of status.NoMemory t None h none = tt
words_of status.Done t None h none = absurd h
words_of status.Budget t None h none = absurd h
words_of status.History t None h none = absurd h
words_of status.WriteFault t None h none = absurd h
words_of status.Rejected t None h none = absurd h

-- a run whose words and file are accepted isn't answered with a fault of the file
accepted : (t : Told) (f : ElfFault) (g : Good t) → Early (status.File f) t → ⊥
accepted t f g h =
    let a : Served = record { source = g.source; settings = g.settings; has_log = g.has_log } in
    let b : Served = record { source = File h.1.read.name; settings = h.1.read.settings; has_log = h.1.read.has_log } in
    let is : g.source ≡ File h.1.read.name = ap (λ (x : Served). x.source) (same_some a b (sym g.words ∙ h.1.read.words)) in
    let taken : t.file_taken ≡ Some g.bytes = subst (λ (x : Source). file_bytes x t ≡ Some g.bytes) is g.taken in
    let fault : fault_of g.bytes ≡ Some f = told_bytes t.file_taken g.bytes (λ b. reading.Refused b f) taken h.1.fault in
    clash (fault_of g.bytes) f g.image.accepted fault

fine_whole : (s : Status) (t : Told) (c : Closed) → Headline s t c → Good t → IsFine s
fine_whole status.Done t c h g = tt
fine_whole status.Budget t c h g = tt
fine_whole status.History t c h g = tt
fine_whole status.NoMemory t c h g = tt
fine_whole status.ReadFault t c h g = let some = h.why in let none = g.clean.poll in absurd (omega (arith, some, none))
fine_whole status.WriteFault t c h g = let some = h.why in let none = g.clean.put in absurd (omega (arith, some, none))
fine_whole status.Words t c h g = absurd h.why
fine_whole (status.File f) t c h g = absurd h.why
fine_whole status.Rejected t c h g = absurd h.why

pub fine_of : (s : Status) (t : Told) (c : Option Closed) → Ends s t c → Good t → IsFine s
fine_of s t (Some c) h g = fine_whole s t c h g
fine_of status.Words t None h g = absurd (clash (served_words t.words) _ (ap served h.2) g.words)
fine_of (status.File f) t None h g = absurd (accepted t f g h)
fine_of status.ReadFault t None h g = let some = h.3 in let none = g.clean.file in absurd (omega (arith, some, none))
fine_of status.NoMemory t None h g = tt
fine_of status.Done t None h g = absurd h
fine_of status.Budget t None h g = absurd h
fine_of status.History t None h g = absurd h
fine_of status.WriteFault t None h g = absurd h
fine_of status.Rejected t None h g = absurd h
