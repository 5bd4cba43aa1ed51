-- How a run ends, and what follows for words, files and logs.
use Rattle.std.proofs.Common.{◌≡◌, ◌≤◌, ◌<◌, ℕ, Bool, true, false, List, ◌++◌, length, refl, sym, ap, ◌∙◌, subst, arith}
use Rattle.std.specs.Prelude.{◌⊎◌, Option, Some, None, IfSome, IsSome}
use Rattle.std.specs.Option.{option_map}
use mathlib.Core.Logic.{inl, inr}
use Rattle.dbg_traits.specs.Told.{Told}
use Rattle.dbg_model.proofs.Options.{same_some}
use Rattle.dbg_traits.specs.declared.settings.Settings.{Settings}
use Rattle.elf_checks.specs.declared.fault.ElfFault.{ElfFault}
use Rattle.elf32_read.specs.Program.{Program}
use Rattle.elf_checks.specs.Reading as reading
use Rattle.elf_checks.specs.Reading.{IsImage}
use Rattle.elf_checks.specs.Checks.{fault_of}
use Rattle.engine_parts.specs.declared.ending.Closed.{Closed}
use Rattle.dbg_words.specs.Words.{Words, Asked, session, generated, checked}
use Rattle.mi_values.specs.Records.{lines_bytes}
use Rattle.mi_reports.specs.Said.{said, said_lines}
use Rattle.session_log.specs.LogText.{Transcript}
use Rattle.session_parts.specs.Words.{served, served_words, file_checked, checked_words, AreRefused, IsWhole}
use Rattle.session_parts.specs.Ties.{IsFileOf}
use Rattle.session_parts.specs.declared.file.Served.{Served}
use Rattle.session_parts.specs.declared.file.Source.{Source}
use Rattle.session_parts.specs.declared.file.Source.TheVariants.{File, Generated}
use Rattle.session_parts.specs.Early.{Early, IsPart}
use Rattle.session_parts.specs.Headline.{Ends, Headline, Good, IsFine, IsWords, IsFile, Refused, Prints}
use Rattle.session_parts.specs.Logged.{Logs, Tells}
use Rattle.session_parts.specs.Over.{is_logged}
use Rattle.session_parts.specs.declared.status.Status.{Status}
use Rattle.session_parts.specs.declared.status.Status.TheVariants as status
use Rattle.session_parts.proofs.Heading.{file_of, fine_of, words_of}
use Rattle.session_check.specs.declared.finding.Finding.TheVariants.{Accepted}
use Rattle.session_check.specs.Findings.{Finds, IsRecord, most_input}
use Rattle.session_check.specs.RunEnds.{GoodCheck, IsCheck, IsJudged, IsRecorded, RefusedCheck, RunEnds, asks_log}
use Rattle.session_check.proofs.Written.{written_record}

pub session_ends : (s : Status) (t : Told) (c : Option Closed) → Ends s t c → RunEnds s t c
session_ends s t None h = inl h
session_ends s t (Some c) h = h

-- what asks for a check asks for no session, and isn't refused
no_session : (o : Option Asked) (name : List ℕ) → file_checked o ≡ Some name → served o ≡ None
no_session None name is = refl
no_session (Some (session n s l)) name is = cc
no_session (Some (generated n s)) name is = cc
no_session (Some (checked n)) name is = refl

clash : {A : Type 0} (o : Option A) (x : A) → o ≡ None → o ≡ Some x → ⊥
clash o x none some = let e : None ≡ Some x = sym none ∙ some in cc

unserved : (o : Option Served) → o ≡ None → IsSome o → ⊥
unserved None none some = cc
unserved (Some x) none some = cc

pub words_end : (s : Status) (t : Told) (c : Option Closed) → RunEnds s t c → AreRefused t.words → IsWords s
words_end s t (Some c) h none = words_of s t (Some c) h (ap served none)
words_end s t None (inl h) none = words_of s t None h (ap served none)
words_end s t None (inr h) none = absurd (clash (checked_words t.words) h.name (ap file_checked none) h.asked)

pub file_end : (s : Status) (t : Told) (c : Option Closed) (f : ElfFault) → RunEnds s t c → Refused t f → IsFile f s
file_end s t (Some c) f h r = file_of s t (Some c) f h r
file_end s t None f (inl h) r = file_of s t None f h r
file_end s t None f (inr h) r = absurd (unserved (served_words t.words) (no_session (Words t.words) h.name h.asked) r.words)

pub fine_end : (s : Status) (t : Told) (c : Option Closed) → RunEnds s t c → Good t → IsFine s
fine_end s t (Some c) h g = fine_of s t (Some c) h g
fine_end s t None (inl h) g = fine_of s t None h g
fine_end s t None (inr h) g = absurd (clash (served_words t.words) _ (no_session (Words t.words) h.name h.asked) g.words)

-- ---- a check that nothing failed

told_bytes : (o : Option (List ℕ)) (bytes : List ℕ) (P : List ℕ → Type 0) → o ≡ Some bytes → IfSome o P → P bytes
told_bytes o bytes P is h = subst (λ (x : Option (List ℕ)). IfSome x P) is h

not_read : (t : Told) (g : GoodCheck t) (a : Served) → served_words t.words ≡ Some a → ⊥
not_read t g a some = clash (served_words t.words) a (no_session (Words t.words) g.name g.words) some

judged_early : (s : Status) (t : Told) → Early s t → GoodCheck t → IsJudged s
judged_early status.Words t h g = absurd (clash (checked_words t.words) g.name (ap file_checked h.2) g.words)
judged_early (status.File f) t h g = absurd (not_read t g _ h.1.read.words)
judged_early status.ReadFault t h g = absurd (not_read t g _ h.1.words)
judged_early status.NoMemory t h g = tt
judged_early status.Done t h g = tt
judged_early status.Budget t h g = absurd h
judged_early status.History t h g = absurd h
judged_early status.WriteFault t h g = absurd h
judged_early status.Rejected t h g = tt

judged_check : (s : Status) (t : Told) → IsCheck s t → GoodCheck t → IsJudged s
judged_check status.Done t h g = tt
judged_check status.Rejected t h g = tt
judged_check status.NoMemory t h g = tt
judged_check (status.File f) t h g =
    let fault : reading.Refused g.bytes f = told_bytes t.file_taken g.bytes (λ b. reading.Refused b f) g.taken h.checks.1.fault in
    absurd (clash (fault_of g.bytes) f g.image.accepted fault)
judged_check status.ReadFault t h g = elim h.checks.2 [
  | inl f ↦ let some = f.faults in let none = g.clean.file in absurd (omega (arith, some, none))
  | inr f ↦ let some = f.faults in let none = g.clean.poll in absurd (omega (arith, some, none))
]
judged_check status.WriteFault t h g = let some = h.checks.1.puts in let none = g.clean.put in absurd (omega (arith, some, none))
judged_check status.Words t h g = absurd h.checks
judged_check status.Budget t h g = absurd h.checks
judged_check status.History t h g = absurd h.checks

pub judged_end : (s : Status) (t : Told) (c : Option Closed) → RunEnds s t c → GoodCheck t → IsJudged s
judged_end s t (Some c) h g = absurd (not_read t g _ h.opened.asked)
judged_end s t None (inl h) g = judged_early s t h g
judged_end s t None (inr h) g = judged_check s t h g

-- ---- a check whose file is refused

no_image : (t : Told) (f : ElfFault) (name : List ℕ) (p : Program) → RefusedCheck t f → IsFileOf t name p → ⊥
no_image t f name p r file =
    let image : IsImage r.bytes p = told_bytes t.file_taken r.bytes (λ b. IsImage b p) r.taken file.image in
    clash (fault_of r.bytes) f image.accepted r.fault

no_part : (t : Told) → IsPart t → IsWhole t → ⊥
no_part t part (inl ended) = let e : false ≡ true = sym part.ended ∙ ended in cc
no_part t part (inr most) = let l = part.length in omega (arith, most)

unserved_check : (t : Told) (f : ElfFault) (r : RefusedCheck t f) (a : Served) → served_words t.words ≡ Some a → ⊥
unserved_check t f r a some = clash (served_words t.words) a (no_session (Words t.words) r.name r.words) some

refused_early : (s : Status) (t : Told) (f : ElfFault) → Early s t → RefusedCheck t f → IsFile f s
refused_early status.Words t f h r = absurd (clash (checked_words t.words) r.name (ap file_checked h.2) r.words)
refused_early (status.File g) t f h r = absurd (unserved_check t f r _ h.1.read.words)
refused_early status.ReadFault t f h r = absurd (unserved_check t f r _ h.1.words)
refused_early status.NoMemory t f h r = tt
refused_early status.Done t f h r = absurd h
refused_early status.Budget t f h r = absurd h
refused_early status.History t f h r = absurd h
refused_early status.WriteFault t f h r = absurd h
refused_early status.Rejected t f h r = absurd h

refused_check : (s : Status) (t : Told) (f : ElfFault) → IsCheck s t → RefusedCheck t f → IsFile f s
refused_check status.Done t f h r = absurd (no_image t f h.name _ r h.checks.1.judged.file)
refused_check status.Rejected t f h r = absurd (no_image t f h.name _ r h.checks.2.judged.file)
refused_check status.NoMemory t f h r = tt
refused_check (status.File g) t f h r =
    let is : fault_of r.bytes ≡ Some g = told_bytes t.file_taken r.bytes (λ b. reading.Refused b g) r.taken h.checks.1.fault in
    same_some g f (sym is ∙ r.fault)
refused_check status.ReadFault t f h r = elim h.checks.2 [
  | inl e ↦ absurd (no_part t e.part r.whole)
  | inr e ↦ absurd (no_image t f h.name _ r e.file)
]
refused_check status.WriteFault t f h r = absurd (no_image t f h.name _ r h.checks.1.judged.file)
refused_check status.Words t f h r = absurd h.checks
refused_check status.Budget t f h r = absurd h.checks
refused_check status.History t f h r = absurd h.checks

pub refused_end : (s : Status) (t : Told) (c : Option Closed) (f : ElfFault) → RunEnds s t c → RefusedCheck t f → IsFile f s
refused_end s t (Some c) f h r = absurd (unserved_check t f r _ h.opened.asked)
refused_end s t None f (inl h) r = refused_early s t f h r
refused_end s t None f (inr h) r = refused_check s t f h r

-- ---- a session with its log

no_log : (o : Option Asked) (n : ℕ) (s : Settings) → served o ≡ Some (record { source = Generated n; settings = s; has_log = true }) → ⊥
no_log None n s is = cc
no_log (Some (session name q l)) n s is = let e : Some (File name) ≡ Some (Generated n) = ap (option_map (λ (x : Served). x.source)) is in cc
no_log (Some (generated k q)) n s is = let e : Some false ≡ Some true = ap (option_map (λ (x : Served). x.has_log)) is in cc
no_log (Some (checked name)) n s is = cc

whole_of : (s : Status) (t : Told) (c : Closed) (written : List ℕ) → Headline s t c → is_logged s ≡ true → Tells true s written c → IsRecord c.opening.image written (length c.journal)
whole_of status.Done t c written h logged tells = written_record c.opening.image c.opening.settings c.journal written (rw h.lawful.replays refl) tells.0 tells.1
whole_of status.Budget t c written h logged tells = written_record c.opening.image c.opening.settings c.journal written (rw h.lawful.replays refl) tells.0 tells.1
whole_of status.History t c written h logged tells = written_record c.opening.image c.opening.settings c.journal written (rw h.lawful.replays refl) tells.0 tells.1
whole_of status.ReadFault t c written h logged tells = written_record c.opening.image c.opening.settings c.journal written (rw h.lawful.replays refl) tells.0 tells.1
whole_of status.Words t c written h logged tells = let f : false ≡ true = logged in absurd cc
whole_of (status.File g) t c written h logged tells = let f : false ≡ true = logged in absurd cc
whole_of status.WriteFault t c written h logged tells = let f : false ≡ true = logged in absurd cc
whole_of status.NoMemory t c written h logged tells = let f : false ≡ true = logged in absurd cc
whole_of status.Rejected t c written h logged tells = let f : false ≡ true = logged in absurd cc

each : (o : Option (List ℕ)) (P Q : List ℕ → Type 0) → ((x : List ℕ) → P x → Q x) → IfSome o P → IfSome o Q
each None P Q f h = tt
each (Some x) P Q f h = f x h

recorded : (source : Source) (has_log : Bool) (s : Status) (t : Told) (c : Closed) (h : Headline s t c)
    → served_words t.words ≡ Some (record { source = source; settings = c.opening.settings; has_log = has_log }) → Prints source has_log s t c h.state
    → has_log ≡ true → is_logged s ≡ true → IfSome t.written (λ written. length written ≤ most_input → Finds c.opening.image written (Accepted (length c.journal)))
recorded (File name) true s t c h asked prints has logged =
    each t.written (λ written. Tells true s written c) (λ written. length written ≤ most_input → Finds c.opening.image written (Accepted (length c.journal)))
    (λ written tells few. (few, whole_of s t c written h logged tells)) prints
recorded (Generated n) true s t c h asked prints has logged = absurd (no_log (Words t.words) n c.opening.settings asked)
recorded source false s t c h asked prints has logged = let f : false ≡ true = has in absurd cc

pub recorded_end : (s : Status) (t : Told) (c : Option Closed) → RunEnds s t c → IsRecorded s t c
recorded_end s t None h = tt
recorded_end s t (Some c) h = λ asks logged. recorded h.opened.source h.opened.has_log s t c h h.opened.asked h.said (sym (ap asks_log h.opened.asked) ∙ asks) logged
