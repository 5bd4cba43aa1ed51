-- A generated run that is summed up.
use Rattle.std.proofs.Common.{◌≡◌, ◌<◌, ◌≤◌, ℕ, ◌+◌, ◌*◌, Bool, true, false, List, [], ◌∷◌, ◌++◌, length, take, drop, refl, sym, ap, ◌∙◌, arith, subst}
use Rattle.std.specs.Prelude.{Option, Some, None, IfSome, codes, decimal}
use mathlib.Core.Logic.{inl, inr}
use mathlib.Core.List.{append-nil}
use Rattle.std.proofs.lemmas.List.{length-append, take-append-drop}
use Rattle.std.proofs.Math.Seq.{take-length}
use Rattle.std.proofs.lemmas.Fmt.{length-decimal-le}
use Rattle.dbg_traits.specs.Told.{Told, more}
use Rattle.elf_gen.specs.Script.{script_text, lines_of}
use Rattle.mi_input.specs.Lines.{lines}
use Rattle.mi_values.specs.Record.{LineTree}
use Rattle.mi_values.specs.Records.{AreRecords, streamed}
use Rattle.mi_reports.specs.Said.{said_lines}
use Rattle.mi_reports.proofs.Telling.{said_output}
use Rattle.dbg_model.specs.Erase.{erase, steps}
use Rattle.dbg_model.specs.Journals.{did}
use Rattle.engine_parts.specs.declared.ending.Closed.{Closed}
use Rattle.session_parts.specs.Headline.{Headline, IsDone, IsBelow, Why, Becomes, SumsUp}
use Rattle.session_parts.specs.Left.{IsLeft}
use Rattle.session_parts.specs.Over.{IsHanded, IsOver, IsPlayedOut, sums_up}
use Rattle.session_parts.specs.Puts.{PutsAll}
use Rattle.session_parts.specs.Scene.{Play, Plays, IsPlayed, told_by}
use Rattle.session_parts.specs.Stage.{Stage}
use Rattle.session_parts.specs.Summary.{summary}
use Rattle.session_parts.specs.Taking.{Gives}
use Rattle.session_parts.specs.Ties.{IsTied, IsHeld, IsEmpty, IsCut, IsUnread, IsUnpolled, AllDone, Taken}
use Rattle.session_parts.specs.declared.file.Source.TheVariants.{Generated}
use Rattle.session_parts.specs.declared.status.Status.{Status}
use Rattle.session_parts.specs.declared.status.Status.TheVariants as status
use Rattle.session_parts.proofs.Heading.{heading, named, numbers, with_put}
use Rattle.session_parts.proofs.Telling.{told_none}
use Rattle.session_parts.proofs.Tying.{gives_end}
use Rattle.session_parts.specs.Ties as ties

-- ---- the script

-- a script is far below the greatest input
long : (a b c d : List ℕ) → length (a ++ (b ++ (c ++ d))) ≡ length a + (length b + (length c + length d))
long a b c d = length-append a (b ++ (c ++ d)) ∙ ap (λ k. length a + k) (length-append b (c ++ d) ∙ ap (λ k. length b + k) (length-append c d))

script_short : (n : ℕ) → n ≤ 1000000 → length (script_text n) < 1000
script_short n most =
    let digits : length (decimal (2 * n)) ≤ 7 = length-decimal-le 7 (2 * n) (omega arith) (omega (arith, most)) (omega (arith, most)) in
    let is = long
    (lines_of (codes "-break-insert count.c:12" ∷ codes "-exec-continue --thread 1" ∷ codes "-exec-wait" ∷ codes "-exec-next --thread 1" ∷ codes
    "-exec-wait" ∷ codes "-break-delete 1" ∷ codes "-exec-finish --thread 1" ∷ codes "-exec-wait" ∷ []))
    (codes "-break-insert -c \"{int} &count == ")
    (decimal (2 * n))
    (lines_of (codes "\" count.c:13" ∷ codes "-exec-continue --all" ∷ codes "-exec-wait" ∷ codes "-thread-info" ∷ codes "-exec-continue --all" ∷ codes "-exec-wait" ∷ [])) in
    omega (arith, is, digits)

-- what was done is a front of the script's lines
front_of : (ended : Bool) (at : ℕ) (text : List ℕ) (done : List (List ℕ)) (rest : List ℕ) → (ended ≡ true → at ≡ length text) → Gives ended (take at text) done rest → (more : List (List ℕ)) × (done ++ more ≡ lines text true)
front_of true at text done rest all g =
    let whole : take at text ≡ text = ap (λ k. take k text) (all refl) ∙ take-length text in
    (lines rest true, sym g ∙ ap (λ t. lines t true) whole)
front_of false at text done rest all g =
    (lines (rest ++ drop at text) true, sym (g (drop at text) true) ∙ ap (λ t. lines t true) (take-append-drop at text))

-- ---- why it was over

below : (t : Told) (p : Play) (r : Stage) (i : Taken) (c : Closed) (w : Option (List ℕ)) → IsLeft r c → IsPlayed t p → ties.IsBelow r i.count → IsBelow (with_put t w 0) c
below t p r i c w e h b =
    let n = numbers c r e in
    let low = b.budget in
    let few = b.history in
    let none = h.unused.unpolled.taken in
    record { budget = omega (arith, low, n.retired, n.budget); history = omega (arith, few, n.notes); input = omega (arith, none) }

done_by : (t : Told) (p : Play) (r : Stage) (i : Taken) (c : Closed) (w : Option (List ℕ)) → IsLeft r c → IsPlayed t p → IsHeld (told_by (Some p) t) r i → AllDone r i → IsDone (Generated p.number) (with_put t w 0) c r.state
done_by t p r i c w e h held d =
    let ended : p.ended ≡ true = held.ended ∙ d.ended in
    let whole : take p.at p.text ≡ script_text p.number = ap (λ k. take k p.text) (h.all ended) ∙ (take-length p.text ∙ h.text) in
    let gives : Gives true (take p.at p.text) (did r.journal) i.rest = gives_end i.ended (take p.at p.text) (did r.journal) i.rest held.input in
    record {
      ended = refl;
      all = ap (λ b. lines b true) (sym whole) ∙ (gives ∙ (ap (λ x. did r.journal ++ x) d.none ∙ (append-nil (did r.journal) ∙ ap did (sym e.journal))));
      still = d.still;
    }

pub whys : (s : Status) (t : Told) (p : Play) (r : Stage) (i : Taken) (c : Closed) (w : Option (List ℕ)) → sums_up s ≡ true → IsUnread t → IsLeft r c
    → IsPlayed t p → IsTied (Some s) (told_by (Some p) t) r i → Why (Generated p.number) s (with_put t w 0) c r.state
whys status.Done t p r i c w so un e h tied =
    let d = tied.cause in (
      record { file = un.faults; poll = h.unused.unpolled.faults; put = refl },
      below t p r i c w e h d.1,
      elim d.2 [ inl all ↦ inl (done_by t p r i c w e h tied.held all) | inr exited ↦ inr exited ],
    )
whys status.Budget t p r i c w so un e h tied =
    let n = numbers c r e in
    let b = tied.cause.1 in
    (record { file = un.faults; poll = h.unused.unpolled.faults; put = refl }, omega (arith, n.retired, n.most, n.budget))
whys status.History t p r i c w so un e h tied =
    let n = numbers c r e in
    let b = tied.cause.1 in
    let same : p.at ≡ i.count = tied.held.count in
    let within = h.within in
    let short = script_short p.number h.asked.most in
    let text : length p.text ≡ length (script_text p.number) = ap length h.text in (
      record { file = un.faults; poll = h.unused.unpolled.faults; put = refl },
      omega (arith, n.retired, n.budget),
      elim tied.cause.2 [ inl noted ↦ inl (omega (arith, n.notes)) | inr count ↦ absurd (omega (arith, same, within, short, text)) ],
    )
whys status.ReadFault t p r i c w so un e h tied = let f : false ≡ true = so in absurd cc
whys status.WriteFault t p r i c w so un e h tied = let f : false ≡ true = so in absurd cc
whys status.NoMemory t p r i c w so un e h tied = let f : false ≡ true = so in absurd cc
whys status.Words t p r i c w so un e h tied = let f : false ≡ true = so in absurd cc
whys (status.File g) t p r i c w so un e h tied = let f : false ≡ true = so in absurd cc
whys status.Rejected t p r i c w so un e h tied = let f : false ≡ true = so in absurd cc

-- ---- the headline

count_none : (o : Option (List ℕ)) (n : ℕ) → IsEmpty o → n ≡ 0 → IfSome o (λ b. length b ≡ n)
count_none None n none zero = tt
count_none (Some b) n none zero = ap length none ∙ sym zero

-- the words and the file of a script's world are those of the world
unread : (t : Told) (p : Play) → IsUnread (told_by (Some p) t) → IsUnread t
unread t p h = record { name = h.name; taken = h.taken; bytes = h.bytes; faults = h.faults; ended = h.ended }

pub unread_by : (s : Status) (t : Told) (p : Play) (c : Closed) (o : IsPlayedOut s p t c) → IsUnread t
unread_by s t p c o =
    let a = o.played.asked in
    unread t p (named (told_by (Some p) t) o.run.opening c.opening (Generated p.number) a.settings false o.left.opening o.tied.held.file a.served).0.comes.0

pub headed : (s after before : Status) (t : Told) (p : Play) (c : Closed) (o : IsPlayedOut s p t c) (w : Option (List ℕ)) (faults : ℕ)
    → Why (Generated p.number) before (with_put t w 0) c o.run.state → Becomes after before
    → IfSome w (λ written. SumsUp after written (summary p.number c.journal o.run.state.out before))
    → Why (Generated p.number) after (with_put t w faults) c o.run.state → Headline after (with_put t w faults) c
headed s after before t p c o w faults over becomes written why =
    let r = o.run in
    let h = o.played in
    let held = o.tied.held in
    let n = (named (told_by (Some p) t) r.opening c.opening (Generated p.number) h.asked.settings false o.left.opening held.file h.asked.served).0 in
    let un = unread t p n.comes.0 in
    let q = h.unused.unpolled in
    let front = front_of o.input.ended p.at p.text (did r.journal) o.input.rest (λ is. h.all (held.ended ∙ is)) held.input in
    heading after (with_put t w faults) r c o.left
    (record { source = Generated p.number; has_log = false; asked = n.asked; comes = (record { name = un.name; taken = un.taken; bytes = un.bytes; faults = un.faults; ended = un.ended }, n.comes.1) })
    (count_none t.polled t.input_length q.polled q.taken)
    (front.0, ap (λ j. did j ++ front.0) o.left.journal ∙ (front.1 ∙ ap (λ b. lines b true) h.text))
    (told_none c.opening c.journal t.polled t.asks q.asks)
    (record {
      unpolled = record { polls = q.polls; taken = q.taken; polled = q.polled; asks = q.asks; faults = q.faults; ended = q.ended };
      before = before;
      why = over;
      becomes = becomes;
      written = written;
    })
    why

silent : (o : Option (List ℕ)) → IsEmpty o → IfSome o (λ written. written ≡ [])
silent None none = tt
silent (Some b) none = none

-- memory ran out: nothing is put
pub headed_short : (s : Status) (t : Told) (p : Play) (c : Closed) (o : IsPlayedOut s p t c) → Headline status.NoMemory t c
headed_short s t p c o =
    headed s status.NoMemory status.NoMemory t p c o t.written t.put_faults tt tt (silent t.written o.played.unused.written) tt

-- the records of a run that is summed up show what its program wrote
written_records : (s : Status) (t : Told) (p : Play) (r : Stage) (i : Taken) → sums_up s ≡ true → IsTied (Some s) (told_by (Some p) t) r i → AreRecords p.output (said_lines r.opening r.journal)
written_records status.Done t p r i so tied = tied.written
written_records status.Budget t p r i so tied = tied.written
written_records status.History t p r i so tied = tied.written
written_records status.ReadFault t p r i so tied = let f : false ≡ true = so in absurd cc
written_records status.WriteFault t p r i so tied = let f : false ≡ true = so in absurd cc
written_records status.NoMemory t p r i so tied = let f : false ≡ true = so in absurd cc
written_records status.Words t p r i so tied = let f : false ≡ true = so in absurd cc
written_records (status.File g) t p r i so tied = let f : false ≡ true = so in absurd cc
written_records status.Rejected t p r i so tied = let f : false ≡ true = so in absurd cc

-- so a text that counts what the records show is the summary
pub text_is : (s : Status) (t : Told) (p : Play) (c : Closed) (o : IsPlayedOut s p t c) (text : List ℕ) → sums_up s ≡ true
    → ((trees : List LineTree) → AreRecords p.output trees → text ≡ summary p.number c.journal (streamed trees) s) → text ≡ summary p.number c.journal o.run.state.out s
text_is s t p c o text so counts =
    let trees = said_lines o.run.opening o.run.journal in
    let are = written_records s t p o.run o.input so o.tied in
    let shown : streamed (said_lines c.opening c.journal) ≡ o.run.state.out = said_output c.opening c.journal o.run.state o.left.leaves in
    let same : streamed trees ≡ streamed (said_lines c.opening c.journal) = rw (o.left.opening, o.left.journal) refl in
    counts trees are ∙ ap (λ out. summary p.number c.journal out s) (same ∙ shown)

becomes_same : (s : Status) → sums_up s ≡ true → Becomes s s
becomes_same status.Done so = refl
becomes_same status.Budget so = refl
becomes_same status.History so = refl
becomes_same status.ReadFault so = refl
becomes_same status.WriteFault so = so
becomes_same status.NoMemory so = tt
becomes_same status.Words so = refl
becomes_same (status.File g) so = refl
becomes_same status.Rejected so = refl

sums_same : (s : Status) (text : List ℕ) → sums_up s ≡ true → SumsUp s text text
sums_same status.Done text so = refl
sums_same status.Budget text so = refl
sums_same status.History text so = refl
sums_same status.ReadFault text so = refl
sums_same status.WriteFault text so = ([], append-nil text)
sums_same status.NoMemory text so = let f : false ≡ true = so in absurd cc
sums_same status.Words text so = refl
sums_same (status.File g) text so = refl
sums_same status.Rejected text so = refl

told_text : (o : Option (List ℕ)) (text : List ℕ) (P : List ℕ → Type 0) → IsEmpty o → P text → IfSome (more o text) P
told_text None text P none h = tt
told_text (Some b) text P none h = subst (λ x. P (x ++ text)) (sym none) h

-- all of the summary was put
pub headed_whole : (s : Status) (t u : Told) (p : Play) (c : Closed) (o : IsPlayedOut s p t c) (text : List ℕ) → sums_up s ≡ true → text ≡ summary p.number c.journal o.run.state.out s → PutsAll true text t u → Headline s u c
headed_whole s t u p c o text so is puts =
    let w = more t.written text in
    let un = unread_by s t p c o in
    let none = o.played.unused in
    let faults = none.faults in
    let P : Told → Type 0 = λ v. Headline s v c in
    let written : IfSome w (λ x. SumsUp s x (summary p.number c.journal o.run.state.out s)) =
    told_text t.written text (λ x. SumsUp s x (summary p.number c.journal o.run.state.out s)) none.written (subst (λ y. SumsUp s text y) is (sums_same s text so)) in
    let why = whys s t p o.run o.input c w so un o.left o.played o.tied in
    let same : u ≡ with_put t w 0 = puts ∙ ap (λ k. with_put t w k) faults in
    subst P (sym same) (headed s s s t p c o w 0 why (becomes_same s so) written why)

-- a front of it was put
pub headed_cut : (s : Status) (t u : Told) (p : Play) (c : Closed) (o : IsPlayedOut s p t c) (text : List ℕ) → sums_up s ≡ true → text ≡ summary p.number c.journal o.run.state.out s → PutsAll false text t u → Headline status.WriteFault u c
headed_cut s t u p c o text so is puts =
    let w = more t.written (take puts.0 text) in
    let un = unread_by s t p c o in
    let none = o.played.unused in
    let zero = none.faults in
    let rose : 0 < puts.1 = omega (arith, zero, puts.2) in
    let P : Told → Type 0 = λ v. Headline status.WriteFault v c in
    let written : IfSome w (λ x. IsCut x (summary p.number c.journal o.run.state.out s)) =
    told_text t.written (take puts.0 text) (λ x. IsCut x (summary p.number c.journal o.run.state.out s)) none.written (drop puts.0 text, take-append-drop puts.0 text ∙ is) in
    subst P (sym puts.3) (headed s status.WriteFault s t p c o w puts.1 (whys s t p o.run o.input c w so un o.left o.played o.tied) so written rose)

-- the counts that are put fit the numbers of the machine
pub few_steps : (s : Status) (t : Told) (p : Play) (c : Closed) (o : IsPlayedOut s p t c) → steps (erase c.journal) ≤ 1000000000000
few_steps s t p c o =
    let a = o.played.asked in
    let n = numbers c o.run o.left in
    let same : c.opening.settings ≡ a.settings = (named (told_by (Some p) t) o.run.opening c.opening (Generated p.number) a.settings false o.left.opening o.tied.held.file a.served).1 in
    let most = a.ranges.budget.1 in
    let is = ap (λ x. x.budget) same in
    omega (arith, n.retired, n.most, is, most)

-- ---- what is handed back

-- a session over a script is over
pub played_out : (s : Status) (t : Told) (o : Option Play) (has_log : Bool) (c : Option Closed) (p : Play) (d : Closed) → o ≡ Some p → c ≡ Some d → Plays t o has_log → IsOver s (told_by o t) c → IsPlayedOut s p t d
played_out s t o has_log c p d is closed plays over =
    let P : Option Play → Type 0 = λ x. Plays t x has_log × IsOver s (told_by x t) c in
    let Q : Option Closed → Type 0 = λ x. IsOver s (told_by (Some p) t) x in
    let h = subst P is (plays, over) in
    let v = subst Q closed h.1 in
    record { run = v.run; input = v.input; left = v.left; played = h.0; tied = v.tied }

-- a session over the world that was handed in is over
pub handed_back : (s : Status) (t : Told) (o : Option Play) (has_log : Bool) (c : Option Closed) (d : Closed) → o ≡ None → c ≡ Some d → Plays t o has_log → IsOver s (told_by o t) c → IsHanded has_log s t d
handed_back s t o has_log c d is closed plays over =
    let P : Option Play → Type 0 = λ x. Plays t x has_log × IsOver s (told_by x t) c in
    let Q : Option Closed → Type 0 = λ x. IsOver s t x in
    let h = subst P is (plays, over) in
    let v = subst Q closed h.1 in
    record { run = v.run; input = v.input; left = v.left; asked = h.0; tied = v.tied }
