-- The steps of a session keep what ties it to its world.
use Rattle.std.proofs.Common.{◌≡◌, ◌<◌, ◌≤◌, ℕ, zero, suc, not, ◌+◌, ◌-◌, Bool, true, false, List, [], ◌∷◌, ◌++◌, length, take, drop, refl, sym, ap, ◌∙◌, append_assoc, arith, subst, length-append, length-drop}
use Rattle.std.specs.Prelude.{Option, Some, None, IfSome}
use mathlib.Core.Logic.{inr}
use Rattle.dbg_traits.specs.Causes.{Rose}
use mathlib.Core.List.{append-nil}
use Rattle.std.proofs.lemmas.List.{take-append-drop, take_all}
use Rattle.dbg_traits.specs.Told.{Told, more, raised, with_ask}
use Rattle.mi_input.specs.Lines.{IsNext, lines}
use Rattle.dbg_model.specs.Limits as limits
use Rattle.dbg_model.specs.State.{any_runs}
use Rattle.dbg_model.specs.Journals.{did, Leaves}
use Rattle.mi_values.specs.Record.{LineTree}
use Rattle.mi_values.specs.Records.{lines_bytes, AreLines, AreRecords}
use Rattle.mi_values.proofs.Joined.{records_joined}
use Rattle.mi_reports.specs.Said.{said}
use Rattle.dbg_model.specs.Reply.{done_by}
use Rattle.engine_parts.specs.Calls.{pokes_of}
use Rattle.session_parts.specs.Stage.{Stage}
use Rattle.session_parts.specs.Taking.{Gives, has_line, is_some_line}
use Rattle.session_parts.specs.InTime.{ToldInTime}
use Rattle.session_parts.specs.Steps.{lines_by, Says, Keeps, DoesLine, Goes, with_poll}
use Rattle.dbg_model.specs.declared.opening.Opening.{Opening}
use Rattle.elf32_read.specs.Program.{Program}
use Rattle.session_parts.specs.Words.{served_words}
use Rattle.session_parts.specs.declared.file.Source.{Source}
use Rattle.session_parts.specs.declared.file.Source.TheVariants.{File, Generated}
use Rattle.session_parts.specs.Ties.{IsTied, IsHeld, Taken, ComesFrom, Opened, Clean, IsCut, OverBy, IsCounted}
use Rattle.session_parts.proofs.Telling.{told_line, told_goes, told_took, told_end}
use Rattle.session_parts.specs.declared.status.Status.{Status}
use Rattle.session_parts.specs.declared.status.Status.TheVariants as status

-- more input
gives_more : (ended : Bool) (bytes new : List ℕ) (done : List (List ℕ)) (rest : List ℕ) → ended ≡ false → Gives ended bytes done rest → Gives ended (bytes ++ new) done (rest ++ new)
gives_more true bytes new done rest un h = cc
gives_more false bytes new done rest un h = λ more e. rw (append_assoc bytes new more, append_assoc rest new more) (h (new ++ more) e)

-- the end of the input
pub gives_end : (ended : Bool) (bytes : List ℕ) (done : List (List ℕ)) (rest : List ℕ) → Gives ended bytes done rest → Gives true bytes done rest
gives_end true bytes done rest h = h
gives_end false bytes done rest h = ap (λ t. lines t true) (sym (append-nil bytes)) ∙ (h [] true ∙ ap (λ t. done ++ lines t true) (append-nil rest))

told_more : (o : Option (List ℕ)) (new : List ℕ) (P Q : List ℕ → Type 0) → ((bytes : List ℕ) → P bytes → Q (bytes ++ new)) → IfSome o P → IfSome (more o new) Q
told_more None new P Q step h = tt
told_more (Some bytes) new P Q step h = step bytes h

pub told_same : (o : Option (List ℕ)) (P Q : List ℕ → Type 0) → ((bytes : List ℕ) → P bytes → Q bytes) → IfSome o P → IfSome o Q
told_same None P Q step h = tt
told_same (Some bytes) P Q step h = step bytes h

-- a session whose status is found
pub tied_over : (s : Option Status) (t : Told) (r : Stage) (i : Taken) → OverBy s r i.count → IsHeld t r i → Clean t → IfSome t.written (λ written. AreRecords written (lines_by r)) → IsTied s t r i
tied_over None t r i o h c w = record { held = h; written = w; cause = (c, o) }
tied_over (Some status.Done) t r i o h c w = record { held = h; written = w; cause = (c, o.0, inr o.1) }
tied_over (Some status.Words) t r i o h c w = absurd o
tied_over (Some (status.File f)) t r i o h c w = absurd o
tied_over (Some status.Budget) t r i o h c w = record { held = h; written = w; cause = (c, o) }
tied_over (Some status.History) t r i o h c w = record { held = h; written = w; cause = (c, o.0, o.1) }
tied_over (Some status.ReadFault) t r i o h c w = absurd o
tied_over (Some status.WriteFault) t r i o h c w = absurd o
tied_over (Some status.NoMemory) t r i o h c w = absurd o
tied_over (Some status.Rejected) t r i o h c w = absurd o

-- the text of what was said
said_text : (r : Stage) (o : Option (List ℕ)) → IfSome o (λ w. AreRecords w (lines_by r)) → IfSome o (λ w. w ≡ said r.opening r.journal)
unfolding said
said_text r None h = tt
said_text r (Some w) h = h.text

-- where input is asked for: each whole line was done, and it may wait only while no hart runs
pub record IsQuiet (wait : Bool) (r : Stage) (i : Taken) : Type 0 where
  pub ended : i.ended ≡ false
  pub none : lines i.rest false ≡ []
  pub still : wait ≡ true → any_runs r.state.harts ≡ false
  pub leaves : Leaves r.opening r.journal r.state

polled_so : (t : Told) (r : Stage) (i : Taken) → IsHeld t r i → i.ended ≡ false → IfSome t.polled (λ bytes. Gives false bytes (did r.journal) i.rest)
polled_so t r i h un = subst (λ b. IfSome t.polled (λ bytes. Gives b bytes (did r.journal) i.rest)) un h.input

-- a program comes from where it came, where the file is as it was
comes_as : (s : Source) (t u : Told) (p : Program) → ComesFrom s t p → u.file_name ≡ t.file_name → u.file_taken ≡ t.file_taken → u.file_length ≡ t.file_length → u.file_ended ≡ t.file_ended → u.file_faults ≡ t.file_faults → ComesFrom s u p
comes_as (File n) t u p h name taken long ended faults = record {
  named = name ∙ h.named;
  whole = rw (ended, long) h.whole;
  taken = rw (taken, long) h.taken;
  faults = faults ∙ h.faults;
  image = rw taken h.image;
}
comes_as (Generated n) t u p h name taken long ended faults = (
  record { name = name ∙ h.0.name; taken = long ∙ h.0.taken; bytes = rw taken h.0.bytes; faults = faults ∙ h.0.faults; ended = ended ∙ h.0.ended },
  h.1,
)

-- what was opened stays so, where the words and the file are as they were
pub opened_as : (t u : Told) (o p : Opening) → p ≡ o → Opened t o → u.words ≡ t.words → u.file_name ≡ t.file_name → u.file_taken ≡ t.file_taken
    → u.file_length ≡ t.file_length → u.file_ended ≡ t.file_ended → u.file_faults ≡ t.file_faults → Opened u p
opened_as t u o p same h words name taken long ended faults =
    let P : Opening → Type 0 = λ q. Opened u q in
    subst P (sym same) (record {
      source = h.source;
      has_log = h.has_log;
      asked = ap served_words words ∙ h.asked;
      comes = comes_as h.source t u o.image h.comes name taken long ended faults;
    })

-- a poll alone changes nothing that is tied
pub held_polled : (t u : Told) (r : Stage) (i : Taken) → IsHeld t r i → u ≡ with_poll t → IsHeld u r i
held_polled t u r i h is = rw is (record {
  file = opened_as t (with_poll t) r.opening r.opening refl h.file refl refl refl refl refl refl;
  input = h.input;
  polled = h.polled;
  count = h.count;
  ended = h.ended;
  asks = h.asks;
})

-- a count that is below its type's end
raised_is : (before count n : ℕ) → before ≡ count → count < limits.input → n ≤ 4096 → raised before n ≡ count + n
raised_is before count n same low few = omega (arith, same)

-- more input was polled
held_took : (t : Told) (r : Stage) (i : Taken) (wait : Bool) (bytes : List ℕ) (n : ℕ) → IsTied None t r i → IsQuiet wait r i → length bytes ≡ n → n ≤ 4096
    → IsHeld (record (with_poll t) { polled = more t.polled bytes; input_length = raised t.input_length n; asks = with_ask wait t }) r (record { rest = i.rest ++ bytes; count = i.count + n; ended = i.ended })
held_took t r i wait bytes n h q len few =
    let u : Told = record (with_poll t) { polled = more t.polled bytes; input_length = raised t.input_length n; asks = with_ask wait t } in
    record {
      file = opened_as t u r.opening r.opening refl h.held.file refl refl refl refl refl refl;
      input = told_more t.polled bytes (λ b. Gives i.ended b (did r.journal) i.rest) (λ b. Gives i.ended b (did r.journal) (i.rest ++ bytes)) (λ b g. gives_more i.ended b bytes (did r.journal) i.rest q.ended g) h.held.input;
      polled = told_more t.polled bytes (λ b. length b ≡ i.count) (λ b. length b ≡ i.count + n) (λ b e. omega (arith, length-append b bytes, len, e)) h.held.polled;
      count = raised_is t.input_length i.count n h.held.count h.cause.1.below.input few;
      ended = h.held.ended;
      asks = told_took r wait t.asks t.polled t.written bytes i.rest h.held.asks q.none (polled_so t r i h.held q.ended) (said_text r t.written h.written) q.still q.leaves;
    }

pub tied_took : (s : Option Status) (t u : Told) (r : Stage) (i j : Taken) (wait : Bool) (bytes : List ℕ) (n : ℕ) → IsTied None t r i → IsQuiet wait r i → length bytes ≡ n → n ≤ 4096
    → u ≡ record (with_poll t) { polled = more t.polled bytes; input_length = raised t.input_length n; asks = with_ask wait t }
    → j ≡ record { rest = i.rest ++ bytes; count = i.count + n; ended = i.ended } → OverBy s r j.count → IsTied s u r j
tied_took s t u r i j wait bytes n h q len few is eq over =
    let k : Taken = record { rest = i.rest ++ bytes; count = i.count + n; ended = i.ended } in
    let o : OverBy s r k.count = subst (λ (x : Taken). OverBy s r x.count) eq over in
    let c = h.cause.0 in
    rw (is, eq) (tied_over s (record (with_poll t) { polled = more t.polled bytes; input_length = raised t.input_length n; asks = with_ask wait t }) r
    k o (held_took t r i wait bytes n h q len few) (record { file = c.file; poll = c.poll; put = c.put }) h.written)

-- the input ended
pub tied_end : (t u : Told) (r : Stage) (i j : Taken) (wait : Bool) → IsTied None t r i → IsQuiet wait r i → u ≡ record (with_poll t) { poll_ended = true; asks = with_ask wait t } → j ≡ record i { ended = true } → IsTied None u r j
tied_end t u r i j wait h q is eq =
    let c = h.cause.0 in
    rw (is, eq) (record {
      held = record {
        file = opened_as t (record (with_poll t) { poll_ended = true; asks = with_ask wait t }) r.opening r.opening refl h.held.file refl refl refl refl refl refl;
        input = told_same t.polled (λ b. Gives i.ended b (did r.journal) i.rest) (λ b. Gives true b (did r.journal) i.rest) (λ b g. gives_end i.ended b (did r.journal) i.rest g) h.held.input;
        polled = h.held.polled;
        count = h.held.count;
        ended = refl;
        asks = told_end r wait t.asks t.polled t.written i.rest h.held.asks q.none (polled_so t r i h.held q.ended) (said_text r t.written h.written) q.still q.leaves;
      };
      written = h.written;
      cause = (record { file = c.file; poll = c.poll; put = c.put }, h.cause.1);
    })

-- nothing came
pub tied_nothing : (t u : Told) (r : Stage) (i : Taken) → IsTied None t r i → u ≡ with_poll t → IsTied None u r i
tied_nothing t u r i h is =
    let c = h.cause.0 in
    let held = held_polled t (with_poll t) r i h.held refl in
    rw is (record { held = held; written = h.written; cause = (record { file = c.file; poll = c.poll; put = c.put }, h.cause.1) })

-- a poll failed
pub tied_unpolled : (t u : Told) (r : Stage) (i : Taken) (faults : ℕ) → IsTied None t r i → Rose t.poll_faults faults → u ≡ record (with_poll t) { poll_faults = faults } → IsTied (Some status.ReadFault) u r i
tied_unpolled t u r i faults h rose is =
    let f = opened_as t (record (with_poll t) { poll_faults = faults }) r.opening r.opening refl h.held.file refl refl refl refl refl refl in
    let c = h.cause.0.poll in
    let above : 0 < faults = omega (arith, rose) in
    rw is (record { held = record { file = f; input = h.held.input; polled = h.held.polled; count = h.held.count; ended = h.held.ended; asks = h.held.asks }; written = h.written; cause = above })

-- a line was done
gives_line : (ended : Bool) (bytes : List ℕ) (done : List (List ℕ)) (rest line : List ℕ) (next : ℕ) → Gives ended bytes done rest → IsNext ended rest line next → Gives ended bytes (done ++ line ∷ []) (drop next rest)
gives_line true bytes done rest line next h n = h ∙ (ap (λ t. done ++ t) n ∙ sym (append_assoc done (line ∷ []) (lines (drop next rest) true)))
gives_line false bytes done rest line next h n = λ more e. h more e ∙ (ap (λ t. done ++ t) (n more e) ∙ sym (append_assoc done (line ∷ []) (lines (drop next rest ++ more) e)))

-- the lines that were said before, and those that were said since
both : (w : List ℕ) (before after trees : List LineTree) → after ≡ before ++ trees → AreLines trees → AreRecords w before → AreRecords (w ++ lines_bytes trees) after
both w before after trees said are h = subst (λ (ls : List LineTree). AreRecords (w ++ lines_bytes trees) ls) (sym said) (records_joined w (lines_bytes trees) before trees h (record { lines = are; text = refl }))

-- a put that failed left a front of what was said
cut_by : (o : Option (List ℕ)) (before after trees : List LineTree) (n : ℕ) → after ≡ before ++ trees → AreLines trees
    → IfSome o (λ w. AreRecords w before) → IfSome (more o (take n (lines_bytes trees))) (λ w. AreLines after × IsCut w (lines_bytes after))
cut_by None before after trees n said are h = tt
cut_by (Some w) before after trees n said are h =
    let text = lines_bytes trees in
    let whole = both w before after trees said are h in
    (whole.lines, (drop n text, append_assoc w (take n text) (drop n text) ∙ (ap (λ t. w ++ t) (take-append-drop n text) ∙ whole.text)))

-- all that was said was put
put_by : (o : Option (List ℕ)) (before after trees : List LineTree) → after ≡ before ++ trees → AreLines trees → IfSome o (λ w. AreRecords w before) → IfSome (more o (lines_bytes trees)) (λ w. AreRecords w after)
put_by None before after trees said are h = tt
put_by (Some w) before after trees said are h = both w before after trees said are h

-- what was written are the first lines of what was said since
unsaid : (o : Option (List ℕ)) (before after trees : List LineTree) → after ≡ before ++ trees → IfSome o (λ w. AreRecords w before)
    → IfSome o (λ w. (first : List LineTree) × (rest : List LineTree) × (first ++ rest ≡ after) × AreRecords w first)
unsaid None before after trees said h = tt
unsaid (Some w) before after trees said h = (before, trees, sym said, h)

-- the input as a line leaves it
line_input : (t : Told) (r s : Stage) (i : Taken) (next : ℕ) → IsHeld t r i → DoesLine i.ended i.rest next r s → IfSome t.polled (λ b. Gives i.ended b (did s.journal) (drop next i.rest))
line_input t r s i next h does =
    told_same t.polled (λ b. Gives i.ended b (did r.journal) i.rest) (λ b. Gives i.ended b (did s.journal) (drop next i.rest)) (λ bytes g. rw does.did (gives_line i.ended bytes (did r.journal) i.rest does.line next g does.is_next)) h.input

turn_input : (t : Told) (r s : Stage) (i : Taken) → IsHeld t r i → Goes r s → IfSome t.polled (λ b. Gives i.ended b (did s.journal) i.rest)
turn_input t r s i h goes = told_same t.polled (λ b. Gives i.ended b (did r.journal) i.rest) (λ b. Gives i.ended b (did s.journal) i.rest) (λ bytes g. rw goes.lines g) h.input

-- What is tied after a step that put its lines, or a part of them. What is known of the input is handed in.
held_put : (t u : Told) (r s : Stage) (i j : Taken) → IsHeld t r i → s.opening ≡ r.opening → u.words ≡ t.words → u.file_name ≡ t.file_name
    → u.file_taken ≡ t.file_taken → u.file_length ≡ t.file_length → u.file_ended ≡ t.file_ended → u.file_faults ≡ t.file_faults
    → u.polled ≡ t.polled → u.input_length ≡ t.input_length → u.poll_ended ≡ t.poll_ended → u.asks ≡ t.asks → j.count ≡ i.count → j.ended ≡ i.ended
    → IfSome t.polled (λ b. Gives j.ended b (did s.journal) j.rest) → ToldInTime s.opening s.journal t.polled t.asks → IsHeld u s j
held_put t u r s i j h opened words name taken long fended faults polled length poll_ended asks count ended input times = record {
  file = opened_as t u r.opening s.opening opened h.file words name taken long fended faults;
  input = rw polled input;
  polled = rw (polled, count) h.polled;
  count = length ∙ (h.count ∙ sym count);
  ended = poll_ended ∙ (h.ended ∙ sym ended);
  asks = rw (polled, asks) times;
}

-- a put failed
unput_by : (t u : Told) (r s : Stage) (i j : Taken) → IsTied None t r i → s.opening ≡ r.opening → Says t u r s false → j.count ≡ i.count → j.ended ≡ i.ended
    → IfSome t.polled (λ b. Gives j.ended b (did s.journal) j.rest) → ToldInTime s.opening s.journal t.polled t.asks → IsTied (Some status.WriteFault) u s j
unput_by t u r s i j h opened says count ended input times =
    let p = says.puts in
    let text = lines_bytes says.trees in
    let c = h.cause.0.put in
    let rose : 0 < p.1 = omega (arith, p.2) in
    rw p.3 (record {
      held = held_put t (record t { written = more t.written (take p.0 text); put_faults = p.1 }) r s i j h.held opened refl refl refl refl refl refl refl refl refl refl count ended input times;
      written = cut_by t.written (lines_by r) (lines_by s) says.trees p.0 says.said says.grammar h.written;
      cause = rose;
    })

-- there was no memory for the lines
unsaid_by : (t u : Told) (r s : Stage) (i j : Taken) → IsTied None t r i → s.opening ≡ r.opening → Keeps t u r s → j.count ≡ i.count → j.ended ≡ i.ended
    → IfSome t.polled (λ b. Gives j.ended b (did s.journal) j.rest) → ToldInTime s.opening s.journal t.polled t.asks → IsTied (Some status.NoMemory) u s j
unsaid_by t u r s i j h opened keeps count ended input times =
    rw keeps.told (record {
      held = held_put t t r s i j h.held opened refl refl refl refl refl refl refl refl refl refl count ended input times;
      written = unsaid t.written (lines_by r) (lines_by s) keeps.trees keeps.said h.written;
      cause = tt;
    })

-- memory ran out, and nothing was done
pub tied_short : (t : Told) (r : Stage) (i : Taken) → IsTied None t r i → IsTied (Some status.NoMemory) t r i
tied_short t r i h = record {
  held = h.held;
  written = told_same t.written (λ w. AreRecords w (lines_by r))
      (λ w. (first : List LineTree) × (rest : List LineTree) × (first ++ rest ≡ lines_by r) × AreRecords w first)
      (λ w are. (lines_by r, [], append-nil (lines_by r), are)) h.written;
  cause = tt;
}

-- the lines were put
put_of : (o : Option Status) (t u : Told) (r s : Stage) (i j : Taken) → IsTied None t r i → s.opening ≡ r.opening → Says t u r s true → j.count ≡ i.count → j.ended ≡ i.ended
    → IfSome t.polled (λ b. Gives j.ended b (did s.journal) j.rest) → ToldInTime s.opening s.journal t.polled t.asks → OverBy o s j.count → IsTied o u s j
put_of o t u r s i j h opened says count ended input times over =
    let c = h.cause.0 in
    let v : Told = record t { written = more t.written (lines_bytes says.trees) } in
    rw says.puts (tied_over o v s j over
    (held_put t v r s i j h.held opened refl refl refl refl refl refl refl refl refl refl count ended input times)
    (record { file = c.file; poll = c.poll; put = c.put })
    (put_by t.written (lines_by r) (lines_by s) says.trees says.said says.grammar h.written))

pub line_unput : (t u : Told) (r s : Stage) (i : Taken) (next : ℕ) → IsTied None t r i → s.opening ≡ r.opening → Says t u r s false
    → DoesLine i.ended i.rest next r s → IsTied (Some status.WriteFault) u s (record i { rest = drop next i.rest })
line_unput t u r s i next h opened says does =
    unput_by t u r s i (record i { rest = drop next i.rest }) h opened says refl refl (line_input t r s i next h.held does)
    (told_line r s does.line (pokes_of (done_by r.opening r.state does.line).pending) t.polled t.asks opened does.journal h.held.asks)

-- A line was done, and there was no memory for its reply.
pub line_unsaid : (t u : Told) (r s : Stage) (i : Taken) (next : ℕ) → IsTied None t r i → s.opening ≡ r.opening → Keeps t u r s → DoesLine i.ended i.rest next r s → IsTied (Some status.NoMemory) u s (record i { rest = drop next i.rest })
line_unsaid t u r s i next h opened keeps does =
    unsaid_by t u r s i (record i { rest = drop next i.rest }) h opened keeps refl refl (line_input t r s i next h.held does)
    (told_line r s does.line (pokes_of (done_by r.opening r.state does.line).pending) t.polled t.asks opened does.journal h.held.asks)

-- A line was done, and its reply put.
pub line_done : (o : Option Status) (t u : Told) (r s : Stage) (i : Taken) (next : ℕ) → IsTied None t r i → s.opening ≡ r.opening → Says t u r s true
    → DoesLine i.ended i.rest next r s → OverBy o s i.count → IsTied o u s (record i { rest = drop next i.rest })
line_done o t u r s i next h opened says does over =
    put_of o t u r s i (record i { rest = drop next i.rest }) h opened says refl refl (line_input t r s i next h.held does)
    (told_line r s does.line (pokes_of (done_by r.opening r.state does.line).pending) t.polled t.asks opened does.journal h.held.asks) over

-- A hart moved, and its lines were put.
pub turn_put : (o : Option Status) (t u : Told) (r s : Stage) (i : Taken) → IsTied None t r i → s.opening ≡ r.opening → Leaves r.opening r.journal r.state → Says t u r s true → Goes r s → OverBy o s i.count → IsTied o u s i
turn_put o t u r s i h opened leaves says goes over =
    put_of o t u r s i i h opened says refl refl (turn_input t r s i h.held goes) (told_goes r s t.polled t.asks opened leaves goes h.held.asks) over

-- A hart moved, and there was no memory for its lines.
pub turn_unsaid : (t u : Told) (r s : Stage) (i : Taken) → IsTied None t r i → s.opening ≡ r.opening → Leaves r.opening r.journal r.state → Keeps t u r s → Goes r s → IsTied (Some status.NoMemory) u s i
turn_unsaid t u r s i h opened leaves keeps goes =
    unsaid_by t u r s i i h opened keeps refl refl (turn_input t r s i h.held goes) (told_goes r s t.polled t.asks opened leaves goes h.held.asks)

pub turn_unput : (t u : Told) (r s : Stage) (i : Taken) → IsTied None t r i → s.opening ≡ r.opening → Leaves r.opening r.journal r.state → Says t u r s false → Goes r s → IsTied (Some status.WriteFault) u s i
turn_unput t u r s i h opened leaves says goes =
    unput_by t u r s i i h opened says refl refl (turn_input t r s i h.held goes) (told_goes r s t.polled t.asks opened leaves goes h.held.asks)

-- the slice from a place on
pub slice_from : (items xs : List ℕ) (start : ℕ) → xs ≡ items → take (length xs - start) (drop start xs) ≡ drop start items
slice_from items xs start is = take_all (length xs - start) (drop start xs) (simp length-drop (omega arith)) ∙ ap (drop start) is

no_lines : (ls : List (List ℕ)) → is_some_line ls ≡ false → ls ≡ []
no_lines [] is = refl
no_lines (l ∷ ls) is = cc

-- no whole line is kept
none_stands : (ended : Bool) (rest : List ℕ) → ended ≡ false → false ≡ has_line ended rest → lines rest false ≡ []
none_stands true rest un is = cc
none_stands false rest un is = no_lines (lines rest false) (sym is)

still_if : (b runs : Bool) → b ≡ runs → not b ≡ true → runs ≡ false
still_if true runs is e = cc
still_if false runs is e = sym is

pub quiet : (r : Stage) (i : Taken) (b : Bool) → i.ended ≡ false → false ≡ has_line i.ended i.rest → b ≡ any_runs r.state.harts → Leaves r.opening r.journal r.state → IsQuiet (not b) r i
quiet r i b ended none runs leaves = record { ended = ended; none = none_stands i.ended i.rest ended none; still = still_if b (any_runs r.state.harts) runs; leaves = leaves }

pub drop_front : (n : ℕ) (xs ys : List ℕ) → n ≤ length xs → drop n (xs ++ ys) ≡ drop n xs ++ ys
drop_front zero xs ys le = refl
drop_front (suc n) [] ys le = absurd (omega arith)
drop_front (suc n) (x ∷ xs) ys le = drop_front n xs ys (omega arith)

pub counted_by : (s : Option Status) (r : Stage) (count n : ℕ) → count < limits.input → n ≤ 4096 → OverBy s r (count + n) → IsCounted s (count + n)
counted_by None r count n low few o = o.below.input
counted_by (Some s) r count n low few o = omega arith

pub counted_same : (s : Option Status) (r : Stage) (count : ℕ) → count < limits.input → OverBy s r count → IsCounted s count
counted_same None r count low o = o.below.input
counted_same (Some s) r count low o = omega arith
