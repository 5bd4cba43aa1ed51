-- How a check ends.
use Rattle.std.proofs.Common.{◌≡◌, ◌≤◌, ◌<◌, ◌+◌, ℕ, Bool, true, false, List, [], ◌∷◌, ◌++◌, length, take, drop, refl, sym, ap, ◌∙◌, subst, arith}
use Rattle.std.proofs.lemmas.List.{take-append-drop}
use Rattle.std.specs.Prelude.{◌⊎◌, Option, Some, None, IfSome}
use mathlib.Core.List.{append-nil}
use mathlib.Core.Logic.{inl, inr}
use Rattle.dbg_traits.specs.Told.{Told, IsFresh, more}
use Rattle.dbg_traits.specs.Causes.{Rose}
use Rattle.elf_checks.specs.Reading.{IsImage, Refused}
use Rattle.elf_checks.specs.declared.fault.ElfFault.{ElfFault}
use Rattle.elf32_read.specs.Program.{Program}
use Rattle.mi_values.specs.Record.{LineTree}
use Rattle.mi_values.specs.Records.{lines_bytes}
use Rattle.mi_reports.specs.Refusals.{refusal_lines, file_fields}
use Rattle.session_parts.specs.Words.{ReadsAll, ReadsSome, named_of}
use Rattle.session_parts.specs.Ties.{IsCut, IsEmpty, IsFileOf, IsUnpolled}
use Rattle.session_parts.specs.Puts.{PutsAll, PutsLines, with_text}
use Rattle.session_parts.specs.Early.{IsPart, Line, Silent}
use Rattle.session_parts.specs.declared.file.FileError.TheVariants as file
use Rattle.session_parts.specs.declared.status.Status.TheVariants as status
use Rattle.session_check.specs.declared.input.InputError.TheVariants as error
use Rattle.session_check.specs.declared.finding.Finding.{Finding}
use Rattle.session_check.specs.declared.finding.Finding.TheVariants.{Accepted, Long, Fault, Unlawful, Differs}
use Rattle.session_check.specs.Findings.{Finds, most_input}
use Rattle.session_check.specs.VerdictLine.{verdict_line}
use Rattle.session_check.specs.Polling.{IsUntouched, Polls, PollsAll, PollsSome}
use Rattle.session_check.specs.Checks.{Answered, Checks, Cut, FailsFile, FailsInput, IsPolled, IsRefused, IsShort, Judged}
use Rattle.session_check.specs.Stages.{IsFound, IsLoaded, IsTurnedAway, status_of}

-- ---- lists that may not be told

empty : {A : Type 0} (o : Option (List A)) → (o ≡ None) ⊎ (o ≡ Some []) → IsEmpty o
empty o (inl is) = rw is tt
empty o (inr is) = rw is refl

told_all : (o : Option (List ℕ)) (bytes : List ℕ) (P : List ℕ → Type 0) → (o ≡ None) ⊎ (o ≡ Some []) → P bytes → IfSome (more o bytes) P
told_all o bytes P (inl is) p = rw is tt
told_all o bytes P (inr is) p = rw is p

nothing_in : (o : Option (List ℕ)) → (o ≡ None) ⊎ (o ≡ Some []) → IfSome o (λ written. written ≡ [])
nothing_in o (inl is) = rw is tt
nothing_in o (inr is) = rw is refl

unpolled : (t : Told) → IsFresh t → IsUnpolled t
unpolled t fresh = record { polls = fresh.polls; taken = fresh.input_length; polled = empty t.polled fresh.polled; asks = empty t.asks fresh.asks; faults = fresh.poll_faults; ended = fresh.poll_ended }

silent : (t : Told) → (t.written ≡ None) ⊎ (t.written ≡ Some []) → Silent t
silent t h = nothing_in t.written h

-- ---- the line of the verdict

answered_at : (name : List ℕ) (t : Told) (found : Finding) (text : List ℕ) → Judged name t found → Judged name (with_text t text) found
answered_at name t found text h = record {
  program = h.program;
  file = record { named = h.file.named; whole = h.file.whole; taken = h.file.taken; faults = h.file.faults; image = h.file.image };
  faults = h.faults;
  polled = h.polled;
  length = h.length;
  finds = h.finds;
}

cut_at : (name : List ℕ) (t : Told) (found : Finding) (text : List ℕ) (puts : ℕ) → Judged name t found → Judged name (record (with_text t text) { put_faults = puts }) found
cut_at name t found text puts h = record {
  program = h.program;
  file = record { named = h.file.named; whole = h.file.whole; taken = h.file.taken; faults = h.file.faults; image = h.file.image };
  faults = h.faults;
  polled = h.polled;
  length = h.length;
  finds = h.finds;
}

answered : (name : List ℕ) (t u : Told) (found : Finding) → IsFound name t found → PutsAll true (verdict_line found) t u → Answered name u found
answered name t u found h puts = rw puts (record {
  judged = answered_at name t found (verdict_line found) h.judged;
  puts = h.puts;
  written = told_all t.written (verdict_line found) (λ written. written ≡ verdict_line found) h.written refl;
})

by_status : (name : List ℕ) (u : Told) (found : Finding) → Answered name u found → Checks name (status_of found) u
by_status name u (Accepted n) h = (n, h)
by_status name u Long h = (Long, tt, h)
by_status name u (Fault f) h = (Fault f, tt, h)
by_status name u (Unlawful n) h = (Unlawful n, tt, h)
by_status name u (Differs n) h = (Differs n, tt, h)

pub put_whole : (name : List ℕ) (t u : Told) (found : Finding) → IsFound name t found → PutsAll true (verdict_line found) t u → Checks name (status_of found) u
put_whole name t u found h puts = by_status name u found (answered name t u found h puts)

pub put_cut : (name : List ℕ) (t u : Told) (found : Finding) → IsFound name t found → PutsAll false (verdict_line found) t u → Checks name status.WriteFault u
put_cut name t u found h puts =
    let n = puts.0 in
    let none = h.puts in
    let rose : 0 < puts.1 = omega (arith, none, puts.2) in
    let cut : Cut name u found = rw puts.3 (record {
      judged = cut_at name t found (take n (verdict_line found)) puts.1 h.judged;
      puts = rose;
      written = told_all t.written (take n (verdict_line found)) (λ written. IsCut written (verdict_line found)) h.written (drop n (verdict_line found), take-append-drop n (verdict_line found));
    }) in
    (found, cut)

pub found_short : (name : List ℕ) (t : Told) (found : Finding) → IsFound name t found → Checks name status.NoMemory t
found_short name t found h = record { named = inr h.judged.file.named; file = h.judged.file.faults; poll = h.judged.faults; put = h.puts; silent = silent t h.written }

pub put_words : (b : Bool) (t u : Told) (text : List ℕ) → PutsAll b text t u → u.words ≡ t.words
put_words true t u text puts = ap (λ (v : Told). v.words) puts
put_words false t u text puts = ap (λ (v : Told). v.words) puts.3

-- ---- the input

finds_polled : (p : Program) (input : List ℕ) (ended : Bool) (found : Finding) → Finds p input found → ((ended ≡ true) × (length input ≤ most_input)) ⊎ (most_input < length input) → IsPolled found ended (length input)
finds_polled p input ended Long h w = h
finds_polled p input ended (Accepted n) h (inl w) = w
finds_polled p input ended (Accepted n) h (inr w) = absurd (omega (arith, h.0, w))
finds_polled p input ended (Fault f) h (inl w) = w
finds_polled p input ended (Fault f) h (inr w) = absurd (omega (arith, h.0, w))
finds_polled p input ended (Unlawful n) h (inl w) = w
finds_polled p input ended (Unlawful n) h (inr w) = absurd (omega (arith, h.0, w))
finds_polled p input ended (Differs n) h (inl w) = w
finds_polled p input ended (Differs n) h (inr w) = absurd (omega (arith, h.0, w))

beyond : (input : List ℕ) (ended : Bool) → ((ended ≡ true) × (length input ≤ most_input)) ⊎ ((most_input < length input) × (length input ≤ most_input + 4096)) → ((ended ≡ true) × (length input ≤ most_input)) ⊎ (most_input < length input)
beyond input ended (inl w) = inl w
beyond input ended (inr w) = inr w.0

pub input_found : (name : List ℕ) (t u : Told) (p : Program) (input : List ℕ) (found : Finding) → IsLoaded name t p → PollsAll input t u → Finds p input found → IsFound name u found
input_found name t u p input found h all finds = rw all.1.told (record {
  judged = record {
    program = p;
    file = record { named = h.file.named; whole = h.file.whole; taken = h.file.taken; faults = h.file.faults; image = h.file.image };
    faults = refl;
    polled = finds_polled p input all.0 found finds (beyond input all.0 all.2);
    length = told_all t.polled input (λ i. length i ≡ length input) h.input.polled refl;
    finds = told_all t.polled input (λ i. Finds p i found) h.input.polled finds;
  };
  written = h.written;
  puts = h.puts;
})

pub input_short : (name : List ℕ) (t u : Told) (p : Program) (input : List ℕ) (ended : Bool) → IsLoaded name t p → Polls input ended 0 t u → Checks name status.NoMemory u
input_short name t u p input ended h polls = rw polls.told (record { named = inr h.file.named; file = h.file.faults; poll = refl; put = h.puts; silent = silent t h.written })

pub input_failed : (name : List ℕ) (t u : Told) (p : Program) → IsLoaded name t p → PollsSome error.Failed t u → Checks name status.ReadFault u
input_failed name t u p h some =
    let faults = some.1 in
    let rose = some.2 in
    rw some.3.told (
      silent t h.written,
      h.puts,
      inr (record {
        program = p;
        file = record { named = h.file.named; whole = h.file.whole; taken = h.file.taken; faults = h.file.faults; image = h.file.image };
        faults = rose;
      }),
    )

pub polls_words : (input : List ℕ) (ended : Bool) (faults : ℕ) (t u : Told) → Polls input ended faults t u → u.words ≡ t.words
polls_words input ended faults t u polls = ap (λ (v : Told). v.words) polls.told

-- ---- the file

pub loaded : (name : List ℕ) (t u : Told) (p : Program) (bytes : List ℕ) → IsFresh t → ReadsAll bytes name t u → IsImage bytes p → IsLoaded name u p
loaded name t u p bytes fresh reads image = rw reads.3 (record {
  file = record {
    named = refl;
    whole = reads.1;
    taken = told_all t.file_taken bytes (λ b. length b ≡ length bytes) fresh.taken refl;
    faults = fresh.file_faults;
    image = told_all t.file_taken bytes (λ b. IsImage b p) fresh.taken image;
  };
  input = record { polled = fresh.polled; length = fresh.input_length; faults = fresh.poll_faults; ended = fresh.poll_ended };
  written = fresh.written;
  puts = fresh.put_faults;
})

pub turned_away : (name : List ℕ) (t u : Told) (f : ElfFault) (bytes : List ℕ) → IsFresh t → ReadsAll bytes name t u → Refused bytes f → IsTurnedAway name u f
turned_away name t u f bytes fresh reads fault =
    let h = unpolled t fresh in
    rw reads.3 (record {
      refused = record {
        named = refl;
        whole = reads.1;
        faults = fresh.file_faults;
        length = told_all t.file_taken bytes (λ b. length b ≡ length bytes) fresh.taken refl;
        fault = told_all t.file_taken bytes (λ b. Refused b f) fresh.taken fault;
      };
      unpolled = record { polls = h.polls; taken = h.taken; polled = h.polled; asks = h.asks; faults = h.faults; ended = h.ended };
      written = fresh.written;
      puts = fresh.put_faults;
    })

pub file_short : (name : List ℕ) (t u : Told) (bytes : List ℕ) → IsFresh t → ReadsAll bytes name t u → Checks name status.NoMemory u
file_short name t u bytes fresh reads = rw reads.3 (record { named = inr refl; file = fresh.file_faults; poll = fresh.poll_faults; put = fresh.put_faults; silent = silent t fresh.written })

named_by : (bytes name : List ℕ) → (named_of bytes name ≡ None) ⊎ (named_of bytes name ≡ Some name)
named_by [] name = inl refl
named_by (b ∷ bs) name = inr refl

pub part_short : (name : List ℕ) (t u : Told) → IsFresh t → ReadsSome file.NoMemory name t u → Checks name status.NoMemory u
part_short name t u fresh reads = rw reads.2 (record { named = named_by reads.0 name; file = fresh.file_faults; poll = fresh.poll_faults; put = fresh.put_faults; silent = silent t fresh.written })

pub part_failed : (name : List ℕ) (t u : Told) → IsFresh t → ReadsSome file.Failed name t u → Checks name status.ReadFault u
part_failed name t u fresh reads =
    let h = unpolled t fresh in
    let none = fresh.file_faults in
    let rose : 0 < reads.1 = omega (arith, none, reads.3) in
    rw reads.4 (
      silent t fresh.written,
      fresh.put_faults,
      inl (record {
        named = refl;
        part = record { ended = fresh.file_ended; length = reads.2 };
        faults = rose;
        unpolled = record { polls = h.polls; taken = h.taken; polled = h.polled; asks = h.asks; faults = h.faults; ended = h.ended };
      }),
    )

pub all_words : (name : List ℕ) (t u : Told) (bytes : List ℕ) → ReadsAll bytes name t u → u.words ≡ t.words
all_words name t u bytes reads = ap (λ (v : Told). v.words) reads.3

-- ---- a file that is refused

away_at : (b : Bool) (name : List ℕ) (t u : Told) (f : ElfFault) (text : List ℕ) → PutsAll b text t u → IsTurnedAway name t f → IsUnpolled u × IsRefused name u f
away_at true name t u f text puts h = rw puts (
  record { polls = h.unpolled.polls; taken = h.unpolled.taken; polled = h.unpolled.polled; asks = h.unpolled.asks; faults = h.unpolled.faults; ended = h.unpolled.ended },
  record { named = h.refused.named; whole = h.refused.whole; faults = h.refused.faults; length = h.refused.length; fault = h.refused.fault },
)
away_at false name t u f text puts h = rw puts.3 (
  record { polls = h.unpolled.polls; taken = h.unpolled.taken; polled = h.unpolled.polled; asks = h.unpolled.asks; faults = h.unpolled.faults; ended = h.unpolled.ended },
  record { named = h.refused.named; whole = h.refused.whole; faults = h.refused.faults; length = h.refused.length; fault = h.refused.fault },
)

line_written : (b : Bool) (t u : Told) (trees : List LineTree) → (t.written ≡ None) ⊎ (t.written ≡ Some []) → t.put_faults ≡ 0 → PutsLines b trees t u → Line trees u
line_written true t u trees fresh none p = rw p.puts (record {
  grammar = p.grammar;
  front = told_all t.written (lines_bytes trees) (λ written. IsCut written (lines_bytes trees)) fresh ([], append-nil (lines_bytes trees));
  whole = λ _. told_all t.written (lines_bytes trees) (λ written. written ≡ lines_bytes trees) fresh refl;
})
line_written false t u trees fresh none p =
    let rose : 0 < p.puts.1 = omega (arith, none, p.puts.2) in
    rw p.puts.3 (record {
      grammar = p.grammar;
      front = told_all t.written (take p.puts.0 (lines_bytes trees)) (λ written. IsCut written (lines_bytes trees)) fresh (drop p.puts.0 (lines_bytes trees), take-append-drop p.puts.0 (lines_bytes trees));
      whole = λ zero. absurd (omega (arith, zero, rose));
    })

pub away : (b : Bool) (name : List ℕ) (t u : Told) (f : ElfFault) → IsTurnedAway name t f → PutsLines b (refusal_lines (file_fields f)) t u → Checks name (status.File f) u
away b name t u f h p =
    let at = away_at b name t u f (lines_bytes (refusal_lines (file_fields f))) p.puts h in
    (at.0, at.1, line_written b t u (refusal_lines (file_fields f)) h.written h.puts p)

pub away_short : (name : List ℕ) (t : Told) (f : ElfFault) → IsTurnedAway name t f → Checks name status.NoMemory t
away_short name t f h = record { named = inr h.refused.named; file = h.refused.faults; poll = h.unpolled.faults; put = h.puts; silent = silent t h.written }
