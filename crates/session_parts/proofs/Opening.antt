-- A session that may begin, and a run that ends before.
use Rattle.std.proofs.Common.{◌≡◌, ◌<◌, ℕ, Bool, true, false, List, [], ◌∷◌, length, take, drop, refl, sym, ap, ◌∙◌, arith}
use Rattle.std.proofs.lemmas.List.{take-append-drop}
use mathlib.Core.List.{append-nil}
use Rattle.std.specs.Prelude.{◌⊎◌, Option, Some, None, IfSome}
use mathlib.Core.Logic.{inl, inr}
use Rattle.dbg_traits.specs.Settings.{AreSettings}
use Rattle.dbg_traits.specs.Told.{Told, more, IsFresh}
use Rattle.elf_checks.specs.Reading.{IsImage, Refused}
use Rattle.elf_checks.specs.declared.fault.ElfFault.{ElfFault}
use Rattle.dbg_model.specs.declared.opening.Opening.{Opening}
use Rattle.dbg_traits.specs.declared.settings.Settings.{Settings}
use Rattle.elf_gen.specs.Generated.{generated_file}
use Rattle.session_parts.specs.declared.file.Source.TheVariants.{File, Generated}
use Rattle.dbg_words.specs.Words.{Words, Asked, session, generated, checked}
use Rattle.session_parts.specs.Words.{served, served_words, file_checked, checked_words, AreRefused, ReadsAll, ReadsSome, named_of}
use Rattle.session_parts.specs.declared.file.FileError.TheVariants as error
use Rattle.session_parts.specs.Scene.{AskFile, IsUnused, begun, told_by}
use Rattle.session_parts.specs.Ties.{IsEmpty, IsCut, IsUnread, IsUnpolled, MayBegin}
use Rattle.session_parts.specs.Puts.{PutsAll, PutsLines}
use Rattle.mi_values.specs.Record.{LineTree}
use Rattle.mi_values.specs.Records.{lines_bytes}
use Rattle.mi_reports.specs.Refusals.{refusal_lines, file_fields, usage_fields}
use Rattle.session_parts.specs.declared.status.Status.TheVariants as status
use Rattle.session_parts.specs.Early.{Early, Line, Silent, IsRead, IsReadIfAny, HasFault}

empty : {A : Type 0} (o : Option (List A)) → (o ≡ None) ⊎ (o ≡ Some []) → IsEmpty o
empty o (inl is) = rw is tt
empty o (inr is) = rw is refl

nothing_in : (o : Option (List ℕ)) → (o ≡ None) ⊎ (o ≡ Some []) → IfSome o (λ written. written ≡ [])
nothing_in o (inl is) = rw is tt
nothing_in o (inr is) = rw is refl

told_all : (o : Option (List ℕ)) (bytes : List ℕ) (P : List ℕ → Type 0) → (o ≡ None) ⊎ (o ≡ Some []) → P bytes → IfSome (more o bytes) P
told_all o bytes P (inl is) p = rw is tt
told_all o bytes P (inr is) p = rw is p

-- nothing was written at the beginning
pub silent : (t : Told) → IsFresh t → Silent t
silent t fresh = nothing_in t.written fresh.written

unpolled : (t : Told) → IsFresh t → IsUnpolled t
unpolled t fresh = record { polls = fresh.polls; taken = fresh.input_length; polled = empty t.polled fresh.polled; asks = empty t.asks fresh.asks; faults = fresh.poll_faults; ended = fresh.poll_ended }

unread : (t : Told) → IsFresh t → IsUnread t
unread t fresh = record { name = fresh.named; taken = fresh.file_length; bytes = empty t.file_taken fresh.taken; faults = fresh.file_faults; ended = fresh.file_ended }

-- the words ask for a session over the file of this name, with or without its log
abbrev pub AsksFile : Told → List ℕ → Settings → Bool → Type 0
AsksFile t name settings has_log = served_words t.words ≡ Some (record { source = File name; settings = settings; has_log = has_log })

-- a session over a file that was read may begin
pub ready : (t u : Told) (bytes name : List ℕ) (o : Opening) (has_log : Bool) → IsFresh t → AsksFile t name o.settings has_log → ReadsAll bytes name t u → IsImage bytes o.image → MayBegin u o
ready t u bytes name o has_log fresh asked reads image r opening journal = rw reads.3 (record {
  opened = rw opening (record {
    source = File name;
    has_log = has_log;
    asked = asked;
    comes = record {
      named = refl;
      whole = reads.1;
      taken = told_all t.file_taken bytes (λ b. length b ≡ length bytes) fresh.taken refl;
      faults = fresh.file_faults;
      image = told_all t.file_taken bytes (λ b. IsImage b o.image) fresh.taken image;
    };
  });
  clean = record { file = fresh.file_faults; poll = fresh.poll_faults; put = fresh.put_faults };
  polled = empty t.polled fresh.polled;
  taken = fresh.input_length;
  written = empty t.written fresh.written;
  asks = empty t.asks fresh.asks;
  running = fresh.poll_ended;
  journal = journal;
})

-- and so may one over a script
pub ready_script : (t : Told) (number : ℕ) (text : List ℕ) (o : Opening) → IsFresh t
    → served_words t.words ≡ Some (record { source = Generated number; settings = o.settings; has_log = false })
    → IsImage (generated_file number) o.image → MayBegin (told_by (Some (begun number text)) t) o
ready_script t number text o fresh asked image r opening journal = record {
  opened = rw opening (record { source = Generated number; has_log = false; asked = asked; comes = (let h = unread t fresh in record { name = h.name; taken = h.taken; bytes = h.bytes; faults = h.faults; ended = h.ended }, image) });
  clean = record { file = fresh.file_faults; poll = fresh.poll_faults; put = refl };
  polled = refl;
  taken = refl;
  written = refl;
  asks = tt;
  running = refl;
  journal = journal;
}

-- the world wasn't used before
pub unused : (t : Told) → IsFresh t → IsUnused t
unused t fresh = record { unpolled = unpolled t fresh; written = empty t.written fresh.written; faults = fresh.put_faults }

front_of : (o : Option (List ℕ)) (text : List ℕ) (n : ℕ) → (o ≡ None) ⊎ (o ≡ Some []) → IfSome (more o (take n text)) (λ written. IsCut written text)
front_of o text n fresh = told_all o (take n text) (λ written. IsCut written text) fresh (drop n text, take-append-drop n text)

-- the lines that were put
pub line_written : (b : Bool) (t u : Told) (trees : List LineTree) → (t.written ≡ None) ⊎ (t.written ≡ Some []) → t.put_faults ≡ 0 → PutsLines b trees t u → Line trees u
line_written true t u trees fresh none p = rw p.puts (record {
  grammar = p.grammar;
  front = told_all t.written (lines_bytes trees) (λ written. IsCut written (lines_bytes trees)) fresh ([], append-nil (lines_bytes trees));
  whole = λ _. told_all t.written (lines_bytes trees) (λ written. written ≡ lines_bytes trees) fresh refl;
})
line_written false t u trees fresh none p =
    let rose : 0 < p.puts.1 = omega (arith, none, p.puts.2) in
    rw p.puts.3 (record {
      grammar = p.grammar;
      front = front_of t.written (lines_bytes trees) p.puts.0 fresh;
      whole = λ zero. absurd (omega (arith, zero, rose));
    })

-- A put leaves all but the output and its faults.
put_unpolled : (b : Bool) (t u : Told) (piece : List ℕ) → PutsAll b piece t u → IsUnpolled t → IsUnpolled u
put_unpolled true t u piece puts h = rw puts (record { polls = h.polls; taken = h.taken; polled = h.polled; asks = h.asks; faults = h.faults; ended = h.ended })
put_unpolled false t u piece puts h = rw puts.3 (record { polls = h.polls; taken = h.taken; polled = h.polled; asks = h.asks; faults = h.faults; ended = h.ended })

put_unread : (b : Bool) (t u : Told) (piece : List ℕ) → PutsAll b piece t u → IsUnread t → IsUnread u
put_unread true t u piece puts h = rw puts (record { name = h.name; taken = h.taken; bytes = h.bytes; faults = h.faults; ended = h.ended })
put_unread false t u piece puts h = rw puts.3 (record { name = h.name; taken = h.taken; bytes = h.bytes; faults = h.faults; ended = h.ended })

put_words : (b : Bool) (t u : Told) (piece : List ℕ) → PutsAll b piece t u → u.words ≡ t.words
put_words true t u piece puts = ap (λ (v : Told). v.words) puts
put_words false t u piece puts = ap (λ (v : Told). v.words) puts.3

-- what asks for no session and for no check is refused
neither : (o : Option Asked) → None ≡ served o → file_checked o ≡ None → o ≡ None
neither None is none = refl
neither (Some (session name s has_log)) is none = cc
neither (Some (generated n s)) is none = cc
neither (Some (checked name)) is none = cc

-- the words were refused
pub early_words : (b : Bool) (t u : Told) → IsFresh t → None ≡ served_words t.words → checked_words t.words ≡ None → PutsLines b (refusal_lines usage_fields) t u → Early status.Words u
early_words b t u fresh is none p =
    let text = lines_bytes (refusal_lines usage_fields) in (
      put_unpolled b t u text p.puts (unpolled t fresh),
      put_unread b t u text p.puts (unread t fresh),
      ap Words (put_words b t u text p.puts) ∙ neither (Words t.words) is none,
      line_written b t u (refusal_lines usage_fields) fresh.written fresh.put_faults p,
    )

-- there was no memory to read the words
pub early_memory : (t : Told) → IsFresh t → Early status.NoMemory t
early_memory t fresh = (unpolled t fresh, inl fresh.named, fresh.file_faults, silent t fresh)

-- reading the file leaves the input and the output
all_unpolled : (t u : Told) (bytes name : List ℕ) → ReadsAll bytes name t u → IsFresh t → IsUnpolled u
all_unpolled t u bytes name reads fresh = let h = unpolled t fresh in rw reads.3 (record { polls = h.polls; taken = h.taken; polled = h.polled; asks = h.asks; faults = h.faults; ended = h.ended })

all_read : (t u : Told) (name : List ℕ) (settings : Settings) (has_log : Bool) (bytes : List ℕ) → AsksFile t name settings has_log → ReadsAll bytes name t u → IsRead u
all_read t u name settings has_log bytes asked reads = rw reads.3 (record { name = name; settings = settings; has_log = has_log; words = asked; named = refl })

-- there was no memory once the file was read
pub read_memory : (t u : Told) (name : List ℕ) (settings : Settings) (has_log : Bool) (bytes : List ℕ) → IsFresh t → AsksFile t name settings has_log → ReadsAll bytes name t u → Early status.NoMemory u
read_memory t u name settings has_log bytes fresh asked reads = (
  all_unpolled t u bytes name reads fresh,
  inr (all_read t u name settings has_log bytes asked reads),
  rw reads.3 fresh.file_faults,
  rw reads.3 (silent t fresh),
)

-- the file wasn't read whole
pub early_read : (t u : Told) (name : List ℕ) (settings : Settings) (has_log : Bool) → IsFresh t → AsksFile t name settings has_log → ReadsSome error.Failed name t u → Early status.ReadFault u
early_read t u name settings has_log fresh asked reads =
    let h = unpolled t fresh in
    let none = fresh.file_faults in
    let rose : 0 < reads.1 = omega (arith, none, reads.3) in
    rw reads.4 (
      record { polls = h.polls; taken = h.taken; polled = h.polled; asks = h.asks; faults = h.faults; ended = h.ended },
      record { name = name; settings = settings; has_log = has_log; words = asked; named = refl },
      record { ended = fresh.file_ended; length = reads.2 },
      rose,
      silent t fresh,
    )

name_by : (bytes : List ℕ) (u : Told) (name : List ℕ) (settings : Settings) (has_log : Bool) → AsksFile u name settings has_log → u.file_name ≡ named_of bytes name → IsReadIfAny u
name_by [] u name settings has_log asked named = inl named
name_by (b ∷ bs) u name settings has_log asked named = inr (record { name = name; settings = settings; has_log = has_log; words = asked; named = named })

pub early_room : (t u : Told) (name : List ℕ) (settings : Settings) (has_log : Bool) → IsFresh t → AsksFile t name settings has_log → ReadsSome error.NoMemory name t u → Early status.NoMemory u
early_room t u name settings has_log fresh asked reads =
    let h = unpolled t fresh in
    let v : Told = record t { file_name = named_of reads.0 name; file_taken = more t.file_taken reads.0; file_length = length reads.0 } in
    rw reads.2 (
      record { polls = h.polls; taken = h.taken; polled = h.polled; asks = h.asks; faults = h.faults; ended = h.ended },
      name_by reads.0 v name settings has_log asked refl,
      fresh.file_faults,
      silent t fresh,
    )

put_fault : (b : Bool) (t u : Told) (f : ElfFault) (piece : List ℕ) → PutsAll b piece t u → HasFault t f → HasFault u f
put_fault true t u f piece puts h = rw puts (record {
  read = record { name = h.read.name; settings = h.read.settings; has_log = h.read.has_log; words = h.read.words; named = h.read.named };
  whole =
      h.whole;
  faults = h.faults;
  length = h.length;
  fault = h.fault;
})
put_fault false t u f piece puts h = rw puts.3 (record {
  read = record { name = h.read.name; settings = h.read.settings; has_log = h.read.has_log; words = h.read.words; named = h.read.named };
  whole =
      h.whole;
  faults = h.faults;
  length = h.length;
  fault = h.fault;
})

read_fault : (t u : Told) (name : List ℕ) (settings : Settings) (has_log : Bool) (bytes : List ℕ) (f : ElfFault) → IsFresh t → AsksFile t name settings has_log → ReadsAll bytes name t u → Refused bytes f → HasFault u f
read_fault t u name settings has_log bytes f fresh asked reads fault = rw reads.3 (record {
  read = record { name = name; settings = settings; has_log = has_log; words = asked; named = refl };
  whole = reads.1;
  faults = fresh.file_faults;
  length = told_all t.file_taken bytes (λ b. length b ≡ length bytes) fresh.taken refl;
  fault = told_all t.file_taken bytes (λ b. Refused b f) fresh.taken fault;
})

-- the words name the file that was read
pub asks_still : (t u : Told) (name : List ℕ) (settings : Settings) (has_log : Bool) (bytes : List ℕ) → AsksFile t name settings has_log → AreSettings settings → ReadsAll bytes name t u → AskFile u.words has_log
asks_still t u name settings has_log bytes asked ranges reads = rw reads.3 (record { name = name; settings = settings; served = asked; ranges = ranges })

-- the file was refused
pub early_file : (b : Bool) (t u v : Told) (name : List ℕ) (settings : Settings) (has_log : Bool) (bytes : List ℕ) (f : ElfFault) → IsFresh t
    → AsksFile t name settings has_log → ReadsAll bytes name t u → Refused bytes f → PutsLines b (refusal_lines (file_fields f)) u v → Early (status.File f) v
early_file b t u v name settings has_log bytes f fresh asked reads fault p =
    let text = lines_bytes (refusal_lines (file_fields f)) in
    let written : u.written ≡ t.written = ap (λ (x : Told). x.written) reads.3 in
    let none : u.put_faults ≡ 0 = ap (λ (x : Told). x.put_faults) reads.3 ∙ fresh.put_faults in (
      put_unpolled b u v text p.puts (all_unpolled t u bytes name reads fresh),
      put_fault b u v f text p.puts (read_fault t u name settings has_log bytes f fresh asked reads fault),
      line_written b u v (refusal_lines (file_fields f)) (rw written fresh.written) none p,
    )
