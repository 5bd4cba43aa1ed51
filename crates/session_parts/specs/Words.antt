-- The words of the command line that are served, and the reading of the file. This project's own.
use Rattle.std.specs.Prelude.{◌≡◌, ◌⊎◌, ◌<◌, ◌≤◌, ℕ, Bool, true, false, List, [], ◌∷◌, length, Option, Some, None}
use Rattle.dbg_traits.specs.Told.{Told, more}
use Rattle.dbg_traits.specs.Causes.{Rose}
use Rattle.dbg_traits.specs.Names.{IsNamed}
use Rattle.dbg_words.specs.Words.{Words, Asked, session, generated, checked}
use Rattle.session_parts.specs.declared.file.Served.{Served}
use Rattle.session_parts.specs.declared.file.Source.{Source}
use Rattle.session_parts.specs.declared.file.Source.TheVariants.{File, Generated}
use Rattle.session_parts.specs.declared.file.FileError.{FileError}
use Rattle.session_parts.specs.declared.file.FileError.TheVariants as error

-- a session over a file, with or without its log, and one over what is generated from a number
abbrev pub served : Option Asked → Option Served
served None = None
served (Some (session name s has_log)) = Some (record { source = File name; settings = s; has_log = has_log })
served (Some (generated n s)) = Some (record { source = Generated n; settings = s; has_log = false })
served (Some (checked name)) = None

-- the session that the words ask for, where they ask for one
abbrev pub served_words : List (List ℕ) → Option Served
served_words words = served (Words words)

-- the check of a log for the program of the file of this name
abbrev pub file_checked : Option Asked → Option (List ℕ)
file_checked None = None
file_checked (Some (session name s has_log)) = None
file_checked (Some (generated n s)) = None
file_checked (Some (checked name)) = Some name

-- the file for whose program the words ask that a log is checked, where they do
abbrev pub checked_words : List (List ℕ) → Option (List ℕ)
checked_words words = file_checked (Words words)

-- the words are refused
abbrev pub AreRefused : List (List ℕ) → Type 0
AreRefused words = Words words ≡ None

-- a file's name is among the words, and a number in its range
abbrev pub IsAmong : List (List ℕ) → Source → Type 0
IsAmong words (File name) = IsNamed words name
IsAmong words (Generated n) = (1 ≤ n) × (n ≤ 1000000)

-- so many bytes of a file are read at most: one more than the largest file that is accepted
abbrev pub most_file : ℕ
most_file = 33554433

-- the file's name, once something was read
abbrev pub named_of : List ℕ → List ℕ → Option (List ℕ)
named_of [] name = None
named_of (b ∷ bs) name = Some name

-- the file was read to its end, or to the most
abbrev pub IsWhole : Told → Type 0
IsWhole t = (t.file_ended ≡ true) ⊎ (t.file_length ≡ most_file)

-- what reading the file to its end, or to the most, does to the world
abbrev pub ReadsAll : List ℕ → List ℕ → Told → Told → Type 0
ReadsAll bytes name t u =
    (ended : Bool) × ((ended ≡ true) ⊎ (length bytes ≡ most_file)) × (length bytes ≤ most_file)
    × (u ≡ record t { file_name = Some name; file_taken = more t.file_taken bytes; file_length = length bytes; file_ended = ended })

-- what it does where it fails: a part of the file was read, and less than the most
abbrev pub ReadsSome : FileError → List ℕ → Told → Told → Type 0
ReadsSome error.Failed name t u =
    (bytes : List ℕ) × (faults : ℕ) × (length bytes < most_file) × Rose t.file_faults faults
    × (u ≡ record t { file_name = Some name; file_taken = more t.file_taken bytes; file_length = length bytes; file_faults = faults })
ReadsSome error.NoMemory name t u =
    (bytes : List ℕ) × (length bytes < most_file) × (u ≡ record t { file_name = named_of bytes name; file_taken = more t.file_taken bytes; file_length = length bytes })
