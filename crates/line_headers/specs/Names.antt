-- The tables of directories and files in versions 2 to 4 (DWARF 4, section 6.2.4, items 11 and 12).
use Rattle.std.specs.Prelude.{ℕ, zero, suc, ◌+◌, ◌==◌, Bool, true, false, List, [], ◌∷◌, length, Option, None, Some, Err, if◌then◌else◌}
use Rattle.leb_read.specs.Leb.{text_at, uleb_at}
use Rattle.leb_read.specs.Reading.{◌>>=◌, found, read_map}
use Rattle.line_rows.specs.Reading.{Reading, read}
use Rattle.line_headers.specs.declared.places.NamePlace.{NamePlace}
use Rattle.line_headers.specs.declared.places.NamePlace.TheVariants as place
use Rattle.line_rows.specs.declared.fault.LineFault.TheVariants as fault

-- a file's directory, time and length
unfoldable pub numbers_at : List ℕ → ℕ → Reading ℕ
numbers_at bytes at = do
  directory ← read (uleb_at bytes at)
  time ← read (uleb_at bytes directory.1)
  read (uleb_at bytes time.1)

-- what stands behind a name: a file's numbers, and nothing behind a directory
abbrev pub rest_at : Bool → NamePlace → List ℕ → ℕ → Reading (Option NamePlace)
rest_at true name bytes at = read_map (λ _. Some name) (numbers_at bytes at)
rest_at false name bytes at = found (Some name) at

-- an entry of a table; an empty name ends it
unfoldable pub entry_at : Bool → List ℕ → ℕ → Reading (Option NamePlace)
entry_at is_file bytes at = do
  name ← read (text_at bytes at)
  if length name.0 == 0 then found None name.1 else rest_at is_file (place.Line at) bytes name.1

-- the table goes on behind an entry, and not behind its end
abbrev pub entry_then : Option NamePlace → ℕ → Reading (List NamePlace) → Reading (List NamePlace)
entry_then None next others = found [] next
entry_then (Some name) next others = read_map (λ names. name ∷ names) others

-- a table of at most n entries
abbrev pub names_at : Bool → ℕ → List ℕ → ℕ → Reading (List NamePlace)
names_at is_file zero bytes at = Err fault.Short
names_at is_file (suc n) bytes at = do
  entry ← entry_at is_file bytes at
  entry_then entry.0 entry.1 (names_at is_file n bytes entry.1)

-- the files, behind the directories; a table has no more entries than there are bytes, and its end
unfoldable pub name_tables_at : List ℕ → ℕ → Reading (List NamePlace)
name_tables_at bytes at = do
  directories ← names_at false (length bytes + 1) bytes at
  names_at true (length bytes + 1) bytes directories.1
