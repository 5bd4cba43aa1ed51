-- A file that is read piece by piece.
use Rattle.std.specs.Prelude.{ℕ, List, length}
use Rattle.dbg_traits.specs.Told.{Told, more}
use Rattle.session_parts.specs.Words.{named_of}

-- so much of the file was read
abbrev pub with_bytes : Told → List ℕ → List ℕ → Told
with_bytes t bytes name = record t { file_name = named_of bytes name; file_taken = more t.file_taken bytes; file_length = length bytes }
