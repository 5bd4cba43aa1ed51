-- The input of a world in memory, as a script of cues.
use Rattle.std.specs.Prelude.{ℕ, Bool, false, nat_le, List, [], ◌++◌, take, length, slice_index_or, Some}
use Rattle.std.specs.List.{flat_map}
use Rattle.dbg_traits.specs.Told.{Ask}
use Rattle.memory_world.specs.declared.script.Cue.{Cue}
use Rattle.memory_world.specs.declared.script.Cue.TheVariants as cue
use Rattle.memory_world.specs.declared.script.Place.{Place}
use Rattle.memory_world.specs.declared.script.Asked.{Asked}

-- the bytes that a cue gives
abbrev pub cue_bytes : Cue → List ℕ
cue_bytes (cue.Piece bytes) = bytes.items
cue_bytes cue.Quiet = []
cue_bytes cue.Fault = []

-- the cue of a number; past the end nothing comes
abbrev pub cue_at : List Cue → ℕ → Cue
cue_at script k = slice_index_or script k cue.Quiet

-- A poll passes over a piece of which nothing is left and, where it waits, over a quiet time.
abbrev pub is_passed : Bool → Cue → ℕ → Bool
is_passed wait (cue.Piece bytes) byte = nat_le (length bytes.items) byte
is_passed wait cue.Quiet byte = wait
is_passed wait cue.Fault byte = false

-- the bytes of the script before a place: those of the cues before it, and the first ones of its cue
abbrev pub bytes_before : List Cue → Place → List ℕ
bytes_before script place = flat_map cue_bytes (take place.cue script) ++ take place.byte (cue_bytes (cue_at script place.cue))

-- how a poll is noted: whether it could wait, its place in the script, and the number of written bytes before it
abbrev pub ask_seen : List Cue → Asked → Ask
ask_seen script asked = record { wait = asked.wait; polled = Some (length (bytes_before script asked.place)); written = Some asked.written }
