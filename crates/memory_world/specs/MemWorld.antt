-- What a world in memory tells.
use Rattle.std.specs.Prelude.{ℕ, List, [], take, map, slice_index_or, Option, Some, None, false}
use Rattle.std.specs.Option.{option_map}
use Rattle.std.specs.Global.{Global}
use Rattle.std.specs.declared.vec.Vec.{Vec}
use Rattle.dbg_traits.specs.Told.{Told}
use Rattle.dbg_traits.specs.Names.{name_at}
use Rattle.memory_world.specs.Script.{bytes_before, ask_seen}
use Rattle.memory_world.specs.declared.memory.Reading.{Reading}
use Rattle.memory_world.specs.declared.memory.MemWorld.{MemWorld}

-- the bytes of the file of a number; past the end there are none
abbrev pub file_bytes : List (List ℕ × Vec ℕ Global) → ℕ → List ℕ
file_bytes files k = slice_index_or (map (λ f. f.1.items) files) k []

-- the bytes of the file that were read so far
abbrev pub bytes_read : List (List ℕ × Vec ℕ Global) → Option Reading → List ℕ
bytes_read files None = []
bytes_read files (Some r) = take r.at (file_bytes files r.file)

abbrev pub told_of : MemWorld → Told
told_of w = record {
  words = w.words.items;
  file_name = option_map (λ r. name_at w.words.items r.name.word r.name.from) w.reading;
  file_taken = Some (bytes_read w.files.items w.reading);
  polled = Some (bytes_before w.script.items w.place);
  written = Some w.output.items;
  asks = Some (map (ask_seen w.script.items) w.asks.items);
  file_length = w.file_length;
  input_length = w.input_length;
  polls = w.polls;
  file_faults = w.file_faults;
  poll_faults = w.poll_faults;
  put_faults = w.put_faults;
  file_ended = w.file_ended;
  poll_ended = w.poll_ended;
}

-- all is told, and nothing has happened yet
abbrev pub told_first : List (List ℕ) → Told
told_first words = record {
  words = words;
  file_name = None;
  file_taken = Some [];
  polled = Some [];
  written = Some [];
  asks = Some [];
  file_length = 0;
  input_length = 0;
  polls = 0;
  file_faults = 0;
  poll_faults = 0;
  put_faults = 0;
  file_ended = false;
  poll_ended = false;
}
