-- What the real world tells: its words, its file's name and its numbers, and no bytes.
use Rattle.std.specs.Prelude.{ℕ, ◌<◌, ◌≤◌, List, Bool, Option, None}
use Rattle.std.specs.Option.{option_map}
use Rattle.dbg_traits.specs.Told.{Told}
use Rattle.dbg_traits.specs.Names.{name_at}
use Rattle.dbg_traits.specs.declared.names.NamePlace.{NamePlace}
use Rattle.dbg_traits.specs.declared.world.Polled.{Polled}
use Rattle.dbg_traits.specs.declared.world.Polled.TheVariants as poll
use Rattle.dbg_traits.specs.declared.world.FileRead.{FileRead}
use Rattle.dbg_traits.specs.declared.world.FileRead.TheVariants as file
use Rattle.dbg_traits.specs.declared.world.Put.{Put}
use Rattle.dbg_traits.specs.declared.world.Put.TheVariants as put

abbrev pub real_told : List (List ℕ) → Option NamePlace → ℕ → ℕ → ℕ → ℕ → ℕ → ℕ → Bool → Bool → Told
real_told words name file_length input_length polls file_faults poll_faults put_faults file_ended poll_ended = record {
  words = words;
  file_name = option_map (λ p. name_at words p.word p.from) name;
  file_taken = None;
  polled = None;
  written = None;
  asks = None;
  file_length = file_length;
  input_length = input_length;
  polls = polls;
  file_faults = file_faults;
  poll_faults = poll_faults;
  put_faults = put_faults;
  file_ended = file_ended;
  poll_ended = poll_ended;
}

-- some bytes were taken, and no more than there is place for
abbrev pub PollsWithin : ℕ → Polled → Type 0
PollsWithin most (poll.Took n) = (0 < n) × (n ≤ most)
PollsWithin most _ = Unit {0}

-- some bytes were put, and no more than the piece has
abbrev pub PutsWithin : ℕ → Put → Type 0
PutsWithin most (put.Took n) = (0 < n) × (n ≤ most)
PutsWithin most put.Failed = Unit {0}

abbrev pub ReadsWithin : ℕ → FileRead → Type 0
ReadsWithin most (file.Took n) = (0 < n) × (n ≤ most)
ReadsWithin most _ = Unit {0}
