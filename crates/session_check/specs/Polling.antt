-- The whole input, polled.
use Rattle.std.specs.Prelude.{◌≡◌, ◌⊎◌, ◌<◌, ◌≤◌, ◌+◌, ℕ, Bool, true, false, List, [], length, Option, None, Some, IfSome}
use Rattle.dbg_traits.specs.Told.{Told, Ask, more}
use Rattle.dbg_traits.specs.Causes.{Rose}
use Rattle.session_check.specs.declared.input.InputError.{InputError}
use Rattle.session_check.specs.declared.input.InputError.TheVariants as error
use Rattle.session_check.specs.Findings.{most_input}

-- no input was asked for
pub record IsUntouched (t : Told) : Type 0 where
  pub polled : (t.polled ≡ None) ⊎ (t.polled ≡ Some [])
  pub length : t.input_length ≡ 0
  pub faults : t.poll_faults ≡ 0
  pub ended : t.poll_ended ≡ false

-- polls took these bytes; how many polls there were and what was asked is left open
pub record Polls (input : List ℕ) (ended : Bool) (faults : ℕ) (t u : Told) : Type 0 where
  pub polls : ℕ
  pub asks : Option (List Ask)
  pub told : u ≡ record t { polled = more t.polled input; input_length = length input; polls = polls; asks = asks; poll_ended = ended; poll_faults = faults }

-- all of the input was polled, or more than the most, by one piece at most
abbrev pub PollsAll : List ℕ → Told → Told → Type 0
PollsAll input t u = (ended : Bool) × Polls input ended 0 t u × (((ended ≡ true) × (length input ≤ most_input)) ⊎ ((most_input < length input) × (length input ≤ most_input + 4096)))

-- a poll failed, or memory ran out
abbrev pub PollsSome : InputError → Told → Told → Type 0
PollsSome error.Failed t u = (input : List ℕ) × (faults : ℕ) × (0 < faults) × Polls input false faults t u
PollsSome error.NoMemory t u = (input : List ℕ) × Polls input false 0 t u
