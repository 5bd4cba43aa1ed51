-- The fields of what a session talks to, and what a script does with its own. This project's own.
use Rattle.std.specs.Prelude.{◌≡◌, ◌<◌, ◌≤◌, ℕ, ◌+◌, true, List, ◌++◌, length, take}
use Rattle.std.specs.Option.{option_map}
use Rattle.dbg_traits.specs.Told.{Told, raised}
use Rattle.dbg_traits.specs.Causes.{Rose}
use Rattle.dbg_traits.specs.declared.world.Polled.{Polled}
use Rattle.dbg_traits.specs.declared.world.Put.{Put}
use Rattle.dbg_traits.specs.declared.world.Polled.TheVariants as poll
use Rattle.dbg_traits.specs.declared.world.Put.TheVariants as put
use Rattle.session_parts.specs.declared.outside.Outside.TheInside.{Inside}
use Rattle.session_parts.specs.declared.outside.Script.{Script}
use Rattle.session_parts.specs.Scene.{Play, Scene, Plays}

abbrev pub play_of : Script → Play
play_of s = record { number = s.number; text = s.text.items; at = s.at; polls = s.polls; ended = s.ended; output = s.output.items; put_faults = s.put_faults }

abbrev pub scene_of : {W : Type 0} → Inside W → Scene W
scene_of o = record { world = o.world; script = option_map play_of o.script; has_log = o.has_log }

abbrev pub keeps : {W : Type 0} → (W → Told) → Inside W → Type 0
keeps told o = Plays (told o.world) (option_map play_of o.script) o.has_log

-- what a poll of a script gives: bytes from its place on; or its end, where none are left
abbrev pub PlayGives : Polled → Play → Play → List ℕ → Type 0
PlayGives (poll.Took n) old new bytes =
    (0 < n) × (n ≤ length bytes) × (old.at + n ≤ length old.text) × (take (old.at + n) old.text ≡ take old.at old.text ++ take n bytes)
    × (new ≡ record old { at = old.at + n; polls = raised old.polls 1 })
PlayGives poll.End old new bytes = (old.at ≡ length old.text) × (new ≡ record old { polls = raised old.polls 1; ended = true })
PlayGives poll.NotYet old new bytes = ⊥
PlayGives poll.Failed old new bytes = ⊥

-- a piece that is put is kept whole, unless it finds no memory
abbrev pub PlayKeeps : Put → List ℕ → Play → Play → Type 0
PlayKeeps (put.Took n) piece old new = (n ≡ length piece) × (new ≡ record old { output = old.output ++ piece })
PlayKeeps put.Failed piece old new = (faults : ℕ) × Rose old.put_faults faults × (new ≡ record old { put_faults = faults })
