-- What a session talks to: the world that was handed in, or a script over it. This project's own.
use Rattle.std.specs.Prelude.{◌≡◌, ◌≤◌, ℕ, Bool, true, false, List, [], length, take, Option, Some, None}
use Rattle.dbg_traits.specs.Settings.{AreSettings}
use Rattle.dbg_traits.specs.Told.{Told}
use Rattle.dbg_traits.specs.declared.settings.Settings.{Settings}
use Rattle.elf_gen.specs.Script.{script_text}
use Rattle.session_parts.specs.Words.{served_words}
use Rattle.session_parts.specs.Ties.{IsEmpty, IsUnpolled}
use Rattle.session_parts.specs.declared.file.Source.TheVariants.{File, Generated}

-- a script: its number and lines, how much of it was polled and how often, whether its end was told, what was put, and how many puts failed
pub record Play : Type 0 where
  pub number : ℕ
  pub text : List ℕ
  pub at : ℕ
  pub polls : ℕ
  pub ended : Bool
  pub output : List ℕ
  pub put_faults : ℕ

-- the world that was handed in, the script, if there is one, and whether a log is wanted
pub record Scene (W : Type 0) : Type 0 where
  pub world : W
  pub script : Option Play
  pub has_log : Bool

-- a script tells its own input and output, and the words and the file are those of the world
abbrev pub told_by : Option Play → Told → Told
told_by None t = t
told_by (Some p) t = record t {
  polled = Some (take p.at p.text);
  written = Some p.output;
  asks = None;
  input_length = p.at;
  polls = p.polls;
  put_faults = p.put_faults;
  poll_ended = p.ended;
}

abbrev pub told_of : {W : Type 0} → (W → Told) → Scene W → Told
told_of told o = told_by o.script (told o.world)

-- a script that wasn't polled
abbrev pub begun : ℕ → List ℕ → Play
begun number text = record { number = number; text = text; at = 0; polls = 0; ended = false; output = []; put_faults = 0 }

-- no input was asked for, and nothing was put
pub record IsUnused (t : Told) : Type 0 where
  pub unpolled : IsUnpolled t
  pub written : IsEmpty t.written
  pub faults : t.put_faults ≡ 0

-- the words ask for a session over a file, and say whether its log is wanted
pub record AskFile (words : List (List ℕ)) (has_log : Bool) : Type 0 where
  pub name : List ℕ
  pub settings : Settings
  pub served : served_words words ≡ Some (record { source = File name; settings = settings; has_log = has_log })
  pub ranges : AreSettings settings

-- the words ask for a run of what is generated from the number
pub record AskNumber (words : List (List ℕ)) (number : ℕ) : Type 0 where
  pub settings : Settings
  pub served : served_words words ≡ Some (record { source = Generated number; settings = settings; has_log = false })
  pub ranges : AreSettings settings
  pub most : number ≤ 1000000

-- the script of a run that the words ask for, over a world that is left alone; its end is told once all of it was polled
pub record IsPlayed (t : Told) (p : Play) : Type 0 where
  pub asked : AskNumber t.words p.number
  pub text : p.text ≡ script_text p.number
  pub unused : IsUnused t
  pub within : p.at ≤ length p.text
  pub all : p.ended ≡ true → p.at ≡ length p.text

-- what holds of the world that was handed in, and of the script
abbrev pub Plays : Told → Option Play → Bool → Type 0
Plays t None has_log = AskFile t.words has_log
Plays t (Some p) has_log = IsPlayed t p
