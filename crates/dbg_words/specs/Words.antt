-- What the words of the command line ask for.
use Rattle.std.specs.Prelude.{◌≤◌, ℕ, Bool, List, Option, Some, None, codes, option_map, option_and_then, is_some, if◌then◌else◌, find, ◌||◌}
use Rattle.std.specs.Str.{bytes_eq}
use Rattle.dbg_traits.specs.Settings.{AreSettings}
use Rattle.dbg_traits.specs.declared.settings.Settings.{Settings}
use Rattle.dbg_words.specs.Uses.{Text, Use, file, log, is_given, option_names, uses_of}
use Rattle.dbg_words.specs.Number.{number_in, setting_in}

-- a session over FILE, and whether its log is wanted; a session over what is generated from a number; or the check of a log for FILE
pub data Asked : Type 0 where
  session : Text → Settings → Bool → Asked
  generated : ℕ → Settings → Asked
  checked : Text → Asked

-- what each option and FILE were given
pub record Texts : Type 0 where
  pub harts : Option Text
  pub workers : Option Text
  pub slots : Option Text
  pub budget : Option Text
  pub slice : Option Text
  pub gen : Option Text
  pub check : Option Text
  pub file_is : Option Text
  pub has_log : Bool

abbrev pub value_in : Text → List Use → Option Text
value_in name us = option_map (λ u. u.1) (find (λ u. bytes_eq u.0 name) us)

abbrev pub texts_of : List Use → Texts
texts_of us = record {
  harts = value_in (codes "harts") us;
  workers = value_in (codes "workers") us;
  slots = value_in (codes "slots") us;
  budget = value_in (codes "budget") us;
  slice = value_in (codes "slice") us;
  gen = value_in (codes "gen") us;
  check = value_in (codes "check") us;
  file_is = value_in file us;
  has_log = is_given log us;
}

-- the settings with these numbers of harts and workers; an option that is left out has its default
abbrev pub settings_of : Texts → ℕ → ℕ → Option Settings
settings_of t harts workers =
    option_and_then (λ slots.
    option_and_then (λ budget.
    option_map (λ slice. record { harts = harts; workers = workers; slots = slots; budget = budget; slice = slice })
    (setting_in 0 1024 256 t.slice)) (setting_in 1 1000000000000 100000000 t.budget)) (setting_in 0 512 16 t.slots)

abbrev pub session_of : Texts → Text → Option Asked
session_of t name =
    option_and_then (λ harts.
    option_and_then (λ workers. option_map (λ s. session name s t.has_log) (settings_of t harts workers))
    (setting_in 0 16 2 t.workers)) (setting_in 1 16 1 t.harts)

-- a generated session has two harts and no worker, and no log
abbrev pub generated_of : Texts → Text → Option Asked
generated_of t number =
    if is_some t.harts || is_some t.workers || t.has_log then None
    else option_and_then (λ n. option_map (generated n) (settings_of t 2 0)) (number_in 1 1000000 number)

-- a check goes with no other option
abbrev pub checked_of : Texts → Text → Option Asked
checked_of t name =
    if is_some t.harts || is_some t.workers || is_some t.slots || is_some t.budget || is_some t.slice || t.has_log then None
    else Some (checked name)

-- exactly one of FILE, `--gen` and `--check` is there
abbrev pub one_of : Texts → Option Text → Option Text → Option Text → Option Asked
one_of t (Some name) None None = session_of t name
one_of t None (Some number) None = generated_of t number
one_of t None None (Some name) = checked_of t name
one_of t _ _ _ = None

abbrev pub asked_of : Texts → Option Asked
asked_of t = one_of t t.file_is t.gen t.check

-- what the words ask for, or none where they are refused
unfoldable pub Words : List Text → Option Asked
Words words = option_and_then (λ us. asked_of (texts_of us)) (uses_of option_names words)

-- ---- what holds of all that words ask for

-- each number is in its range
abbrev pub HasRanges : Asked → Type 0
HasRanges (session name s has_log) = AreSettings s
HasRanges (generated n s) = (1 ≤ n) × (n ≤ 1000000) × AreSettings s
HasRanges (checked name) = Unit {0}

abbrev pub name_of : Asked → Option Text
name_of (session name s has_log) = Some name
name_of (generated n s) = None
name_of (checked name) = Some name
