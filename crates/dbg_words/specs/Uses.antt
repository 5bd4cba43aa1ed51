-- How the words of the command line are read, without a parser. It is the form of POSIX.1-2017, Base Definitions, section 12.2,
-- guidelines 7, 10 and 13, with the long options of the GNU C Library manual, section "Program Argument Syntax Conventions".
use Rattle.std.specs.Prelude.{ℕ, Bool, true, not, ◌&&◌, ◌==◌, List, [], ◌∷◌, ◌++◌, map, Option, Some, None, option_map, option_and_then, if◌then◌else◌, codes}
use Rattle.std.specs.List.{list_any, before_first, after_first}
use Rattle.std.specs.Str.{bytes_eq}

abbrev pub Text : Type 0
Text = List ℕ

-- an option's name with its value, or FILE with a file's name; a flag has the value `true`
abbrev pub Use : Type 0
Use = Text × Text

abbrev pub file : Text
file = codes "FILE"

-- the one option that has no value
abbrev pub log : Text
log = codes "log"

abbrev pub set : Text
set = codes "true"

-- the options that have a value
unfoldable pub option_names : List Text
option_names = codes "harts" ∷ codes "workers" ∷ codes "slots" ∷ codes "budget" ∷ codes "slice" ∷ codes "gen" ∷ codes "check" ∷ []

-- what a word is by itself: `--`, `--name` of an option that has a value, `--log`, `--name=value`, any other word that begins
-- with a hyphen and is longer than one byte, or any other word
pub data Word : Type 0 where
  ends : Word
  takes : Text → Word
  flag : Word
  has : Text → Text → Word
  unknown : Word
  plain : Word

abbrev pub is_name : List Text → Text → Bool
is_name names t = list_any (λ n. bytes_eq n t) names

-- what stands after the two hyphens: a name, and a value where there is a `=` (61)
abbrev pub named : List Text → Text → Option Text → Word
named names name None = if is_name names name then takes name else (if bytes_eq log name then flag else unknown)
named names name (Some value) = if is_name names name then has name value else unknown

abbrev pub after_hyphens : List Text → Text → Word
after_hyphens names [] = ends
after_hyphens names (z ∷ zs) = named names (before_first (λ x. x == 61) (z ∷ zs))
    (if list_any (λ x. x == 61) (z ∷ zs) then Some (after_first (λ x. x == 61) (z ∷ zs)) else None)

-- 45 is the hyphen
abbrev pub after_hyphen : List Text → Text → Word
after_hyphen names [] = plain
after_hyphen names (y ∷ ys) = if y == 45 then after_hyphens names ys else unknown

abbrev pub word_of : List Text → Text → Word
word_of names [] = plain
word_of names (x ∷ xs) = if x == 45 then after_hyphen names xs else plain

abbrev pub after : Use → Option (List Use) → Option (List Use)
after u = option_map (λ us. u ∷ us)

-- a word where no option waits for its value; after `--` each word is a file's name
abbrev pub with_word : Word → Text → List Text → Option (List Use) → (Text → Option (List Use)) → Option (List Use)
with_word ends w ws next wait = Some (map (λ f. (file, f)) ws)
with_word (takes name) w ws next wait = wait name
with_word flag w ws next wait = after (log, set) next
with_word (has name value) w ws next wait = after (name, value) next
with_word unknown w ws next wait = None
with_word plain w ws next wait = after (file, w) next

-- the value of an option, in a word of its own
abbrev pub with_value : Word → Use → Option (List Use) → Option (List Use)
with_value plain u next = after u next
with_value _ u next = None

-- the uses of the options and of FILE, in their order; none where a word is refused or a value is missing
unfoldable pub read : List Text → Option Text → List Text → Option (List Use)
read names None [] = Some []
read names (Some name) [] = None
read names None (w ∷ ws) = with_word (word_of names w) w ws (read names None ws) (λ name. read names (Some name) ws)
read names (Some name) (w ∷ ws) = with_value (word_of names w) (name, w) (read names None ws)

abbrev pub is_given : Text → List Use → Bool
is_given name us = list_any (λ u. bytes_eq u.0 name) us

-- no name stands twice: none is among those before it
abbrev pub are_new : List Use → List Use → Bool
are_new before [] = true
are_new before (u ∷ us) = not (is_given u.0 before) && are_new (before ++ u ∷ []) us

-- each option and FILE at most once, or none where the words are refused
abbrev pub uses_of : List Text → List Text → Option (List Use)
uses_of names words = option_and_then (λ us. if are_new [] us then Some us else None) (read names None words)
