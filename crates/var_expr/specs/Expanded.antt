-- A text with each name of a variable replaced by the text that stands for the variable. This project's own.
use Rattle.std.specs.Prelude.{ℕ, ◌+◌, ◌-◌, ◌^◌, ◌==◌, nat_lt, Bool, true, false, not, List, [], ◌∷◌, ◌++◌, length, take, drop, find, fold, Option, None, if◌then◌else◌}
use Rattle.std.specs.List.{filter_map, list_any}
use Rattle.std.specs.Option.{option_map, option_and_then}
use Rattle.std.specs.Str.{bytes_eq}
use Rattle.cond_expr.specs.declared.bare.BareName.{BareName}
use Rattle.cond_expr.specs.Bare.{bare_names}
use Rattle.debug_info.specs.Scope.{Variable}
use Rattle.var_expr.specs.declared.expanded.Replaced.{Replaced}
use Rattle.var_expr.specs.Stands.{stands}

-- a name in the given text, and what it is replaced by
pub record Replacement : Type 0 where
  pub at : ℕ
  pub size : ℕ
  pub text : List ℕ

-- whether a brace is open behind a byte
abbrev pub behind_brace : Bool → ℕ → Bool
behind_brace inside b = if b == 123 then true else (if b == 125 then false else inside)

abbrev pub is_open : List ℕ → Bool
is_open bytes = fold behind_brace false bytes

abbrev pub is_named : List ℕ → Variable → Bool
is_named name v = bytes_eq v.name name

-- what a name stands for: of equal names the first variable counts
abbrev pub standing : (ℕ → ℕ) → Option ℕ → List Variable → List ℕ → Option (List ℕ)
standing registers cfa vars name = option_and_then (stands registers cfa) (find (is_named name) vars)

abbrev pub with_text : BareName → List ℕ → Replacement
with_text name text = record { at = name.at; size = name.length; text = text }

-- a name between braces is none
abbrev pub replacement : (List ℕ → Option (List ℕ)) → List ℕ → BareName → Option Replacement
replacement standing text name =
    if is_open (take name.at text) then None else option_map (with_text name) (standing (take name.length (drop name.at text)))

abbrev pub replacements : (List ℕ → Option (List ℕ)) → List ℕ → List BareName → List Replacement
replacements standing text names = filter_map (replacement standing text) names

-- the text from a place on, with each of these names replaced
abbrev pub replaced_from : List ℕ → ℕ → List Replacement → List ℕ
replaced_from text from [] = drop from text
replaced_from text from (r ∷ rs) = (take (r.at - from) (drop from text) ++ r.text) ++ replaced_from text (r.at + r.size) rs

-- where the names and their replacements stand, from a place of the given text and one of the new text on
abbrev pub places_from : ℕ → ℕ → List Replacement → List Replaced
places_from from new [] = []
places_from from new (r ∷ rs) =
    record { at = r.at; length = r.size; new_at = new + (r.at - from); new_length = length r.text }
    ∷ places_from (r.at + r.size) (new + (r.at - from) + length r.text) rs

-- the places of a text's tokens are numbers of 32 bits
abbrev pub names_in : List ℕ → List BareName
names_in text = if nat_lt (length text) (2 ^ 32) then bare_names text else []

-- whether a text has a name outside of braces
abbrev pub is_outside : List ℕ → BareName → Bool
is_outside text name = not (is_open (take name.at text))

abbrev pub has_names : List ℕ → Bool
has_names text = list_any (is_outside text) (names_in text)

-- the text, and where its names stand, by what stands for a name
abbrev pub expanded_text : (List ℕ → Option (List ℕ)) → List ℕ → List ℕ
expanded_text standing text = replaced_from text 0 (replacements standing text (names_in text))

abbrev pub places : (List ℕ → Option (List ℕ)) → List ℕ → List Replaced
places standing text = places_from 0 0 (replacements standing text (names_in text))
