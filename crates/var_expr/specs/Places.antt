-- Which place of the given text one of the new text counts as. This project's own.
use Rattle.std.specs.Prelude.{ℕ, ◌+◌, ◌-◌, nat_le, nat_lt, min, List, find, reverse, Option, None, Some, if◌then◌else◌}
use Rattle.var_expr.specs.declared.expanded.Expanded.{Expanded}
use Rattle.var_expr.specs.declared.expanded.Replaced.{Replaced}

abbrev pub text_of : Expanded → List ℕ
text_of e = e.text.items

abbrev pub names_of : Expanded → List Replaced
names_of e = e.names.items

abbrev pub length_of : Expanded → ℕ
length_of e = e.given_length

-- inside a replacement its name's first byte; behind it the place moved back, at most the given text's end
abbrev pub place_behind : ℕ → Replaced → ℕ → ℕ
place_behind given_length r at =
    min (if nat_lt (at - r.new_at) r.new_length then r.at else r.at + r.length + (at - r.new_at - r.new_length)) given_length

-- the last of the names whose replacement begins at a place or before it
abbrev pub last_begun : ℕ → List Replaced → Option Replaced
last_begun at names = find (λ r. nat_le r.new_at at) (reverse names)

abbrev pub place_by : ℕ → Option Replaced → ℕ → ℕ
place_by given_length None at = at
place_by given_length (Some r) at = place_behind given_length r at

abbrev pub place_of : ℕ → List Replaced → ℕ → ℕ
place_of given_length names at = place_by given_length (last_begun at names) at
