-- The fields of a line, each with the byte before it: a comma, or the bracket that they stand in. This project's own.
use Rattle.std.specs.Prelude.{◌≡◌, ℕ, Result, OnOk, List, [], ◌∷◌, ◌++◌}
use Rattle.std.specs.List.{flat_map}
use Rattle.mi_text.specs.Keeps.{Keeps}
use Rattle.mi_values.specs.declared.sign.NoticeSign.{NoticeSign}
use Rattle.mi_values.specs.Tree.{Tree}
use Rattle.mi_values.specs.Spelling.{value_bytes}
use Rattle.mi_values.specs.Record.{notice_byte}
use Rattle.mi_reports.specs.declared.words.Key.{Key}
use Rattle.mi_reports.specs.Words.{key_text}

-- these bytes came behind the old ones; out of memory, some bytes at most
abbrev pub Adds : {E : Type 0} → Result (Unit {0}) E → List ℕ → List ℕ → List ℕ → Type 0
Adds result old new more = OnOk result (new ≡ old ++ more) × Keeps old new

-- such a byte, a name and `=`
unfoldable pub head : ℕ → Key → List ℕ
head lead k = lead ∷ (key_text k ++ 61 ∷ [])

-- a field behind such a byte
unfoldable pub led : ℕ → List ℕ × Tree → List ℕ
led lead f = lead ∷ (f.0 ++ (61 ∷ value_bytes f.1))

-- fields, each behind a comma
abbrev pub behind : List (List ℕ × Tree) → List ℕ
behind = flat_map (led 44)

-- an opening bracket and the fields in it
abbrev pub opened : ℕ → List (List ℕ × Tree) → List ℕ
opened lead [] = lead ∷ []
opened lead (f ∷ fs) = led lead f ++ behind fs

-- the sign of a notice, and its class
unfoldable pub begun : NoticeSign → Key → List ℕ
begun sign class = notice_byte sign ∷ key_text class

-- a value behind such a byte, values each behind a comma, and values in their opening bracket
unfoldable pub item_led : ℕ → Tree → List ℕ
item_led lead v = lead ∷ value_bytes v

abbrev pub items_behind : List Tree → List ℕ
items_behind = flat_map (item_led 44)

abbrev pub items_opened : ℕ → List Tree → List ℕ
items_opened lead [] = lead ∷ []
items_opened lead (v ∷ vs) = item_led lead v ++ items_behind vs

-- a token, `^` and the class of an answer
unfoldable pub answered : List ℕ → Key → List ℕ
answered token class = token ++ (94 ∷ key_text class)
