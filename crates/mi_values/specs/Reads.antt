-- What reading gives: what is spelled at the front and the rest, or that nothing is spelled there. This project's own.
use Rattle.std.specs.Prelude.{◌≡◌, ℕ, List, [], ◌∷◌, ◌++◌, Bool, true, false, ◌||◌, ◌==◌, Result, Ok, Err}
use Rattle.std.specs.Borrow.{Bor}
use Rattle.std.specs.Global.{Vec}
use Rattle.mi_text.specs.declared.fault.ReadFault.{ReadFault}
use Rattle.mi_text.specs.declared.fault.ReadFault.TheVariants.{NoMemory, Text}
use Rattle.mi_values.specs.Name.{is_name, is_name_byte}
use Rattle.mi_values.specs.declared.value.Value.{Value}
use Rattle.mi_values.specs.Tree.{Tree, Trees, Fields, value_view, items_view, fields_view}
use Rattle.mi_values.specs.Spelling.{value_bytes, items_from, fields_from}
use Rattle.mi_values.specs.Proper.{IsProper, AreProperItems, AreProperFields}

-- what closes fields: a bracket, or the LF of a line
abbrev pub is_close : ℕ → Bool
is_close b = b == 125 || (b == 93 || b == 10)

-- what may stand behind the bracket of a list of values
abbrev pub begins_item : List ℕ → Bool
begins_item [] = false
begins_item (b ∷ rest) = b == 93 || (b == 34 || (b == 123 || b == 91))

-- no name goes on there
abbrev pub StopsName : List ℕ → Type 0
StopsName bytes = (b : ℕ) (rest : List ℕ) → bytes ≡ b ∷ rest → is_name_byte b ≡ false

-- the longest name
abbrev pub ReadsWord : List ℕ → Result (List ℕ × Bor (List ℕ)) ReadFault → Type 0
ReadsWord bytes (Ok r) = (bytes ≡ r.0 ++ r.1.now) × (is_name r.0 ≡ true) × StopsName r.1.now
ReadsWord bytes (Err NoMemory) = Unit {0}
ReadsWord bytes (Err Text) = StopsName bytes

-- a name and its `=`
abbrev pub ReadsName : List ℕ → Result (List ℕ × Bor (List ℕ)) ReadFault → Type 0
ReadsName bytes (Ok r) = (bytes ≡ r.0 ++ 61 ∷ r.1.now) × (is_name r.0 ≡ true)
ReadsName bytes (Err NoMemory) = Unit {0}
ReadsName bytes (Err Text) = (n rest : List ℕ) → is_name n ≡ true → bytes ≡ n ++ 61 ∷ rest → ⊥

abbrev pub ReadsValue : List ℕ → ℕ → Result (Value × Bor (List ℕ)) ReadFault → Type 0
ReadsValue bytes depth (Ok r) = (bytes ≡ value_bytes (value_view r.0) ++ r.1.now) × IsProper (value_view r.0) depth
ReadsValue bytes depth (Err NoMemory) = Unit {0}
ReadsValue bytes depth (Err Text) = (v : Tree) (rest : List ℕ) → IsProper v depth → bytes ≡ value_bytes v ++ rest → ⊥

abbrev pub ReadsField : List ℕ → ℕ → Result ((List ℕ × Value) × Bor (List ℕ)) ReadFault → Type 0
ReadsField bytes depth (Ok r) = (bytes ≡ r.0.0 ++ (61 ∷ (value_bytes (value_view r.0.1) ++ r.1.now))) × (is_name r.0.0 ≡ true) × IsProper (value_view r.0.1) depth
ReadsField bytes depth (Err NoMemory) = Unit {0}
ReadsField bytes depth (Err Text) = (n : List ℕ) (v : Tree) (rest : List ℕ) → is_name n ≡ true → IsProper v depth → bytes ≡ n ++ (61 ∷ (value_bytes v ++ rest)) → ⊥

-- behind the opening bracket
abbrev pub ReadsItems : List ℕ → ℕ → Result (Vec Value × Bor (List ℕ)) ReadFault → Type 0
ReadsItems bytes depth (Ok r) = (bytes ≡ items_from false (items_view r.0.items) ++ r.1.now) × AreProperItems (items_view r.0.items) depth
ReadsItems bytes depth (Err NoMemory) = Unit {0}
ReadsItems bytes depth (Err Text) = (vs : Trees) (rest : List ℕ) → AreProperItems vs depth → bytes ≡ items_from false vs ++ rest → ⊥

abbrev pub ReadsFields : ℕ → List ℕ → ℕ → Result (Vec (List ℕ × Value) × Bor (List ℕ)) ReadFault → Type 0
ReadsFields close bytes depth (Ok r) = (bytes ≡ fields_from close false (fields_view r.0.items) ++ r.1.now) × AreProperFields (fields_view r.0.items) depth
ReadsFields close bytes depth (Err NoMemory) = Unit {0}
ReadsFields close bytes depth (Err Text) = (fs : Fields) (rest : List ℕ) → AreProperFields fs depth → bytes ≡ fields_from close false fs ++ rest → ⊥
