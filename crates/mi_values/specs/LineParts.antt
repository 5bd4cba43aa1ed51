-- What reading the parts of a line gives: what is spelled at the front, or that nothing is spelled there. This project's own.
use Rattle.std.specs.Prelude.{◌≡◌, ℕ, List, ◌∷◌, ◌++◌, true, Option, Some, None, Result, Ok, Err}
use Rattle.std.specs.Borrow.{Bor}
use Rattle.std.specs.Global.{Vec}
use Rattle.mi_text.specs.declared.fault.ReadFault.{ReadFault}
use Rattle.mi_text.specs.declared.fault.ReadFault.TheVariants.{NoMemory, Text}
use Rattle.mi_values.specs.declared.line.Line.{Line}
use Rattle.mi_values.specs.declared.line.Fields.{Fields as FieldList}
use Rattle.mi_values.specs.declared.sign.NoticeSign.{NoticeSign}
use Rattle.mi_values.specs.declared.sign.StreamSign.{StreamSign}
use Rattle.mi_values.specs.declared.value.Value.{Value}
use Rattle.mi_text.specs.CString.{AreBytes, c_string}
use Rattle.mi_values.specs.Name.{is_name}
use Rattle.mi_text.specs.Token.{is_token}
use Rattle.mi_values.specs.Tree.{Fields, fields_view}
use Rattle.mi_values.specs.Proper.{AreProperFields}
use Rattle.mi_values.specs.Spelling.{fields_from}
use Rattle.mi_values.specs.Record.{class_bytes, notice_byte, stream_byte}
use Rattle.mi_values.specs.Line.{line_view, Begins}

-- behind a class
abbrev pub ReadsTail : List ℕ → Result (Vec (List ℕ × Value) × Bor (List ℕ)) ReadFault → Type 0
ReadsTail bytes (Ok r) = (bytes ≡ fields_from 10 true (fields_view r.0.items) ++ r.1.now) × AreProperFields (fields_view r.0.items) 16
ReadsTail bytes (Err NoMemory) = Unit {0}
ReadsTail bytes (Err Text) = (fs : Fields) (rest : List ℕ) → AreProperFields fs 16 → bytes ≡ fields_from 10 true fs ++ rest → ⊥

-- a class stands at the front, with its fields
abbrev pub HasClass : List ℕ → List ℕ → Fields → Type 0
HasClass bytes class fields = (rest : List ℕ) × (bytes ≡ class_bytes class fields ++ rest) × (is_name class ≡ true) × AreProperFields fields 16

abbrev pub ReadsClass : List ℕ → Result (List ℕ × FieldList) ReadFault → Type 0
ReadsClass bytes (Ok r) = HasClass bytes r.0 (fields_view r.1.items.items)
ReadsClass bytes (Err NoMemory) = Unit {0}
ReadsClass bytes (Err Text) = (class : List ℕ) (fields : Fields) → HasClass bytes class fields → ⊥

-- a token and its `^`
abbrev pub ReadsToken : List ℕ → Option (List ℕ × Bor (List ℕ)) → Type 0
ReadsToken bytes (Some r) = (bytes ≡ r.0 ++ 94 ∷ r.1.now) × (is_token r.0 ≡ true)
ReadsToken bytes None = (token rest : List ℕ) → is_token token ≡ true → bytes ≡ token ++ 94 ∷ rest → ⊥

-- behind the sign of a notice
abbrev pub ReadsNotice : NoticeSign → List ℕ → Result Line ReadFault → Type 0
ReadsNotice sign bytes (Ok line) = Begins (notice_byte sign ∷ bytes) (line_view line)
ReadsNotice sign bytes (Err NoMemory) = Unit {0}
ReadsNotice sign bytes (Err Text) = (class : List ℕ) (fields : Fields) → HasClass bytes class fields → ⊥

-- behind the sign of a stream
abbrev pub ReadsStream : StreamSign → List ℕ → Result Line ReadFault → Type 0
ReadsStream sign bytes (Ok line) = Begins (stream_byte sign ∷ bytes) (line_view line)
ReadsStream sign bytes (Err NoMemory) = Unit {0}
ReadsStream sign bytes (Err Text) = (text rest : List ℕ) → AreBytes text → bytes ≡ c_string text ++ 10 ∷ rest → ⊥

abbrev pub ReadsResult : List ℕ → Result Line ReadFault → Type 0
ReadsResult bytes (Ok line) = Begins bytes (line_view line)
ReadsResult bytes (Err NoMemory) = Unit {0}
ReadsResult bytes (Err Text) = (token class : List ℕ) (fields : Fields) (rest : List ℕ) → is_token token ≡ true → HasClass rest class fields → bytes ≡ token ++ 94 ∷ rest → ⊥
