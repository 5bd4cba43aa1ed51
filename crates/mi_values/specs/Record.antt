-- The output lines (GDB manual, "GDB/MI Output Syntax"): which bytes are the line of which tree.
use Rattle.std.specs.Prelude.{◌≡◌, ℕ, List, [], ◌∷◌, ◌++◌, true}
use Rattle.mi_values.specs.declared.sign.NoticeSign.{NoticeSign}
use Rattle.mi_values.specs.declared.sign.NoticeSign.TheVariants.{Exec, Notify}
use Rattle.mi_values.specs.declared.sign.StreamSign.{StreamSign}
use Rattle.mi_values.specs.declared.sign.StreamSign.TheVariants.{Target, Log}
use Rattle.mi_text.specs.CString.{AreBytes, c_string}
use Rattle.mi_values.specs.Name.{is_name}
use Rattle.mi_text.specs.Token.{is_token}
use Rattle.mi_values.specs.Tree.{Fields}
use Rattle.mi_values.specs.Proper.{AreProperFields}
use Rattle.mi_values.specs.Spelling.{fields_from}

-- a line without where it lies in memory
pub data LineTree : Type 0 where
  result : List ℕ → List ℕ → Fields → LineTree
  notice : NoticeSign → List ℕ → Fields → LineTree
  stream : StreamSign → List ℕ → LineTree
  prompt : LineTree

-- `*` and `=`
abbrev pub notice_byte : NoticeSign → ℕ
notice_byte Exec = 42
notice_byte Notify = 61

-- `@` and `&`
abbrev pub stream_byte : StreamSign → ℕ
stream_byte Target = 64
stream_byte Log = 38

-- the class, the fields, each behind a comma, and LF
abbrev pub class_bytes : List ℕ → Fields → List ℕ
class_bytes class fields = class ++ fields_from 10 true fields

-- `(gdb)` and LF
abbrev pub prompt_text : List ℕ
prompt_text = 40 ∷ 103 ∷ 100 ∷ 98 ∷ 41 ∷ 10 ∷ []

-- the one text of a line
unfoldable pub line_bytes : LineTree → List ℕ
line_bytes (result token class fields) = token ++ (94 ∷ class_bytes class fields)
line_bytes (notice sign class fields) = notice_byte sign ∷ class_bytes class fields
line_bytes (stream sign text) = stream_byte sign ∷ (c_string text ++ 10 ∷ [])
line_bytes prompt = prompt_text

-- what a line is made of: a token of at most 18 digits, a class, values that nest at most 16 deep, bytes
abbrev pub IsLine : LineTree → Type 0
IsLine (result token class fields) = (is_token token ≡ true) × (is_name class ≡ true) × AreProperFields fields 16
IsLine (notice sign class fields) = (is_name class ≡ true) × AreProperFields fields 16
IsLine (stream sign text) = AreBytes text
IsLine prompt = Unit {0}

-- these bytes are the line of this tree
pub record Record (bytes : List ℕ) (tree : LineTree) : Type 0 where
  pub line : IsLine tree
  pub text : bytes ≡ line_bytes tree
