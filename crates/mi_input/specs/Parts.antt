-- The parts of an input line (GDB manual, "GDB/MI Input Syntax").
use Rattle.std.specs.Prelude.{◌≡◌, ℕ, List, [], ◌∷◌, ◌++◌, length, take, drop, take_while, min, Bool, true, false, not, Option, Some, None, ◌==◌, ◌&&◌, ◌||◌}
use Rattle.std.specs.List.{list_all}
use Rattle.mi_text.specs.Digits.{is_digit, is_lower_case}
use Rattle.mi_text.specs.Escape.{IsText}

-- space and tab
abbrev pub is_blank : ℕ → Bool
is_blank b = b == 32 || b == 9

abbrev pub after_blanks : List ℕ → List ℕ
after_blanks bytes = drop (length (take_while is_blank bytes)) bytes

-- whether this byte stands first
abbrev pub begins : ℕ → List ℕ → Bool
begins b [] = false
begins b (c ∷ cs) = c == b

-- the end of the line, or a blank
abbrev pub is_parted : List ℕ → Bool
is_parted [] = true
is_parted (b ∷ bs) = is_blank b

-- the digits at the front, at most 18
abbrev pub token_length : List ℕ → ℕ
token_length bytes = min (length (take_while is_digit bytes)) 18

abbrev pub token_of : List ℕ → List ℕ
token_of bytes = take (token_length bytes) bytes

abbrev pub behind_token : List ℕ → List ℕ
behind_token bytes = drop (token_length bytes) bytes

-- a lower-case letter, a digit or `-`
abbrev pub is_operation_byte : ℕ → Bool
is_operation_byte b = is_lower_case b || (is_digit b || (b == 45))

abbrev pub is_operation : List ℕ → Bool
is_operation [] = false
is_operation (b ∷ bs) = list_all is_operation_byte (b ∷ bs)

-- ---- words

abbrev pub is_word_byte : ℕ → Bool
is_word_byte b = not (is_blank b)

-- no blanks, and no `"` first
abbrev pub is_plain : List ℕ → Bool
is_plain [] = false
is_plain (b ∷ bs) = not (b == 34) && list_all is_word_byte (b ∷ bs)

-- a word's bytes, and whether it is a C string
abbrev pub WordView : Type 0
WordView = List ℕ × Bool

abbrev pub IsWordOf : Bool → List ℕ → List ℕ → List ℕ → Type 0
IsWordOf true bytes text rest = (inner : List ℕ) × (bytes ≡ 34 ∷ inner) × IsText inner text rest
IsWordOf false bytes text rest = (bytes ≡ text ++ rest) × (is_plain text ≡ true)

-- the word stands at the front; a blank or the end follows it
abbrev pub IsWord : List ℕ → WordView → List ℕ → Type 0
IsWord bytes w rest = IsWordOf w.1 bytes w.0 rest × (is_parted rest ≡ true)

-- the words, with blanks before and behind them
abbrev pub IsWords : List ℕ → List WordView → Type 0
IsWords bytes [] = after_blanks bytes ≡ []
IsWords bytes (w ∷ ws) = (rest : List ℕ) × IsWord (after_blanks bytes) w rest × IsWords rest ws

-- ---- lines

pub record PartsView : Type 0 where
  pub token : List ℕ
  pub operation : Option (List ℕ)
  pub words : List WordView

-- a command behind the blanks: a token, `-`, an operation and words
pub record IsCommand (start token operation : List ℕ) (words : List WordView) : Type 0 where
  pub token_is : token ≡ token_of start
  pub rest : List ℕ
  pub behind : behind_token start ≡ 45 ∷ (operation ++ rest)
  pub named : is_operation operation ≡ true
  pub parted : is_parted rest ≡ true
  pub words_are : IsWords rest words

-- a line of blanks
pub record IsBlankLine (bytes token : List ℕ) (words : List WordView) : Type 0 where
  pub blank : after_blanks bytes ≡ []
  pub no_token : token ≡ []
  pub no_words : words ≡ []

abbrev pub HasOperation : List ℕ → List ℕ → Option (List ℕ) → List WordView → Type 0
HasOperation bytes token None words = IsBlankLine bytes token words
HasOperation bytes token (Some operation) words = IsCommand (after_blanks bytes) token operation words

-- the bytes are a line of these parts
abbrev pub HasParts : List ℕ → PartsView → Type 0
HasParts bytes p = HasOperation bytes p.token p.operation p.words

-- something stands there, no `"` first, and no `-` behind the token
abbrev pub is_cli : List ℕ → Bool
is_cli [] = false
is_cli (b ∷ bs) = not (b == 34) && not (begins 45 (behind_token (b ∷ bs)))
