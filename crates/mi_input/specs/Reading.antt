-- The parts of a line as a function of it, where the grammar leaves open which case fits: this project's own.
use Rattle.std.specs.Prelude.{◌≡◌, ℕ, zero, suc, List, [], ◌∷◌, length, drop, take_while, true, false, Option, Some, None, option_and_then, ◌==◌, ◌&&◌, if◌then◌else◌, Result, Ok, Err}
use Rattle.std.specs.Option.{option_map}
use Rattle.mi_input.specs.declared.parts.Parts.{Parts}
use Rattle.mi_input.specs.declared.parts.InputFault.{InputFault}
use Rattle.mi_input.specs.declared.parts.InputFault.TheVariants.{NoMemory, Long, Syntax, Cli}
use Rattle.mi_input.specs.Parts.{PartsView, WordView, begins, is_word_byte, is_parted, after_blanks, token_of, behind_token, is_operation, is_operation_byte}
use Rattle.mi_input.specs.Split.{parts_view}
use Rattle.mi_text.specs.Escape.{symbol_at}

-- a text, and what stands behind it
abbrev pub TextRead : Type 0
TextRead = Option (List ℕ × List ℕ)

abbrev pub longer : ℕ → List ℕ × List ℕ → List ℕ × List ℕ
longer b t = (b ∷ t.0, t.1)

-- behind the opening `"`, in fewer than n bytes
abbrev pub text_read : ℕ → List ℕ → TextRead
text_read zero bytes = None
text_read (suc n) bytes =
    if begins 34 bytes then Some ([], drop 1 bytes) else option_and_then (λ s. option_map (longer s.0) (text_read n s.1)) (symbol_at bytes)

abbrev pub WordRead : Type 0
WordRead = Option (WordView × List ℕ)

-- a blank or the end stands behind a C string
abbrev pub parted_read : List ℕ × List ℕ → WordRead
parted_read t = if is_parted t.1 then Some ((t.0, true), t.1) else None

abbrev pub plain_run : List ℕ → List ℕ
plain_run bytes = take_while is_word_byte bytes

-- the word at the front
abbrev pub word_read : List ℕ → WordRead
word_read bytes = if begins 34 bytes then option_and_then parted_read (text_read (length bytes) (drop 1 bytes)) else Some ((plain_run bytes, false), drop (length (plain_run bytes)) bytes)

-- the words of fewer than n bytes
abbrev pub words_read : ℕ → List ℕ → Option (List WordView)
words_read zero bytes = None
words_read (suc n) bytes =
    if length (after_blanks bytes) == 0 then Some [] else option_and_then (λ w. option_map (λ ws. w.0 ∷ ws) (words_read n w.1)) (word_read (after_blanks bytes))

abbrev pub with_words : List ℕ → List ℕ → List WordView → PartsView
with_words token operation words = record { token = token; operation = Some operation; words = words }

abbrev pub operation_run : List ℕ → List ℕ
operation_run bytes = take_while is_operation_byte bytes

abbrev pub behind_operation : List ℕ → List ℕ
behind_operation bytes = drop (length (operation_run bytes)) bytes

-- an operation, and what stands behind it
abbrev pub operation_parts : List ℕ → List ℕ → List ℕ → Option PartsView
operation_parts token operation rest =
    if is_operation operation && is_parted rest then option_map (with_words token operation) (words_read (suc (length rest)) rest) else None

-- behind the `-`
abbrev pub operation_read : List ℕ → List ℕ → Option PartsView
operation_read token bytes = operation_parts token (operation_run bytes) (behind_operation bytes)

abbrev pub command_read : List ℕ → Option PartsView
command_read start = if begins 45 (behind_token start) then operation_read (token_of start) (drop 1 (behind_token start)) else None

abbrev pub blank_parts : PartsView
blank_parts = record { token = []; operation = None; words = [] }

-- the parts of a line, where it has any
unfoldable pub parts_read : List ℕ → Option PartsView
parts_read line = if length (after_blanks line) == 0 then Some blank_parts else command_read (after_blanks line)

-- what splitting a line gives, by this function
abbrev pub Reads : List ℕ → Result Parts InputFault → Type 0
Reads line (Ok p) = parts_read line ≡ Some (parts_view p)
Reads line (Err NoMemory) = Unit {0}
Reads line (Err Long) = Unit {0}
Reads line (Err Syntax) = parts_read line ≡ None
Reads line (Err (Cli token)) = parts_read line ≡ None
