-- What look-ups in line tables answer. The rows are those of DWARF 5, section 6.2; which of them a look-up takes is this
-- program's own rule.
use Rattle.std.specs.Prelude.{ℕ, ◌+◌, ◌==◌, nat_le, nat_lt, ◌&&◌, ◌||◌, not, Bool, false, List, [], ◌∷◌, Option, None, Some, map, filter, find, flat_map, min, reverse, slice_get, unwrap_or, option_and_then, if◌then◌else◌}
use Rattle.std.specs.List.{list_any}
use Rattle.std.specs.Option.{option_map, option_map_or}
use Rattle.std.specs.Str.{bytes_eq}
use Rattle.elf32_read.specs.Program.{Program}
use Rattle.elf32_read.specs.Spans as spans
use Rattle.elf32_read.specs.TextSpans.{text_spans}
use Rattle.elf32_read.specs.declared.spans.Span.{Span}
use Rattle.elf_symbols.specs.Names.{Names, Symbol, foremost}
use Rattle.line_rows.specs.RowList.{RowList, Sequence}
use Rattle.line_rows.specs.declared.row.Row.{Row}

-- line tables, and where the functions and the text of their program stand
pub record Lines : Type 0 where
  pub rows : RowList
  -- the addresses of the functions in text
  pub functions : List ℕ
  -- the ranges of the text sections, in the order of their addresses
  pub text : List Span

abbrev pub lines_of : RowList → Names → Program → Lines
lines_of rows names p = record { rows = rows; functions = map (λ s. s.address) names.functions; text = text_spans p }

-- the end of the text section that an address is in
abbrev pub section_end : List Span → ℕ → Option ℕ
section_end text addr = option_map (λ s. s.start + s.size) (find (spans.covers addr) text)

-- whether the first row of a sequence is in text
abbrev pub begins_in : List Span → Sequence → Bool
begins_in text s = option_map_or (λ r. list_any (spans.covers r.address) text) (slice_get s.rows 0) false

-- the sequences that count
abbrev pub kept : List Span → List Sequence → List Sequence
kept text sequences = filter (begins_in text) sequences

-- the rows that count
abbrev pub rows_of : Lines → List Row
rows_of lines = flat_map (λ s. s.rows) (kept lines.text lines.rows.sequences)

-- whether the sequence begins at an address or before it, and ends above it
abbrev pub covers : ℕ → Sequence → Bool
covers pc s = option_map_or (λ r. nat_le r.address pc) (slice_get s.rows 0) false && nat_lt pc s.end

-- the greater address, and of equal ones a statement
abbrev pub is_ahead : Row → Row → Bool
is_ahead row other = nat_lt other.address row.address || ((row.address == other.address) && (row.is_stmt && not other.is_stmt))

-- the row that an address belongs to: of those that don't begin above it the last one that no other is ahead of
abbrev pub row_in : ℕ → List Row → Option Row
row_in pc rows = foremost is_ahead (reverse (filter (λ r. nat_le r.address pc) rows))

-- the row of an address, in the first of the sequences that has it
abbrev pub row_among : ℕ → List Sequence → Option Row
row_among pc sequences = option_and_then (λ s. row_in pc s.rows) (find (covers pc) sequences)

abbrev pub row_at : Lines → ℕ → Option Row
row_at lines pc = row_among pc (kept lines.text lines.rows.sequences)

-- whether a statement begins at an address with this row
abbrev pub begins : ℕ → Row → Option Row
begins pc r = if (r.address == pc) && r.is_stmt then Some r else None

-- the row of a statement that begins at an address
abbrev pub starts : Lines → ℕ → Option Row
starts lines pc = option_and_then (begins pc) (row_at lines pc)

-- whether a row is of another file or line
abbrev pub is_another : ℕ → ℕ → Row → Bool
is_another file line r = not ((r.file == file) && (r.line == line))

-- whether another line begins at an address
abbrev pub begins_another : ℕ → ℕ → Lines → ℕ → Bool
begins_another file line lines pc = option_map_or (is_another file line) (starts lines pc) false

-- a file name by its number
abbrev pub file_name : List (List ℕ) → ℕ → List ℕ
file_name names file = unwrap_or (slice_get names file) []

abbrev pub is_slash : ℕ → Bool
is_slash b = b == 47

-- the part after the last `/`
abbrev pub last_part : List ℕ → List ℕ
last_part [] = []
last_part (b ∷ bs) = if is_slash b || list_any is_slash bs then last_part bs else b ∷ bs

-- whether a file is told by its name or by the last part of it
abbrev pub is_called : List ℕ → List ℕ → Bool
is_called file name = bytes_eq name file || bytes_eq (last_part name) file

-- a statement of a file that isn't below a line
abbrev pub is_candidate : List (List ℕ) → List ℕ → ℕ → Row → Bool
is_candidate names file line r = (r.is_stmt && nat_le line r.line) && is_called file (file_name names r.file)

-- the lesser line, and of equal ones the lesser address
abbrev pub is_sooner : Row → Row → Bool
is_sooner row other = nat_lt row.line other.line || ((row.line == other.line) && nat_lt row.address other.address)

-- where the least line of a file that isn't below another has its least address
abbrev pub address_of : Lines → List ℕ → ℕ → Option ℕ
address_of lines file line = option_map (λ r. r.address) (foremost is_sooner (filter (is_candidate lines.rows.names file line) (rows_of lines)))

-- the least of some numbers from one on
abbrev pub least_from : ℕ → List ℕ → Option ℕ
least_from start ns = foremost nat_lt (filter (nat_le start) ns)

-- where a function ends; one without a size at the next function or at the end of its text section
abbrev pub function_end : Symbol → ℕ → Option ℕ → ℕ
function_end f text_end next = if f.size == 0 then option_map_or (min text_end) next text_end else f.address + f.size

-- the addresses of the rows that pass a test
abbrev pub addresses : (Row → Bool) → List Row → List ℕ
addresses test rows = map (λ r. r.address) (filter test rows)

-- a number, if it is below an end
abbrev pub below : ℕ → Option ℕ → Option ℕ
below end o = option_and_then (λ n. if nat_lt n end then Some n else None) o

-- where a breakpoint on the body of a range stands: at the first address that ends a prologue, or at the first statement
-- above the start, or at the start
abbrev pub body_among : List ℕ → List ℕ → ℕ → ℕ → ℕ
body_among prologues statements start end =
    unwrap_or (below end (least_from start prologues)) (unwrap_or (below end (least_from (start + 1) statements)) start)

abbrev pub body_in : List Row → ℕ → ℕ → ℕ
body_in rows start end = body_among (addresses (λ r. r.prologue_end) rows) (addresses (λ r. r.is_stmt) rows) start end

-- where a breakpoint on a function stands; at its start where that isn't in text
abbrev pub body_of : Lines → Symbol → ℕ
body_of lines f =
    option_map_or (λ text_end. body_in (rows_of lines) f.address (function_end f text_end (least_from (f.address + 1) lines.functions))) (section_end lines.text f.address) f.address
