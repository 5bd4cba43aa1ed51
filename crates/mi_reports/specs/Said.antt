-- What a session says: the opening lines, and then the lines of each entry. This project's own.
use Rattle.std.specs.Prelude.{ℕ, zero, suc, List, [], ◌∷◌, ◌++◌, Option, Some, None, unwrap_or}
use Rattle.std.specs.Option.{option_map}
use Rattle.dbg_model.specs.declared.entry.Entry.{Entry}
use Rattle.dbg_model.specs.declared.entry.Entry.TheVariants.{Ran}
use Rattle.dbg_model.specs.declared.opening.Opening.{Opening}
use Rattle.dbg_model.specs.State.{State}
use Rattle.dbg_model.specs.Lawful.{ran}
use Rattle.dbg_model.specs.Journals.{Place, come, first_place}
use Rattle.dbg_model.specs.Shown.{shown_of}
use Rattle.mi_values.specs.Record.{LineTree}
use Rattle.mi_values.specs.Records.{lines_bytes}
use Rattle.mi_reports.specs.Text.{opening_lines}
use Rattle.mi_reports.specs.Lines.{lines_of}

abbrev pub wrote_lines : Opening → ℕ → Option State → List LineTree
wrote_lines o h None = []
wrote_lines o h (Some s) = lines_of (Ran h 1) (shown_of o s (Ran h 1))

-- a line for each instruction that wrote at least one byte
abbrev pub ran_lines : Opening → ℕ → State → ℕ → List LineTree
ran_lines o h s zero = []
ran_lines o h s (suc n) = ran_lines o h s n ++ wrote_lines o h (ran o h s n)

-- the lines of an entry that comes in a state: of a `Ran` those of its instructions, of any other those of what it shows
abbrev pub entry_lines : Opening → State → Entry → List LineTree
entry_lines o s (Ran h n) = ran_lines o h s n
entry_lines o s e = lines_of e (shown_of o s e)

-- the lines of entries that come at a place
abbrev pub lines_from : Opening → Place → List Entry → List LineTree
lines_from o p [] = []
lines_from o p (e ∷ es) = entry_lines o p.state e ++ unwrap_or (option_map (λ q. lines_from o q es) (come o p e)) []

unfoldable pub said_lines : Opening → List Entry → List LineTree
said_lines o j = opening_lines o.settings.harts ++ lines_from o (first_place o) j

-- and their text
unfoldable pub said : Opening → List Entry → List ℕ
said o j = lines_bytes (said_lines o j)
