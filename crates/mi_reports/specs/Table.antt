-- The table of breakpoints and watches (GDB manual, "GDB/MI Breakpoint Commands": `-break-list`).
use Rattle.std.specs.Prelude.{ℕ, List, [], ◌∷◌, length, map, decimal}
use Rattle.dbg_model.specs.declared.row.Row.{Row}
use Rattle.dbg_model.specs.declared.row.Row.TheVariants as rows
use Rattle.mi_values.specs.Tree.{Tree}
use Rattle.mi_values.specs.FieldLists.{in_brackets}
use Rattle.mi_reports.specs.declared.words.Key.TheVariants as key
use Rattle.mi_reports.specs.Words.{key_text, says}
use Rattle.mi_reports.specs.Breakpoints.{breakpoint_field}
use Rattle.mi_reports.specs.Watches.{listed_field}

abbrev pub row_field : Row → List ℕ × Tree
row_field (rows.Breakpoint b) = breakpoint_field b
row_field (rows.Watch w) = listed_field w

-- all of them, by their number
unfoldable pub table_fields : List Row → List (List ℕ × Tree)
table_fields rs = says key.Rows (decimal (length rs)) ∷ (key_text key.Body, in_brackets (map row_field rs)) ∷ []
