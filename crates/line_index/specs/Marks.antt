-- What rows say of their addresses. This project's own.
use Rattle.std.specs.Prelude.{ℕ, ◌&&◌, Bool, Option, None, Some, min}
use Rattle.line_rows.specs.declared.row.Row.{Row}
use Rattle.line_index.specs.declared.marks.Mark.{Mark}
use Rattle.line_index.specs.declared.marks.Mark.TheVariants.{Another, PrologueEnd, Statement}
use Rattle.line_index.specs.Lines.{is_another}

-- whether a prologue ends, a statement begins, or one of another line begins, at a row's address
abbrev pub has : Mark → Row → Bool
has PrologueEnd r = r.prologue_end
has Statement r = r.is_stmt
has (Another file line) r = r.is_stmt && is_another file line r

-- the lesser of two addresses, or the one that is there
abbrev pub lesser : Option ℕ → Option ℕ → Option ℕ
lesser None o = o
lesser (Some a) None = Some a
lesser (Some a) (Some b) = Some (min a b)
