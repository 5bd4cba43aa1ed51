use Rattle.std.proofs.Common.{rules, w8, SFits, subst}
use Rattle.std.specs.Prelude.{Result}
use Rattle.std.proofs.lemmas.Int.{to_z-of_z}
use Rattle.line_rows.specs.RowList.{OpenUnit}
use Rattle.line_rows.specs.declared.fault.LineFault.{LineFault}
use Rattle.line_programs.specs.Machine.{GivesRows}
use Rattle.dwarf_lines.proofs.Programs.{program_same}
use Rattle.dwarf_lines.proofs.unit.program_in.Goals as goal

pub returns-clause-rows : goal.returns-clause-rows
returns-clause-rows c =
    subst (λ (want : Result OpenUnit LineFault). GivesRows c.program_rows.result want c.program_rows.new.rows.unit)
    (program_same c.args.header c.args.file_count c.args.bytes.now _ _ (let fits : SFits w8 c.args.header.lines.line_base = search rules in to_z-of_z w8 _ fits) c.saturating_sub.ensures)
    c.program_rows.ensures.rows
