use Rattle.debug_info.proofs.Words.{sym}
use Rattle.debug_info.proofs.Spanned.{span_found}
use Rattle.debug_info.proofs.unit.variables_at.Goals as goal

pub variables_of-requires-clause-span : goal.variables_of-requires-clause-span
variables_of-requires-clause-span c = span_found c.args.source.now.info.now c.args.place c.args.units.now c.in-Some.span c.requires.units (sym c.in-Some.ensures)
