use Rattle.std.proofs.Common.{refl}
use Rattle.break_table.proofs.Sections.{is_place-text_spans}
use Rattle.break_table.proofs.table.BreakTable.new.Goals as goal

pub returns-clause-table : goal.returns-clause-table
returns-clause-table c = rw (c.in_ok-entries.ensures.items, c.in_ok-text.ensures, c.in_ok-waits.ensures) refl

pub returns-clause-places : goal.returns-clause-places
returns-clause-places c addr = rw c.in_ok-text.ensures (is_place-text_spans c.args.image.now addr)
