use Rattle.break_table.proofs.table.BreakTable.insert.Goals as goal

pub add-requires-clause-room : goal.add-requires-clause-room
add-requires-clause-room c = rw c.in-None.is at c.refusal.ensures.room
