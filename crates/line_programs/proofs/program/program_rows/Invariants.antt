use Rattle.std.proofs.Common.{◌≡◌, ◌≤◌, ◌+◌, ◌-◌, ℕ, length}
use Rattle.line_programs.specs.Operations.{operations_from}
use Rattle.line_programs.specs.Machine.{Keeps, program_of, ran}
use Rattle.line_programs.proofs.program.program_rows.Given as goal

abbrev pub invariant-operations : goal.invariant-operations
invariant-operations l = record {
  same : (n : ℕ) × (length l.unit ≤ n + l.place) × (ran l.parameters l.unit (operations_from n l.parameters l.lengths l.unit l.place) (record { registers = l.registers; rows = l.rows.unit }) ≡ program_of l.parameters l.lengths l.unit l.at);
  rest : Keeps l.fn.rows l.rows;
}

abbrev pub decreases-operations : goal.decreases-operations
decreases-operations l = length l.unit - l.place
