use Rattle.std.proofs.Common.{◌≡◌, ◌≤◌, ◌-◌, length}
use Rattle.line_programs.specs.Operations.{behind_numbers}
use Rattle.line_programs.proofs.reading.behind_numbers.Given as goal

abbrev pub invariant-loop-number : goal.invariant-loop-number
invariant-loop-number l = record {
  same : behind_numbers (l.count - l._number) l.unit l.next ≡ behind_numbers l.count l.unit l.at;
  from : l.at ≤ l.next;
  within : l.next ≤ length l.unit;
}
