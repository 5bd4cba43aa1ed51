use Rattle.std.proofs.Common.{◌≡◌, ◌≤◌, take, drop}
use Rattle.elf_checks.specs.Checks.{by_earlier, first_fault, segment_check}
use Rattle.elf_checks.proofs.Earlier.{from}
use Rattle.elf_checks.proofs.checks.check_segments.Given as goal

abbrev pub invariant-loop-k : goal.invariant-loop-k
invariant-loop-k l = record {
  before : l.k ≤ l.apart;
  same : first_fault (by_earlier (segment_check l.size) l.segments) ≡ first_fault (from (segment_check l.size) (take l.k l.segments) (drop l.k l.segments));
}
