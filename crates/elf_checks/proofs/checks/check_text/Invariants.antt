use Rattle.std.proofs.Common.{◌≡◌, ◌≤◌, take, drop}
use Rattle.elf_checks.specs.Checks.{by_earlier, first_fault, text_check}
use Rattle.elf_checks.proofs.Earlier.{from}
use Rattle.elf_checks.proofs.checks.check_text.Given as goal

abbrev pub invariant-loop-k : goal.invariant-loop-k
invariant-loop-k l = record {
  before : l.k ≤ l.apart;
  same : first_fault (by_earlier (text_check l.segments) l.texts) ≡ first_fault (from (text_check l.segments) (take l.k l.texts) (drop l.k l.texts));
}
