use Rattle.std.proofs.Common.{ap, arith}
use Rattle.std.proofs.lemmas.List.{get_or_default}
use Rattle.elf_checks.specs.Checks.{first_fault, segment_check}
use Rattle.elf_checks.proofs.Earlier.{by_earlier-from}
use Rattle.elf_checks.proofs.Holders.{checked_all}
use Rattle.elf_checks.proofs.checks.check_segments.Goals as goal

pub loop-k-init : goal.loop-k-init
loop-k-init c = record { before = omega arith; same = ap first_fault (by_earlier-from (segment_check c.args.size) c.args.segments.now) }

pub is_segment_apart-is_apart-requires-clause-is : goal.is_segment_apart-is_apart-requires-clause-is
is_segment_apart-is_apart-requires-clause-is c = get_or_default c.args.segments.now c.loop-k.k _ _ c.loop-k-test.true

pub returns-clause-filled : goal.returns-clause-filled
returns-clause-filled c = checked_all c.args.size c.loop-k.k c.args.segments.now c.loop-k-test.false c.loop-k.invariant.same
