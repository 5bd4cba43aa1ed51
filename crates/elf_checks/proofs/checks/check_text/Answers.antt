use Rattle.std.proofs.Common.{ap, arith}
use Rattle.std.proofs.lemmas.List.{get_or_default}
use Rattle.elf_checks.specs.Checks.{first_fault, text_check}
use Rattle.elf_checks.proofs.Earlier.{by_earlier-from}
use Rattle.elf_checks.proofs.checks.check_text.Goals as goal

pub loop-k-init : goal.loop-k-init
loop-k-init c = record { before = omega arith; same = ap first_fault (by_earlier-from (text_check c.args.segments.now) c.args.texts.now) }

pub is_text_apart-is_apart-requires-clause-is : goal.is_text_apart-is_apart-requires-clause-is
is_text_apart-is_apart-requires-clause-is c = get_or_default c.args.texts.now c.loop-k.k _ _ c.loop-k-test.true
