use Rattle.elf_checks.proofs.Middles.{told}
use Rattle.elf_checks.proofs.overlaps.are_apart.Goals as goal

pub returns : goal.returns
returns c =
    told c.rise.result c.args.spans.now c.in_ok-sorted.sorted.items c.in_ok-sorted.ensures.same (rw c.deref.ensures.value at c.rise.ensures)
