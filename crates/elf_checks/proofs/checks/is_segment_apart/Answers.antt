use Rattle.elf32_read.specs.declared.header.ProgramHeader.{ProgramHeader}
use Rattle.elf_checks.proofs.Fronts.{in_front}
use Rattle.elf_checks.proofs.checks.is_segment_apart.Goals as goal

pub returns-clause-value : goal.returns-clause-value
returns-clause-value c =
    let e = in_front (λ (h : ProgramHeader). h.address) (λ (h : ProgramHeader). h.memory_size) c.args.segments.now c.args.k c.args.apart c.args.h.now c.requires.number c.requires.before c.requires.front in
    rw c.requires.is at e
