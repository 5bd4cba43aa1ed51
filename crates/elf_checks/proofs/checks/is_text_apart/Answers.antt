use Rattle.elf32_read.specs.declared.header.SectionHeader.{SectionHeader}
use Rattle.elf_checks.proofs.Fronts.{in_front}
use Rattle.elf_checks.proofs.checks.is_text_apart.Goals as goal

pub returns-clause-value : goal.returns-clause-value
returns-clause-value c =
    let e = in_front (λ (h : SectionHeader). h.address) (λ (h : SectionHeader). h.size) c.args.texts.now c.args.k c.args.apart c.args.h.now c.requires.number c.requires.before c.requires.front in
    rw c.requires.is at e
