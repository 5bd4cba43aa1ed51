use Rattle.elf32_read.specs.declared.header.ProgramHeader.{ProgramHeader}
use Rattle.elf32_read.proofs.Found.{some_texts}
use Rattle.elf_checks.proofs.Fronts.{table_rises}
use Rattle.elf_checks.proofs.checks.check_tables.Goals as goal

pub check_text-requires-clause-sorted : goal.check_text-requires-clause-sorted
check_text-requires-clause-sorted c =
    let r = table_rises (λ (h : ProgramHeader). h.address) (λ (h : ProgramHeader). h.memory_size) c.args.segments.now c.args.segment_table.now c.requires.segment_table c.in_ok-check_segments.ensures.apart in
    rw c.deref.ensures.value r

pub check_text-requires-clause-some : goal.check_text-requires-clause-some
check_text-requires-clause-some c = rw c.requires.texts (some_texts c.args.bytes.now)
