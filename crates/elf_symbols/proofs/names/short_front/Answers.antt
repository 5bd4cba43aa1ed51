use Rattle.elf32_read.proofs.Zeros.{name_in_front}
use Rattle.elf_symbols.proofs.Short.{long_behind}
use Rattle.elf_symbols.proofs.names.short_front.Goals as goal

pub returns-in-Some-clause-kept : goal.returns-in-Some-clause-kept
returns-in-Some-clause-kept c = name_in_front c.min-searched.result c.args.bytes.now c.in-Some.end c.in-Some.ensures

pub returns-in-None-clause-passed : goal.returns-in-None-clause-passed
returns-in-None-clause-passed c = long_behind c.min-searched.result c.args.bytes.now c.min-searched.ensures c.in-None.ensures
