use Rattle.std.proofs.Common.{◌+◌, arith, eq-eqb, ne_eqb}
use Rattle.elf32_read.specs.Views.{section_shown}
use Rattle.elf_symbols.proofs.Tables.{table_found, table_past}
use Rattle.elf_symbols.proofs.table.table_of.Goals as goal

pub returns-then-section-eq-SHT_SYMTAB : goal.returns-then-section-eq-SHT_SYMTAB
returns-then-section-eq-SHT_SYMTAB c =
    table_found c.args.image.now.sections c.loop-k.k (section_shown c.section_at-section.result) c.loop-k.invariant c.section_at-section.ensures (eq-eqb _ _ c.if-section-eq-SHT_SYMTAB.true)

pub loop-k-preserved : goal.loop-k-preserved
loop-k-preserved c =
    table_past c.args.image.now.sections c.loop-k.k (c.loop-k.k + 1) (section_shown c.section_at-section.result) (omega arith) c.loop-k.invariant c.section_at-section.ensures (ne_eqb _ _ c.if-section-eq-SHT_SYMTAB.false)
