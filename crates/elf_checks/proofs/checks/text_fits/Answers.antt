use Rattle.std.proofs.Common.{◌∙◌, sym}
use Rattle.elf_checks.proofs.Holders.{fits_by}
use Rattle.elf_checks.proofs.checks.text_fits.Goals as goal

pub returns-then-h-ne-SHT_NOBITS : goal.returns-then-h-ne-SHT_NOBITS
returns-then-h-ne-SHT_NOBITS c =
    c.is_some.ensures ∙ rw c.holder.ensures (sym (fits_by c.args.segments.now c.args.h.now c.if-is_whole.ensures c.if-h-ne-SHT_NOBITS.true))
