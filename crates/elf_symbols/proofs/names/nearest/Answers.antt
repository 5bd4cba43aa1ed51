-- The last of the table's range has its greatest address.
use Rattle.elf_symbols.proofs.Nearest.{le_by, by_le, le_back}
use Rattle.elf_symbols.proofs.names.nearest.Goals as goal

pub returns-in-Some : goal.returns-in-Some
returns-in-Some c =
    let range = c.range.ensures.in_range tt in
    let last = range.3 _ _ c.in-Some.ensures.steps in
    let top = range.4 _ _ c.in-Some.ensures.steps in (
      c.in-Some.field-0-0.now,
      record {
        within = le_by _ _ last.0.1;
        found = last.1;
        others = λ q within some. le_back _ _ (top q (tt, by_le _ _ within) some);
      },
    )
