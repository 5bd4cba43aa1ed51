use Rattle.std.proofs.Common.{◌≡◌, filter, fold, take}
use Rattle.elf_symbols.specs.Names.{better}
use Rattle.line_index.specs.Lines.{is_candidate, is_sooner}
use Rattle.line_index.proofs.files.soonest_in.Given as goal

abbrev pub invariant-loop-row : goal.invariant-loop-row
invariant-loop-row l = l.found ≡ fold (better is_sooner) l.fn.found (filter (is_candidate l.all.names l.file l.line) (take l.row-index l.rows))
