use Rattle.std.proofs.Common.{◌≡◌, None, filter, fold, take}
use Rattle.elf_symbols.specs.Names.{better}
use Rattle.line_index.specs.Lines.{is_candidate, is_sooner}
use Rattle.line_index.proofs.Folds.{rows_in}
use Rattle.line_index.proofs.files.soonest.Given as goal

abbrev pub invariant-loop-k : goal.invariant-loop-k
invariant-loop-k l = l.found ≡ fold (better is_sooner) None (filter (is_candidate l.rows.names l.file l.line) (rows_in l.text (take l.k l.rows.sequences)))
