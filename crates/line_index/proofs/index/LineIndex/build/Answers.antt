use Rattle.line_index.proofs.index.LineIndex.build.Goals as goal

pub invariant_of-result : goal.invariant_of-result
invariant_of-result c = record {
  starts = c.in_ok-functions.ensures.starts;
  sequences = c.in_ok-sequences.ensures;
}
