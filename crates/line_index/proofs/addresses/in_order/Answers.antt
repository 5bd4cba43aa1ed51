use Rattle.std.proofs.lemmas.List.Sorted.{IsNonDecreasingBy-from_sort}
use Rattle.line_index.proofs.addresses.in_order.Goals as goal

pub returns : goal.returns
returns c = record { same = c.sort_unstable.ensures.permutation; ordered = IsNonDecreasingBy-from_sort (λ n. n) _ c.sort_unstable.ensures.sorted }
