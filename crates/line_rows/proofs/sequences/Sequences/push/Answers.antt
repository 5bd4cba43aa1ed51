-- The rows of ended sequences stay.
use Rattle.std.proofs.Common.{◌∙◌, ap, ◌++◌, ◌∷◌, [], drop, take, arith}
use Rattle.line_rows.specs.RowList.{SequenceList, last_address}
use Rattle.line_rows.proofs.Chains.{chain_ordered, chain_ranges}
use Rattle.line_rows.proofs.Flat.{sequences_push}
use Rattle.line_rows.proofs.Orders.{pending_pushed, rise_pushed}
use Rattle.line_rows.proofs.sequences.Sequences.push.Goals as goal

pub invariant_of-self-2 : goal.invariant_of-self-2
invariant_of-self-2 c =
    let i = c.self.inside in
    let kept = c.self.invariant in
    record {
      count = kept.count;
      front = kept.front;
      back = kept.back;
      ranges = kept.ranges;
      pending = omega (arith, kept.pending, c.in_ok-push.ensures.len);
      rise = rise_pushed i.rows.items c.push.new.self.items c.args.row i.ranges.items i.pending c.in_ok-push.ensures.items kept.pending kept.ranges kept.rise;
      pending_rise = pending_pushed i.rows.items c.push.new.self.items c.args.row i.pending c.in_ok-push.ensures.items kept.pending kept.pending_rise
          (omega (arith, ap (λ (s : SequenceList). last_address s.pending) c.self.view_is, c.requires));
    }

pub returns-clause-ok : goal.returns-clause-ok
returns-clause-ok c =
    let i = c.self.inside in
    let kept = c.self.invariant in
    let order = chain_ordered i.kept_rows (drop i.kept i.ranges.items) i.pending kept.back in
    rw c.in_ok-push.ensures.items
    (sequences_push i.rows.items c.args.row i.pending i.kept_rows (take i.kept i.ranges.items) (drop i.kept i.ranges.items) order kept.pending
    (chain_ranges 0 (take i.kept i.ranges.items) i.kept_rows kept.front) (chain_ranges i.kept_rows (drop i.kept i.ranges.items) i.pending kept.back)
    ∙ ap (λ (s : SequenceList). let t : SequenceList = record s { pending = s.pending ++ c.args.row ∷ [] } in t) c.self.view_is)
