use Rattle.std.proofs.Common.{◌∙◌, ◌≡◌, ap, List, map, length, drop, take, arith, refl}
use Rattle.std.specs.Vec.{with_items}
use Rattle.std.proofs.lemmas.List.{drop-map, length-map, with_items_is}
use Rattle.line_rows.specs.declared.row.Row.{Row}
use Rattle.line_rows.specs.RowList.{SequenceList, mapped, renumbered}
use Rattle.line_rows.specs.KeptSequences.{sequences_in}
use Rattle.line_rows.proofs.Mapped.{sequences-mapped}
use Rattle.line_rows.proofs.Orders.{pending_mapped, rise_mapped}
use Rattle.line_rows.proofs.sequences.Sequences.renumber.Goals as goal

pub invariant_of-self : goal.invariant_of-self
invariant_of-self c =
    let i = c.self.inside in
    let f = renumbered c.args.numbers.now in
    let kept = c.self.invariant in
    let whole : (with_items i.rows c.renumber.new.rows).items ≡ c.renumber.new.rows = with_items_is i.rows c.renumber.new.rows (c.renumber.auto.rows ∙ c.deref_mut.ensures.len) in
    let same : (with_items i.rows c.renumber.new.rows).items ≡ map f i.rows.items = whole ∙ c.renumber.ensures ∙ ap (map f) c.deref_mut.ensures.value in
    let size : length (with_items i.rows c.renumber.new.rows).items ≡ length i.rows.items = ap length same ∙ length-map i.rows.items f in
    record {
      count = kept.count;
      front = kept.front;
      back = kept.back;
      ranges = kept.ranges;
      pending = omega (arith, kept.pending, size);
      rise = rise_mapped f i.rows.items _ i.ranges.items (λ r. refl) same kept.rise;
      pending_rise = pending_mapped f i.rows.items _ i.pending (λ r. refl) same kept.pending_rise;
    }

pub returns : goal.returns
returns c =
    let i = c.self.inside in
    let f = renumbered c.args.numbers.now in
    let first = take i.kept i.ranges.items in
    let rest = drop i.kept i.ranges.items in
    let whole : (with_items i.rows c.renumber.new.rows).items ≡ c.renumber.new.rows = with_items_is i.rows c.renumber.new.rows (c.renumber.auto.rows ∙ c.deref_mut.ensures.len) in
    let same : (with_items i.rows c.renumber.new.rows).items ≡ map f i.rows.items = whole ∙ c.renumber.ensures ∙ ap (map f) c.deref_mut.ensures.value in
    let all : (let s : SequenceList = record { kept = sequences_in (map f i.rows.items) first; ended = sequences_in (map f i.rows.items) rest; pending = drop i.pending (map f i.rows.items) }
    in s ≡ record { kept = map (mapped f) (sequences_in i.rows.items first); ended = map (mapped f) (sequences_in i.rows.items rest); pending = map f (drop i.pending i.rows.items) }) =
    rw (sequences-mapped f i.rows.items first, sequences-mapped f i.rows.items rest, drop-map f i.pending i.rows.items) refl in
    ap (λ (rows : List Row). let s : SequenceList = record { kept = sequences_in rows first; ended = sequences_in rows rest; pending = drop i.pending rows } in s) same
    ∙ all
    ∙ ap (λ (s : SequenceList). let t : SequenceList = record { kept = map (mapped f) s.kept; ended = map (mapped f) s.ended; pending = map f s.pending } in t) c.self.view_is
