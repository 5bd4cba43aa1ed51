-- How sequences are kept: their rows one after another in one list. This project's own.
use Rattle.std.specs.Prelude.{◌≡◌, ℕ, ◌<◌, ◌≤◌, List, [], ◌∷◌, map, length, take, drop, slice_range, All}
use Rattle.line_rows.specs.RowList.{AreInOrder, Sequence, SequenceList}
use Rattle.line_rows.specs.declared.row.Row.{Row}
use Rattle.line_rows.specs.declared.sequences.RowRange.{RowRange}
use Rattle.line_rows.specs.declared.sequences.Sequences.TheInside.{Inside}

abbrev pub sequence_in : List Row → RowRange → Sequence
sequence_in rows r = record { rows = slice_range rows r.start r.past; end = r.end }

abbrev pub sequences_in : List Row → List RowRange → List Sequence
sequences_in rows ranges = map (sequence_in rows) ranges

pub record IsRowRange (count : ℕ) (r : RowRange) : Type 0 where
  pub ordered : r.start ≤ r.past
  pub within : r.past ≤ count

-- ranges stand one behind another, from a row up to another, each with rows
abbrev pub Chained : ℕ → List RowRange → ℕ → Type 0
Chained at [] past = at ≡ past
Chained at (r ∷ rs) past = (r.start ≡ at) × (r.start < r.past) × Chained r.past rs past

abbrev pub seen : Inside → SequenceList
seen i =
    record {
      kept = sequences_in i.rows.items (take i.kept i.ranges.items);
      ended = sequences_in i.rows.items (drop i.kept i.ranges.items);
      pending = drop i.pending i.rows.items;
    }

-- the rows of kept sequences stand before those of the unit that is being read, and behind these those of one that isn't ended
pub record IsKept (i : Inside) : Type 0 where
  pub count : i.kept ≤ length i.ranges.items
  pub front : Chained 0 (take i.kept i.ranges.items) i.kept_rows
  pub back : Chained i.kept_rows (drop i.kept i.ranges.items) i.pending
  pub ranges : All (IsRowRange i.pending) i.ranges.items
  pub pending : i.pending ≤ length i.rows.items
  pub rise : All (λ s. AreInOrder s.rows) (sequences_in i.rows.items i.ranges.items)
  pub pending_rise : AreInOrder (drop i.pending i.rows.items)
