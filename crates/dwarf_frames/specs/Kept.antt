-- How an index is kept.
use Rattle.std.specs.Prelude.{ℕ, List, All}
use Rattle.dwarf_frames.specs.Marks.{IsMarked}
use Rattle.dwarf_frames.specs.Starts.{IsKept}
use Rattle.dwarf_frames.specs.declared.index.FrameIndex.TheInside.{Inside}

abbrev pub section_of : Inside → List ℕ
section_of i = i.tables

pub record IsIndex (i : Inside) : Type 0 where
  pub starts : All (IsKept i.tables) i.starts.items
  pub marked : All (IsMarked i.tables) i.marked.items
