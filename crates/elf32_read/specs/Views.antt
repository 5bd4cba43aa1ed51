-- What a view of a part of an image shows.
use Rattle.std.specs.Prelude.{ℕ, ◌/◌, List, None, length, take, drop}
use Rattle.elf32_read.specs.Fields.{u32_at, entries}
use Rattle.elf32_read.specs.Program.{Segment, Text, Section}
use Rattle.elf32_read.specs.declared.tables.TextRange.{TextRange}
use Rattle.elf32_read.specs.declared.views.SegmentView.{SegmentView}
use Rattle.elf32_read.specs.declared.views.TextView.{TextView}
use Rattle.elf32_read.specs.declared.views.SectionView.{SectionView}

abbrev pub segment_shown : SegmentView → Segment
segment_shown v = record { address = v.address; size = v.size; flags = v.flags; bytes = v.bytes.now }

abbrev pub text_shown : TextView → Text
text_shown v = record { address = v.address; words = entries (u32_at v.bytes.now) 0 4 (length v.bytes.now / 4) }

-- a text section by its range in a file
abbrev pub range_shown : List ℕ → TextRange → Text
range_shown file t =
    let bytes = take t.size (drop t.offset file) in
    record { address = t.address; words = entries (u32_at bytes) 0 4 (length bytes / 4) }

-- a section apart from its name
abbrev pub unnamed : Section → Section
unnamed s = record s { name = None }

abbrev pub section_shown : SectionView → Section
section_shown v =
    record { name = None; kind = v.kind; flags = v.flags; address = v.address; link = v.link; bytes = v.bytes.now }
