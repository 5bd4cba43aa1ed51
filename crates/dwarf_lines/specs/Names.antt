-- The names of files (DWARF 5, section 6.2.4.1).
use Rattle.std.specs.Prelude.{ℕ, List, []}
use Rattle.line_rows.specs.Sections.{Sections}
use Rattle.leb_read.specs.Leb.{text_from}
use Rattle.line_headers.specs.declared.places.NamePlace.{NamePlace}
use Rattle.line_headers.specs.declared.places.NamePlace.TheVariants as place

-- the name at a place in one of the sections
abbrev pub name_in : Sections → NamePlace → List ℕ
name_in s place.Empty = []
name_in s (place.Line at) = text_from s.line at
name_in s (place.LineStr at) = text_from s.line_str at
name_in s (place.Str at) = text_from s.strs at
