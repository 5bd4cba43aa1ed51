-- The tables of what stands in a file.
use Rattle.std.specs.Prelude.{◌≡◌, ℕ, ◌+◌, ◌*◌, ◌≤◌, ◌<◌, ◌⊎◌, true, List, length, map, All}
use Rattle.elf32_read.specs.Headers.{file_header, loaded, text_headers, section_headers}
use Rattle.elf32_read.specs.Ranges.{text_range, text_fits, IsWithin, IsRange}
use Rattle.elf32_read.specs.Spans.{AreSegments, AreTexts}
use Rattle.elf32_read.specs.declared.tables.Tables.{Tables}

-- the tables are those of the file; those of addresses are in order
pub record AreTables (file : List ℕ) (t : Tables) : Type 0 where
  pub header : t.header ≡ file_header file
  pub segments : t.segments.items ≡ loaded file
  pub text : t.text.items ≡ map (text_range file) (text_headers file)
  pub sections : t.sections.items ≡ section_headers file
  pub segment_spans : AreSegments t.segments.items t.segment_spans.items
  pub text_spans : AreTexts t.text.items t.text_spans.items

-- the tables are those of the file, and what they name stands in it
pub record AreWhole (file : List ℕ) (t : Tables) : Type 0 where
  pub tables : AreTables file t
  pub fits : All (IsWithin file) t.segments.items
  pub texts : All (λ h. text_fits (loaded file) h ≡ true) (text_headers file)
  pub ranges : All (IsRange file) t.text.items
  pub limit : length file ≤ 33554432
  pub within : t.header.section_headers + 40 * t.header.section_header_count ≤ length file
  pub named : (t.header.section_names ≡ 0) ⊎ (t.header.section_names < t.header.section_header_count)
