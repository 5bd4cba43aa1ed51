-- What holds of a file that fails no check.
use Rattle.std.proofs.Common.{◌≡◌, ℕ, zero, suc, ◌+◌, ◌*◌, ◌≤◌, ◌<◌, Bool, true, false, List, [], ◌∷◌, ◌++◌, length, Option, None, Some, refl, sym, ◌∙◌, ap, leb-true, ltb-true, eqb-true, inl, inr}
use Rattle.std.specs.Prelude.{◌==◌, ◌||◌, ◌⊎◌, nat_lt, All, slice_get, if◌then◌else◌}
use Rattle.std.specs.Option.{option_map_or}
use Rattle.std.proofs.lemmas.List.Elements.{All-nil, All-cons}
use Rattle.std.proofs.lemmas.Bool.{and_parts}
use Rattle.elf32_read.specs.Headers.{file_header, loaded, text_headers}
use Rattle.elf32_read.specs.Ranges.{segment_fits, text_fits, IsWithin}
use Rattle.elf32_read.specs.Tables.{AreTables, AreWhole}
use Rattle.elf32_read.specs.declared.tables.Tables.{Tables}
use Rattle.elf32_read.proofs.Held.{are_ranges}
use Rattle.elf_checks.specs.Checks.{Check, check, first_fault, fault_of, size_checks, header_checks, by_earlier, segment_check, memory_check, text_check, entry_checks}
use Rattle.elf_checks.proofs.Stages.{or_else, fault_of-stages}
use Rattle.elf_checks.proofs.Earlier.{from, by_earlier-from}
use Rattle.elf_checks.specs.declared.fault.ElfKind.TheVariants as kind
use Rattle.elf_checks.specs.declared.fault.ElfFault.{ElfFault}
use Rattle.elf32_read.specs.declared.header.ProgramHeader.{ProgramHeader}
use Rattle.elf32_read.specs.declared.header.SectionHeader.{SectionHeader}

both_none : (a b : Option ElfFault) → or_else a b ≡ None → (a ≡ None) × (b ≡ None)
both_none None b h = (refl, h)
both_none (Some f) b h = cc

holds_first : (b : Bool) (f : ElfFault) (o : Option ElfFault) → (if b then o else Some f) ≡ None → (b ≡ true) × (o ≡ None)
holds_first true f o h = (refl, h)
holds_first false f o h = cc

-- the first of some checks holds, and the others have no fault
pub passed_first : (c : Check) (cs : List Check) → first_fault (c ∷ cs) ≡ None → (c.holds ≡ true) × (first_fault cs ≡ None)
passed_first c cs h = holds_first c.holds c.fault (first_fault cs) h

-- no stage has a fault
pub record Passed (bytes : List ℕ) : Type 0 where
  pub size : first_fault (size_checks bytes) ≡ None
  pub header : first_fault (header_checks bytes) ≡ None
  pub segments : first_fault (by_earlier (segment_check (length bytes)) (loaded bytes)) ≡ None
  pub memory : first_fault (by_earlier memory_check (loaded bytes)) ≡ None
  pub named : first_fault (check (((file_header bytes).section_names == 0) || nat_lt (file_header bytes).section_names (file_header bytes).section_header_count) kind.Section 50 ∷ []) ≡ None
  pub text : first_fault (by_earlier (text_check (loaded bytes)) (text_headers bytes)) ≡ None
  pub entry : first_fault (entry_checks (file_header bytes) (text_headers bytes)) ≡ None

pub passed : (bytes : List ℕ) → fault_of bytes ≡ None → Passed bytes
passed bytes h =
    let a = both_none _ _ (sym (fault_of-stages bytes) ∙ h) in
    let b = both_none _ _ a.1 in
    let c = both_none _ _ b.1 in
    let d = both_none _ _ c.1 in
    let e = both_none _ _ d.1 in
    let f = both_none _ _ e.1 in
    let g = both_none _ _ f.1 in
    let i = both_none _ _ g.1 in
    record { size = a.0; header = b.0; segments = c.0; memory = d.0; named = e.0; text = i.0; entry = i.1 }

fits_from : (size : ℕ) (earlier hs : List ProgramHeader) → first_fault (from (segment_check size) earlier hs) ≡ None
    → All (λ h. segment_fits size h ≡ true) hs
fits_from size earlier [] e = All-nil (λ h. segment_fits size h ≡ true)
fits_from size earlier (h ∷ hs) e =
    let p = passed_first (segment_check size earlier h) (from (segment_check size) (earlier ++ h ∷ []) hs) e in
    All-cons (λ h. segment_fits size h ≡ true) h hs (and_parts _ _ p.0).0 (fits_from size (earlier ++ h ∷ []) hs p.1)

pub fits : (size : ℕ) (hs : List ProgramHeader) → first_fault (by_earlier (segment_check size) hs) ≡ None → All (λ h. segment_fits size h ≡ true) hs
fits size hs e = fits_from size [] hs (ap first_fault (sym (by_earlier-from (segment_check size) hs)) ∙ e)

text_fit_from : (segments : List ProgramHeader) (earlier hs : List SectionHeader) → first_fault (from (text_check segments) earlier hs) ≡ None
    → All (λ h. text_fits segments h ≡ true) hs
text_fit_from segments earlier [] e = All-nil (λ h. text_fits segments h ≡ true)
text_fit_from segments earlier (h ∷ hs) e =
    let p = passed_first (text_check segments earlier h) (from (text_check segments) (earlier ++ h ∷ []) hs) e in
    All-cons (λ h. text_fits segments h ≡ true) h hs (and_parts _ _ p.0).0 (text_fit_from segments (earlier ++ h ∷ []) hs p.1)

pub text_fit : (segments : List ProgramHeader) (hs : List SectionHeader) → first_fault (by_earlier (text_check segments) hs) ≡ None
    → All (λ h. text_fits segments h ≡ true) hs
text_fit segments hs e = text_fit_from segments [] hs (ap first_fault (sym (by_earlier-from (text_check segments) hs)) ∙ e)

pub are_within : (file : List ℕ) → fault_of file ≡ None → All (IsWithin file) (loaded file)
are_within file h = fits (length file) (loaded file) (passed file h).segments

pub texts_fit : (file : List ℕ) → fault_of file ≡ None → All (λ h. text_fits (loaded file) h ≡ true) (text_headers file)
texts_fit file h = text_fit (loaded file) (text_headers file) (passed file h).text

-- each of some checks holds
pub passes_at : (cs : List Check) (k : ℕ) → first_fault cs ≡ None → option_map_or (λ c. c.holds) (slice_get cs k) true ≡ true
passes_at [] k h = refl
passes_at (c ∷ cs) zero h = (passed_first c cs h).0
passes_at (c ∷ cs) (suc k) h = passes_at cs k (passed_first c cs h).1

pub is_small : (file : List ℕ) → fault_of file ≡ None → length file ≤ 33554432
is_small file h = leb-true _ _ (passes_at (size_checks file) 0 (passed file h).size)

pub has_sections : (file : List ℕ) → fault_of file ≡ None
    → (file_header file).section_headers + 40 * (file_header file).section_header_count ≤ length file
has_sections file h = leb-true _ _ (passes_at (header_checks file) 9 (passed file h).header)

either_named : (names count : ℕ) (b c : Bool) → (names == 0) ≡ b → nat_lt names count ≡ c → (b || c) ≡ true → (names ≡ 0) ⊎ (names < count)
either_named names count true c e f h = inl (eqb-true _ _ e)
either_named names count false c e f h = inr (ltb-true _ _ (f ∙ h))

pub has_names : (file : List ℕ) → fault_of file ≡ None
    → ((file_header file).section_names ≡ 0) ⊎ ((file_header file).section_names < (file_header file).section_header_count)
has_names file h =
    let header = file_header file in
    let named = check ((header.section_names == 0) || nat_lt header.section_names header.section_header_count) kind.Section 50 ∷ [] in
    either_named header.section_names header.section_header_count _ _ refl refl (passes_at named 0 (passed file h).named)

-- an image can be made of the bytes and their tables
pub are_whole : (file : List ℕ) (t : Tables) → fault_of file ≡ None → AreTables file t → AreWhole file t
are_whole file t h tables =
    record {
      tables = tables;
      fits = rw tables.segments (are_within file h);
      texts = texts_fit file h;
      ranges = rw tables.text (are_ranges file (texts_fit file h) (are_within file h));
      limit = is_small file h;
      within = rw tables.header (has_sections file h);
      named = rw tables.header (has_names file h);
    }
