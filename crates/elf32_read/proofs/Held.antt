-- The segment that holds a text section, and where its words stand.
use Rattle.std.proofs.Common.{◌≡◌, ℕ, get_or, ◌+◌, ◌%◌, ◌≤◌, Bool, true, false, List, [], ◌∷◌, length, map, find, Some, refl, arith, leb-true, eqb-true}
use Rattle.std.specs.Prelude.{◌==◌, ◌&&◌, ◌||◌, not, All}
use Rattle.std.specs.List.{list_any}
use Rattle.std.proofs.lemmas.List.Elements.{All-head, All-tail, All-map}
use Rattle.std.proofs.lemmas.Bool.{and_parts}
use Rattle.elf32_read.specs.Headers.{loaded, text_headers, holds_text}
use Rattle.elf32_read.specs.Ranges.{range_in, text_range, offset_of, segment_fits, text_fits, IsWithin, IsRange}
use Rattle.elf32_read.specs.declared.header.ProgramHeader.{ProgramHeader}
use Rattle.elf32_read.specs.declared.header.SectionHeader.{SectionHeader}

-- the first segment that holds a section
pub record Holder (file : List ℕ) (segments : List ProgramHeader) (h : SectionHeader) : Type 0 where
  pub segment : ProgramHeader
  pub found : find (holds_text h) segments ≡ Some segment
  pub within : IsWithin file segment
  pub holds : holds_text h segment ≡ true

holder_step : (file : List ℕ) (h : SectionHeader) (s : ProgramHeader) (ss : List ProgramHeader) (b : Bool) → holds_text h s ≡ b
    → IsWithin file s → (list_any (holds_text h) ss ≡ true → Holder file ss h) → (b || list_any (holds_text h) ss) ≡ true → Holder file (s ∷ ss) h
holder_step file h s ss true e w rest any = record { segment = s; found = rw e refl; within = w; holds = e }
holder_step file h s ss false e w rest any =
    let r = rest any in record { segment = r.segment; found = rw e r.found; within = r.within; holds = r.holds }

pub holder : (file : List ℕ) (segments : List ProgramHeader) (h : SectionHeader) → list_any (holds_text h) segments ≡ true
    → All (IsWithin file) segments → Holder file segments h
holder file [] h any all = cc
holder file (s ∷ ss) h any all =
    holder_step file h s ss (holds_text h s) refl (All-head (IsWithin file) s ss all) (λ (e : list_any (holds_text h) ss ≡ true). holder file ss h e (All-tail (IsWithin file) s ss all)) any

-- what a segment's fit says
pub within_sizes : (size : ℕ) (s : ProgramHeader) → segment_fits size s ≡ true
    → (s.file_size ≤ s.memory_size) × (s.offset + s.file_size ≤ size) × (s.address + s.memory_size ≤ 0xE0000000)
within_sizes size s e =
    let a = and_parts _ _ e in
    let b = and_parts _ _ a.1 in
    (leb-true _ _ a.0, leb-true _ _ b.0, leb-true _ _ b.1)

-- what it says that a segment holds a section
pub holds_sizes : (h : SectionHeader) (s : ProgramHeader) → holds_text h s ≡ true
    → (s.address ≤ h.address) × (h.address + h.size ≤ s.address + s.file_size)
holds_sizes h s e =
    let a = and_parts _ _ e in
    let b = and_parts _ _ a.1 in
    (leb-true _ _ b.0, leb-true _ _ b.1)

-- what a text section's fit says
pub record TextFit (segments : List ProgramHeader) (h : SectionHeader) : Type 0 where
  pub aligned : h.address % 4 ≡ 0
  pub whole : h.size % 4 ≡ 0
  pub held : list_any (holds_text h) segments ≡ true

pub text_parts : (segments : List ProgramHeader) (h : SectionHeader) → text_fits segments h ≡ true → TextFit segments h
text_parts segments h e =
    let a = and_parts ((h.address % 4 == 0) && (h.size % 4 == 0)) (not (h.kind == 8) && list_any (holds_text h) segments) e in
    let b = and_parts (h.address % 4 == 0) (h.size % 4 == 0) a.0 in
    let c = and_parts (not (h.kind == 8)) (list_any (holds_text h) segments) a.1 in
    record { aligned = eqb-true _ _ b.0; whole = eqb-true _ _ b.1; held = c.1 }

range_held : (file : List ℕ) (segments : List ProgramHeader) (h : SectionHeader) → TextFit segments h → Holder file segments h → IsRange file (range_in segments h)
range_held file segments h fit r =
    let w = within_sizes (length file) r.segment r.within in
    let s = holds_sizes h r.segment r.holds in
    let offset : (range_in segments h).offset ≡ offset_of h.address r.segment = rw r.found refl in
    record { within = omega (arith, w.1, s.0, s.1, offset); aligned = fit.aligned; whole = fit.whole }

-- a text section's words are in the file
pub is_range : (file : List ℕ) (segments : List ProgramHeader) (h : SectionHeader) → text_fits segments h ≡ true
    → All (IsWithin file) segments → IsRange file (range_in segments h)
is_range file segments h e all =
    let fit = text_parts segments h e in range_held file segments h fit (holder file segments h fit.held all)

pub are_ranges : (file : List ℕ) → All (λ h. text_fits (loaded file) h ≡ true) (text_headers file) → All (IsWithin file) (loaded file)
    → All (IsRange file) (map (text_range file) (text_headers file))
are_ranges file fit all =
    All-map (IsRange file) (text_range file) (text_headers file)
    (λ k d lt. is_range file (loaded file) (get_or (text_headers file) k d) (fit k d lt) all)
