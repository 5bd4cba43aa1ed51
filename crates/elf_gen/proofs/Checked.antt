-- A file of text and data alone fails no check.
use Rattle.std.proofs.Common.{◌≡◌, ℕ, ◌+◌, ◌*◌, ◌%◌, ◌<◌, ◌≤◌, Bool, true, false, List, [], ◌∷◌, ◌++◌, length, take, drop, map, None, Option, refl, sym, ap, ◌∙◌, subst, arith, lt-ltb, le-leb, eq-eqb, length-append, append_assoc}
use Rattle.std.specs.Prelude.{◌==◌, nat_lt, nat_le, ◌||◌, not, if◌then◌else◌}
use Rattle.std.proofs.lemmas.Bool.{le-ltb}
use Rattle.std.proofs.Math.Seq.{drop-append_seam, take-append_seam}
use Rattle.elf32_read.specs.Fields.{u16_at, u32_at, name_at}
use Rattle.elf32_read.specs.Headers.{file_header, section_headers, loaded, text_headers, names, names_header, section_bytes}
use Rattle.elf_checks.specs.Checks.{Check, check, first_fault, fault_of, size_checks, header_checks, by_earlier, segment_check, memory_check, section_check, name_check, name_checks, text_check, entry_checks, section_fits}
use Rattle.elf_checks.proofs.Earlier.{by_earlier-memory, memory_from}
use Rattle.elf_checks.proofs.Stages.{or_else, fault_of-stages}
use Rattle.elf_checks.specs.declared.fault.ElfKind.TheVariants as kind
use Rattle.elf_checks.specs.declared.fault.ElfFault.{ElfFault}
use Rattle.elf32_read.specs.declared.header.FileHeader.{FileHeader}
use Rattle.elf32_read.specs.declared.header.ProgramHeader.{ProgramHeader}
use Rattle.elf32_read.specs.declared.header.SectionHeader.{SectionHeader}
use Rattle.elf_gen.specs.Layout.{elf_header, segment_headers}
use Rattle.elf_gen.specs.Plain.{plain_names, plain_sections}
use Rattle.elf_gen.proofs.Laid.{laid, Sizes, length-laid, place_read, text_segment, data_segment, data_loaded, loaded_are, file_header_is, text_section, data_section, names_section, section_rows, section_headers_are, names_header_is}

none_both : (a b : Option ElfFault) → a ≡ None → b ≡ None → or_else a b ≡ None
none_both a b e f = rw e f

passes : (c : Check) (cs : List Check) → c.holds ≡ true → first_fault cs ≡ None → first_fault (c ∷ cs) ≡ None
passes c cs h e = rw h e

-- the size
size_passes : (t b : ℕ) (text bytes : List ℕ) → Sizes t b text bytes → first_fault (size_checks (laid t b text bytes)) ≡ None
size_passes t b text bytes s =
    let file = laid t b text bytes in
    let n = length-laid t b text bytes s in
    let most : nat_le (length file) 33554432 ≡ true = le-leb _ _ (omega (arith, n, s.memory)) in
    let least : nat_le 52 (length file) ≡ true = le-leb _ _ (omega (arith, n)) in
    passes (check (nat_le (length file) 33554432) kind.Large 33554432) (check (nat_le 52 (length file)) kind.Short (length file) ∷ []) most
    (passes (check (nat_le 52 (length file)) kind.Short (length file)) [] least refl)

-- the header: but for the two tables' ends it computes
header_passes : (t b : ℕ) (text bytes : List ℕ) → Sizes t b text bytes → first_fault (header_checks (laid t b text bytes)) ≡ None
unfolding u16_at u32_at
header_passes t b text bytes s =
    let file = laid t b text bytes in
    let n = length-laid t b text bytes s in
    let at = place_read t b text bytes s in
    let segments : nat_le (52 + 32 * 2) (length file) ≡ true = le-leb _ _ (omega (arith, n)) in
    let sections : nat_le (u32_at file 32 + 40 * 4) (length file) ≡ true = le-leb _ _ (omega (arith, n, at)) in
    passes (check (nat_le (52 + 32 * 2) (length file)) kind.Short 52) (check (nat_le (u32_at file 32 + 40 * 4) (length file)) kind.Short (u32_at file 32) ∷ []) segments
    (passes (check (nat_le (u32_at file 32 + 40 * 4) (length file)) kind.Short (u32_at file 32)) [] sections refl)

-- the segments, of which the second may have no byte
segments_by : (size t b : ℕ) (some : Bool) → nat_lt 0 b ≡ some → 116 + t + b ≤ size → 116 + t ≤ 65536 → 116 + t + b ≤ 16777216
    → first_fault (by_earlier (segment_check size) (text_segment t ∷ (if some then data_segment t b ∷ [] else []))) ≡ None
segments_by size t b false e within below memory =
    let same : nat_le (116 + t) (116 + t) ≡ true = le-leb _ _ (omega arith) in
    let part : nat_le (0 + (116 + t)) size ≡ true = le-leb _ _ (omega arith) in
    let end : nat_le (0x10000 + (116 + t)) 0xE0000000 ≡ true = le-leb _ _ (omega arith) in
    rw (same, part, end) refl
segments_by size t b true e within below memory =
    let same : nat_le (116 + t) (116 + t) ≡ true = le-leb _ _ (omega arith) in
    let part : nat_le (0 + (116 + t)) size ≡ true = le-leb _ _ (omega arith) in
    let end : nat_le (0x10000 + (116 + t)) 0xE0000000 ≡ true = le-leb _ _ (omega arith) in
    let data_same : nat_le b b ≡ true = le-leb _ _ (omega arith) in
    let data_part : nat_le (116 + t + b) size ≡ true = le-leb _ _ (omega arith) in
    let data_end : nat_le (0x20000 + b) 0xE0000000 ≡ true = le-leb _ _ (omega arith) in
    let apart : nat_lt 0x20000 (0x10000 + (116 + t)) ≡ false = le-ltb _ _ (omega arith) in
    rw (same, part, end, data_same, data_part, data_end, apart) refl

segments_pass : (t b : ℕ) (text bytes : List ℕ) → Sizes t b text bytes
    → first_fault (by_earlier (segment_check (length (laid t b text bytes))) (loaded (laid t b text bytes))) ≡ None
segments_pass t b text bytes s =
    let file = laid t b text bytes in
    let n = length-laid t b text bytes s in
    let P : List ProgramHeader → Type 0 = λ hs. first_fault (by_earlier (segment_check (length file)) hs) ≡ None in
    subst P (sym (loaded_are t b text bytes s))
    (segments_by (length file) t b (nat_lt 0 b) refl (omega (arith, n)) s.below s.memory)

memory_by : (t b : ℕ) (some : Bool) → 116 + t + b ≤ 16777216
    → first_fault (memory_from 0 (text_segment t ∷ (if some then data_segment t b ∷ [] else []))) ≡ None
memory_by t b false memory =
    let text : nat_le (0 + (116 + t)) 16777216 ≡ true = le-leb _ _ (omega arith) in rw text refl
memory_by t b true memory =
    let text : nat_le (0 + (116 + t)) 16777216 ≡ true = le-leb _ _ (omega arith) in
    let data_fits : nat_le (0 + (116 + t) + b) 16777216 ≡ true = le-leb _ _ (omega arith) in
    rw (text, data_fits) refl

memory_passes : (t b : ℕ) (text bytes : List ℕ) → Sizes t b text bytes → first_fault (by_earlier memory_check (loaded (laid t b text bytes))) ≡ None
memory_passes t b text bytes s =
    let P : List ProgramHeader → Type 0 = λ hs. first_fault (memory_from 0 hs) ≡ None in
    ap first_fault (by_earlier-memory (loaded (laid t b text bytes)))
    ∙ subst P (sym (loaded_are t b text bytes s)) (memory_by t b (nat_lt 0 b) s.memory)

pub sections_pass : (t b : ℕ) (text bytes : List ℕ) → Sizes t b text bytes
    → first_fault (map (section_check (length (laid t b text bytes))) (section_headers (laid t b text bytes))) ≡ None
sections_pass t b text bytes s =
    let file = laid t b text bytes in
    let n = length-laid t b text bytes s in
    let text_in : nat_le (116 + t) (length file) ≡ true = le-leb _ _ (omega (arith, n)) in
    let data_in : nat_le (116 + t + b) (length file) ≡ true = le-leb _ _ (omega (arith, n)) in
    let names_in : nat_le (116 + t + b + 23) (length file) ≡ true = le-leb _ _ (omega (arith, n)) in
    let at = 139 + t + b in
    let size = length file in
    let P : List SectionHeader → Type 0 = λ hs. first_fault (map (section_check (length file)) hs) ≡ None in
    let one : section_fits size (text_section at t) ≡ true = rw text_in refl in
    let two : section_fits size (data_section at t b) ≡ true = rw data_in refl in
    let three : section_fits size (names_section at t b) ≡ true = rw names_in refl in
    subst P (sym (section_headers_are t b text bytes s))
    (passes (section_check size (text_section at t)) (section_check size (data_section at t b) ∷ section_check size (names_section at t b) ∷ []) one
    (passes (section_check size (data_section at t b)) (section_check size (names_section at t b) ∷ []) two
    (passes (section_check size (names_section at t b)) [] three refl)))

-- what stands between other bytes
pub middle : (p x q : List ℕ) (n m : ℕ) → length p ≡ n → length x ≡ m → take m (drop n (p ++ (x ++ q))) ≡ x
middle p x q n m e f =
    let d : drop n (p ++ (x ++ q)) ≡ x ++ q = rw (← e) (drop-append_seam p (x ++ q)) in
    let k : take m (x ++ q) ≡ x = rw (← f) (take-append_seam x q) in
    ap (take m) d ∙ k

regrouped_names : (a w d n s : List ℕ) → a ++ (w ++ (d ++ (n ++ s))) ≡ (a ++ (w ++ d)) ++ (n ++ s)
regrouped_names a w d n s = simp append_assoc

names_bytes : (t b : ℕ) (text bytes : List ℕ) → Sizes t b text bytes → take 23 (drop (116 + t + b) (laid t b text bytes)) ≡ plain_names
names_bytes t b text bytes s =
    let a = elf_header (139 + t + b) 4 ++ segment_headers t b in
    let front : length a ≡ 116 = refl in
    let long = length-append a (text ++ bytes) in
    let inner = length-append text bytes in
    ap (λ (file : List ℕ). take 23 (drop (116 + t + b) file)) (regrouped_names a text bytes plain_names (plain_sections t b))
    ∙ middle (a ++ (text ++ bytes)) plain_names (plain_sections t b) (116 + t + b) 23 (omega (arith, front, long, inner, s.text_size, s.bytes_size)) refl

pub names_at : (t b : ℕ) (text bytes : List ℕ) (at : ℕ) → Sizes t b text bytes
    → section_bytes (laid t b text bytes) (record (names_section 0 t b) { place = at }) ≡ plain_names
names_at t b text bytes at s =
    let within : nat_lt (length (laid t b text bytes)) (116 + t + b + 23) ≡ false =
    le-ltb _ _ (omega (arith, length-laid t b text bytes s)) in
    rw within (names_bytes t b text bytes s)

-- where the names' header stands
abbrev names_place : ℕ → ℕ → List ℕ → List ℕ → ℕ
names_place t b text bytes = u32_at (laid t b text bytes) 32 + 120

pub names_header_read : (t b : ℕ) (text bytes : List ℕ) → Sizes t b text bytes
    → names_header (laid t b text bytes) ≡ record (names_section 0 t b) { place = names_place t b text bytes }
unfolding u16_at
names_header_read t b text bytes s =
    names_header_is t b text bytes (names_place t b text bytes) s (omega (arith, place_read t b text bytes s))

pub names_are : (t b : ℕ) (text bytes : List ℕ) → Sizes t b text bytes → names (laid t b text bytes) ≡ plain_names
names_are t b text bytes s =
    ap (section_bytes (laid t b text bytes)) (names_header_read t b text bytes s) ∙ names_at t b text bytes (names_place t b text bytes) s

-- the names' checks, by the header, the bytes and the sections
abbrev names_by : SectionHeader → List ℕ → List SectionHeader → Option ElfFault
names_by h table hs = first_fault (check (not (h.kind == 8)) kind.Section h.place ∷ map (name_check table) hs)

names_computed : (t b at : ℕ) → names_by (record (names_section 0 t b) { place = at }) plain_names (section_rows t b) ≡ None
unfolding name_at
names_computed t b at = refl

names_pass : (t b : ℕ) (text bytes : List ℕ) → Sizes t b text bytes → first_fault (name_checks (laid t b text bytes)) ≡ None
unfolding u16_at
names_pass t b text bytes s =
    let file = laid t b text bytes in
    ap (λ (h : SectionHeader). names_by h (names file) (section_headers file)) (names_header_read t b text bytes s)
    ∙ ap (λ (table : List ℕ). names_by (record (names_section 0 t b) { place = names_place t b text bytes }) table (section_headers file)) (names_are t b text bytes s)
    ∙ ap (λ (hs : List SectionHeader). names_by (record (names_section 0 t b) { place = names_place t b text bytes }) plain_names hs) (section_headers_are t b text bytes s)
    ∙ names_computed t b (names_place t b text bytes)

pub text_headers_are : (t b : ℕ) (text bytes : List ℕ) → Sizes t b text bytes
    → text_headers (laid t b text bytes) ≡ text_section (139 + t + b) t ∷ []
text_headers_are t b text bytes s =
    let some : nat_lt 0 t ≡ true = lt-ltb 0 t s.some in rw (section_headers_are t b text bytes s, some) refl

text_by : (t at : ℕ) (others : List ProgramHeader) → t % 4 ≡ 0
    → first_fault (by_earlier (text_check (text_segment t ∷ others)) (text_section at t ∷ [])) ≡ None
text_by t at others whole =
    let four : (t % 4 == 0) ≡ true = eq-eqb _ _ whole in
    let held : nat_le (0x10074 + t) (0x10000 + (116 + t)) ≡ true = le-leb _ _ (omega arith) in
    rw (four, held) refl

text_passes : (t b : ℕ) (text bytes : List ℕ) → Sizes t b text bytes
    → first_fault (by_earlier (text_check (loaded (laid t b text bytes))) (text_headers (laid t b text bytes))) ≡ None
text_passes t b text bytes s =
    rw (loaded_are t b text bytes s, text_headers_are t b text bytes s) (text_by t (139 + t + b) (data_loaded t b) s.whole)

entry_by : (t at place : ℕ) → 0 < t
    → first_fault (check true kind.Text place ∷ check (nat_lt 0x10074 (0x10074 + t) || false) kind.Entry 24 ∷ []) ≡ None
entry_by t at place some =
    let within : nat_lt 0x10074 (0x10074 + t) ≡ true = lt-ltb _ _ (omega arith) in rw within refl

entry_passes : (t b : ℕ) (text bytes : List ℕ) → Sizes t b text bytes
    → first_fault (entry_checks (file_header (laid t b text bytes)) (text_headers (laid t b text bytes))) ≡ None
entry_passes t b text bytes s =
    rw (text_headers_are t b text bytes s)
    (ap (λ (h : FileHeader). first_fault (entry_checks h (text_section (139 + t + b) t ∷ []))) (file_header_is t b text bytes s)
    ∙ entry_by t 0 (139 + t + b) s.some)

named_passes : (t b : ℕ) (text bytes : List ℕ)
    → first_fault (check (((file_header (laid t b text bytes)).section_names == 0) || nat_lt (file_header (laid t b text bytes)).section_names (file_header (laid t b text bytes)).section_header_count) kind.Section 50 ∷ []) ≡ None
unfolding u16_at
named_passes t b text bytes = refl

pub laid_accepted : (t b : ℕ) (text bytes : List ℕ) → Sizes t b text bytes → fault_of (laid t b text bytes) ≡ None
laid_accepted t b text bytes s =
    fault_of-stages (laid t b text bytes)
    ∙ none_both _ _ (size_passes t b text bytes s)
    (none_both _ _ (header_passes t b text bytes s)
    (none_both _ _ (segments_pass t b text bytes s)
    (none_both _ _ (memory_passes t b text bytes s)
    (none_both _ _ (named_passes t b text bytes)
    (none_both _ _ (sections_pass t b text bytes s)
    (none_both _ _ (names_pass t b text bytes s)
    (none_both _ _ (text_passes t b text bytes s) (entry_passes t b text bytes s))))))))
