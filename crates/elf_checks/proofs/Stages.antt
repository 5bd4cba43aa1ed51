-- The checks of a file, stage by stage.
use Rattle.std.proofs.Common.{◌≡◌, ℕ, Bool, true, false, List, [], ◌∷◌, ◌++◌, length, map, Option, None, Some, refl, ◌∙◌, ap}
use Rattle.std.specs.Prelude.{◌==◌, ◌||◌, nat_lt, if◌then◌else◌}
use Rattle.elf32_read.specs.Headers.{file_header, loaded, text_headers, section_headers}
use Rattle.elf_checks.specs.Checks.{Check, check, first_fault, fault_of, size_checks, kind_checks, extent_checks, header_checks, table_checks, by_earlier, segment_check, memory_check, section_check, name_checks, text_check, entry_checks}
use Rattle.elf_checks.specs.declared.fault.ElfKind.TheVariants as kind
use Rattle.elf_checks.specs.declared.fault.ElfFault.{ElfFault}

-- a fault, else what the next stage finds
abbrev pub or_else : Option ElfFault → Option ElfFault → Option ElfFault
or_else None next = next
or_else (Some f) next = Some f

abbrev pub table_fault : List ℕ → Option ElfFault
table_fault bytes =
    let h = file_header bytes in
    or_else (first_fault (by_earlier (segment_check (length bytes)) (loaded bytes)))
    (or_else (first_fault (by_earlier memory_check (loaded bytes)))
    (or_else (first_fault (check ((h.section_names == 0) || nat_lt h.section_names h.section_header_count) kind.Section 50 ∷ []))
    (or_else (first_fault (map (section_check (length bytes)) (section_headers bytes)))
    (or_else (first_fault (name_checks bytes))
    (or_else (first_fault (by_earlier (text_check (loaded bytes)) (text_headers bytes)))
    (first_fault (entry_checks h (text_headers bytes))))))))

one : (holds : Bool) (f : ElfFault) (next later : Option ElfFault)
    → (if holds then or_else next later else Some f) ≡ or_else (if holds then next else Some f) later
one true f next later = refl
one false f next later = refl

-- the first fault of two lists of checks, one after the other
pub first_fault-append : (xs ys : List Check) → first_fault (xs ++ ys) ≡ or_else (first_fault xs) (first_fault ys)
first_fault-append [] ys = refl
first_fault-append (c ∷ cs) ys =
    ap (λ (o : Option ElfFault). if c.holds then o else Some c.fault) (first_fault-append cs ys)
    ∙ one c.holds c.fault (first_fault cs) (first_fault ys)

-- a stage before others
stage : (xs ys : List Check) (o : Option ElfFault) → first_fault ys ≡ o → first_fault (xs ++ ys) ≡ or_else (first_fault xs) o
stage xs ys o e = first_fault-append xs ys ∙ ap (or_else (first_fault xs)) e

pub first_fault-table_checks : (bytes : List ℕ) → first_fault (table_checks bytes) ≡ table_fault bytes
first_fault-table_checks bytes =
    let h = file_header bytes in
    let texts = text_headers bytes in
    let named = check ((h.section_names == 0) || nat_lt h.section_names h.section_header_count) kind.Section 50 ∷ [] in
    let sections = map (section_check (length bytes)) (section_headers bytes) in
    let last = by_earlier (text_check (loaded bytes)) texts ++ entry_checks h texts in
    let later = sections ++ (name_checks bytes ++ last) in
    stage (by_earlier (segment_check (length bytes)) (loaded bytes)) (by_earlier memory_check (loaded bytes) ++ (named ++ later)) _
    (stage (by_earlier memory_check (loaded bytes)) (named ++ later) _
    (stage named later _
    (stage sections (name_checks bytes ++ last) _
    (stage (name_checks bytes) last _
    (stage (by_earlier (text_check (loaded bytes)) texts) (entry_checks h texts) _ refl)))))

-- the size, the header and the tables
pub fault_of-parts : (bytes : List ℕ)
    → fault_of bytes ≡ or_else (first_fault (size_checks bytes)) (or_else (first_fault (header_checks bytes)) (first_fault (table_checks bytes)))
unfolding fault_of
fault_of-parts bytes =
    stage (size_checks bytes) (header_checks bytes ++ table_checks bytes) _
    (stage (header_checks bytes) (table_checks bytes) _ refl)

-- all stages
pub fault_of-stages : (bytes : List ℕ)
    → fault_of bytes ≡ or_else (first_fault (size_checks bytes)) (or_else (first_fault (header_checks bytes)) (table_fault bytes))
fault_of-stages bytes =
    fault_of-parts bytes
    ∙ ap (λ (o : Option ElfFault). or_else (first_fault (size_checks bytes)) (or_else (first_fault (header_checks bytes)) o)) (first_fault-table_checks bytes)

pub first_fault-header_checks : (bytes : List ℕ)
    → first_fault (header_checks bytes) ≡ or_else (first_fault (kind_checks bytes)) (first_fault (extent_checks bytes))
first_fault-header_checks bytes = first_fault-append (kind_checks bytes) (extent_checks bytes)

pub ruleset header = (first_fault-header_checks)

pub ruleset parts = (fault_of-parts)

pub ruleset tables = (first_fault-table_checks)
