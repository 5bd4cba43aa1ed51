-- Where names end in a string table.
use Rattle.std.proofs.Common.{◌≡◌, ℕ, Bool, List, [], ◌∷◌, refl, ◌∙◌, ap, map}
use Rattle.std.specs.Prelude.{nat_lt}
use Rattle.elf32_read.specs.Fields.{zero_end}
use Rattle.elf32_read.specs.declared.header.SectionHeader.{SectionHeader}
use Rattle.elf32_read.proofs.Names.{name_ends}
use Rattle.elf_checks.specs.Checks.{Check, check, name_check}
use Rattle.elf_checks.specs.declared.fault.ElfKind.TheVariants as kind

-- a check that a name begins before the last zero byte
abbrev pub end_check : ℕ → SectionHeader → Check
end_check end h = check (nat_lt h.name end) kind.Section h.place

pub ends-map : (table : List ℕ) (hs : List SectionHeader) → map (name_check table) hs ≡ map (end_check (zero_end table)) hs
ends-map table [] = refl
ends-map table (h ∷ hs) =
    let head : name_check table h ≡ end_check (zero_end table) h = ap (λ (t : Bool). check t kind.Section h.place) (name_ends table h.name) in
    ap (λ (c : Check). c ∷ map (name_check table) hs) head ∙ ap (λ (cs : List Check). end_check (zero_end table) h ∷ cs) (ends-map table hs)
