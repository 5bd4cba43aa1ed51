-- Tables of abbreviations (DWARF 4, section 7.5.3).
use Rattle.std.specs.Prelude.{ℕ, zero, suc, ◌+◌, ◌==◌, ◌&&◌, not, List, length, Option, None, Some, Result, Ok, Err, if◌then◌else◌}
use Rattle.leb_read.specs.Leb.{number_at, uleb_at}
use Rattle.debug_info.specs.Reading.{◌>>=◌, Read, found, read}
use Rattle.debug_info.specs.declared.abbreviation.Declaration.{Declaration}
use Rattle.debug_info.specs.declared.abbreviation.Specification.{Specification}
use Rattle.debug_info.specs.declared.fault.InfoFault.{InfoFault}
use Rattle.debug_info.specs.declared.fault.InfoFault.TheVariants as fault

-- the name and the form of an attribute; two zeros end them
unfoldable pub specification_at : List ℕ → ℕ → Read (Option Specification)
specification_at abbrevs at = do
  name ← read (uleb_at abbrevs at)
  form ← read (uleb_at abbrevs name.1)
  if (name.0 == 0) && (form.0 == 0) then found None form.1 else found (Some (record { name = name.0; form = form.0 })) form.1

abbrev pub end_or : (ℕ → Result ℕ InfoFault) → Option Specification × ℕ → Result ℕ InfoFault
end_or rest (None, next) = Ok next
end_or rest (Some specification, next) = rest next

-- the place behind the specifications, of which there are no more than bytes
abbrev pub specifications_end : ℕ → List ℕ → ℕ → Result ℕ InfoFault
specifications_end zero abbrevs at = Err fault.Short
specifications_end (suc most) abbrevs at = specification_at abbrevs at >>= end_or (specifications_end most abbrevs)

-- a declaration with its code; code 0 ends the table
unfoldable pub declaration_at : List ℕ → ℕ → Read (Option (ℕ × Declaration))
declaration_at abbrevs at = do
  code ← read (uleb_at abbrevs at)
  if code.0 == 0 then found None code.1 else (do
    tag ← read (uleb_at abbrevs code.1)
    children ← read (number_at 1 abbrevs tag.1)
    end ← specifications_end (length abbrevs + 1) abbrevs children.1
    found (Some (code.0, record { tag = tag.0; has_children = not (children.0 == 0); attributes = record { at = children.1 } })) end)

abbrev pub where_code : ℕ → (ℕ → Result Declaration InfoFault) → Option (ℕ × Declaration) × ℕ → Result Declaration InfoFault
where_code code rest (None, next) = Err fault.Abbrev
where_code code rest (Some (other, declaration), next) = if other == code then Ok declaration else rest next

-- the first declaration of a code in the table at a place, which is read up to there
abbrev pub abbreviation_of : ℕ → List ℕ → ℕ → ℕ → Result Declaration InfoFault
abbreviation_of zero abbrevs code at = Err fault.Short
abbreviation_of (suc most) abbrevs code at = declaration_at abbrevs at >>= where_code code (abbreviation_of most abbrevs code)
