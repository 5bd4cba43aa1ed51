-- The forms of values (DWARF 5, sections 7.5.5 and 7.5.6; of DWARF 4 section 7.5.4), for addresses and offsets of 32 bits.
use Rattle.std.specs.Prelude.{ℕ, ◌==◌, ◌||◌, List, Option, None, Some, Result, Ok, if◌then◌else◌}
use Rattle.leb_read.specs.Leb.{Read, behind_run, number_at, sleb_at, text_at, uleb_at}
use Rattle.leb_read.specs.Reading.{◌>>=◌}
use Rattle.leb_read.specs.declared.fault.Leb.{Leb}
use Rattle.leb_read.specs.declared.forms.Form.{Form}
use Rattle.leb_read.specs.declared.forms.Form.TheVariants as form
use Rattle.leb_read.specs.declared.forms.Width.{Width}
use Rattle.leb_read.specs.declared.forms.Width.TheVariants.{One, Two, Four, Eight, Variable}

-- the forms by their codes
abbrev pub form_of : ℕ → Option Form
form_of code =
    if code == 0x01 then Some form.Address
    else (if code == 0x03 then Some (form.Block Two)
    else (if code == 0x04 then Some (form.Block Four)
    else (if code == 0x05 then Some (form.Constant Two)
    else (if code == 0x06 then Some (form.Constant Four)
    else (if code == 0x07 then Some (form.Constant Eight)
    else (if code == 0x08 then Some form.Inline
    else (if code == 0x09 then Some (form.Block Variable)
    else (if code == 0x0A then Some (form.Block One)
    else (if code == 0x0B then Some (form.Constant One)
    else (if code == 0x0C then Some (form.Opaque 1)
    else (if code == 0x0D then Some form.SignedConstant
    else (if code == 0x0E then Some form.Shared
    else (if code == 0x0F then Some (form.Constant Variable)
    else (if (code == 0x10) || (code == 0x17) then Some (form.Opaque 4)
    else (if code == 0x11 then Some (form.Reference One)
    else (if code == 0x12 then Some (form.Reference Two)
    else (if code == 0x13 then Some (form.Reference Four)
    else (if (code == 0x14) || (code == 0x20) then Some (form.Opaque 8)
    else (if code == 0x15 then Some (form.Reference Variable)
    else (if code == 0x18 then Some form.Expression
    else (if code == 0x19 then Some (form.Opaque 0)
    else (if code == 0x1E then Some form.LongConstant
    else (if code == 0x1F then Some form.LineShared
    else None)))))))))))))))))))))))

-- the unsigned number of a width
unfoldable pub number_by : Width → List ℕ → ℕ → Read ℕ
number_by One bytes at = number_at 1 bytes at
number_by Two bytes at = number_at 2 bytes at
number_by Four bytes at = number_at 4 bytes at
number_by Eight bytes at = number_at 8 bytes at
number_by Variable bytes at = uleb_at bytes at

-- the place behind what is read
abbrev pub behind : {A : Type 0} → Read A → Result ℕ Leb
behind read = read >>= (λ r. Ok r.1)

-- the place behind a length and so many bytes
unfoldable pub behind_block : Width → List ℕ → ℕ → Result ℕ Leb
behind_block width bytes at = number_by width bytes at >>= (λ size. behind_run size.0 bytes size.1)

-- the place behind the value of a form
unfoldable pub behind_form : Form → List ℕ → ℕ → Result ℕ Leb
behind_form form.Address bytes at = behind_run 4 bytes at
behind_form (form.Constant width) bytes at = behind (number_by width bytes at)
behind_form form.SignedConstant bytes at = behind (sleb_at bytes at)
behind_form form.LongConstant bytes at = behind_run 16 bytes at
behind_form (form.Block width) bytes at = behind_block width bytes at
behind_form form.Expression bytes at = behind_block Variable bytes at
behind_form form.Inline bytes at = behind (text_at bytes at)
behind_form form.Shared bytes at = behind_run 4 bytes at
behind_form form.LineShared bytes at = behind_run 4 bytes at
behind_form (form.Reference width) bytes at = behind (number_by width bytes at)
behind_form (form.Opaque size) bytes at = behind_run size bytes at
