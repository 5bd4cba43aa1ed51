-- The values of attributes, by their forms (DWARF 4, sections 7.5.4 and 7.5.5; DWARF 2 and 3 have no others).
use Rattle.std.specs.Prelude.{ℕ, ℤ, pos, negsuc, List, [], ◌∷◌, slice_range, Option, None, Some, Err}
use Rattle.leb_read.specs.Forms.{form_of, number_by}
use Rattle.leb_read.specs.Leb.{behind_run, number_at, sleb_at, text_at}
use Rattle.leb_read.specs.declared.forms.Form.{Form}
use Rattle.leb_read.specs.declared.forms.Form.TheVariants as form
use Rattle.leb_read.specs.declared.forms.Width.{Width}
use Rattle.leb_read.specs.declared.forms.Width.TheVariants.{Variable}
use Rattle.debug_info.specs.Reading.{◌>>=◌, Read, found, read}
use Rattle.debug_info.specs.Expressions.{only_operation}
use Rattle.debug_info.specs.declared.fault.InfoFault.TheVariants as fault
use Rattle.debug_info.specs.declared.form.Value.{Value}
use Rattle.debug_info.specs.declared.form.Value.TheVariants as value
use Rattle.debug_info.specs.declared.form.TextPlace.{TextPlace}
use Rattle.debug_info.specs.declared.form.TextPlace.TheVariants as place

-- a length, and so many bytes, whose only operation counts
unfoldable pub block_at : Width → List ℕ → ℕ → Read Value
block_at width bytes at = do
  size ← read (number_by width bytes at)
  past ← read (behind_run size.0 bytes size.1)
  found (value.Block (only_operation (slice_range bytes size.1 past))) past

-- an empty text says nothing
abbrev pub text_value : List ℕ → TextPlace → Value
text_value [] at = value.Opaque
text_value (b ∷ bs) at = value.Text at

-- an offset into .debug_str, where a text stands that has its zero byte
unfoldable pub shared_at : List ℕ → List ℕ → ℕ → Read Value
shared_at strs bytes at = do
  offset ← read (number_at 4 bytes at)
  text ← read (text_at strs offset.0)
  found (text_value text.0 (place.Shared (record { at = offset.0 }))) offset.1

-- a negative number counts nothing
abbrev pub signed_constant : ℤ → Value
signed_constant (pos n) = value.Constant n
signed_constant (negsuc n) = value.Opaque

-- the value of a form; of flags, of references out of the unit and of offsets into other sections nothing is taken
unfoldable pub value_by : Form → List ℕ → List ℕ → ℕ → Read Value
value_by form.Address strs bytes at = do
  address ← read (number_at 4 bytes at)
  found (value.Address address.0) address.1
value_by (form.Constant width) strs bytes at = do
  number ← read (number_by width bytes at)
  found (value.Constant number.0) number.1
value_by form.SignedConstant strs bytes at = do
  number ← read (sleb_at bytes at)
  found (signed_constant number.0) number.1
value_by (form.Block width) strs bytes at = block_at width bytes at
value_by form.Expression strs bytes at = block_at Variable bytes at
value_by form.Inline strs bytes at = do
  text ← read (text_at bytes at)
  found (text_value text.0 (place.Inline (record { at = at }))) text.1
value_by form.Shared strs bytes at = shared_at strs bytes at
value_by (form.Reference width) strs bytes at = do
  offset ← read (number_by width bytes at)
  found (value.Reference offset.0) offset.1
value_by (form.Opaque size) strs bytes at = do
  next ← read (behind_run size bytes at)
  found value.Opaque next
value_by form.LongConstant strs bytes at = Err fault.Form
value_by form.LineShared strs bytes at = Err fault.Form

abbrev pub value_of : Option Form → List ℕ → List ℕ → ℕ → Read Value
value_of None strs bytes at = Err fault.Form
value_of (Some form) strs bytes at = value_by form strs bytes at

-- the value of the form of a code
unfoldable pub value_at : ℕ → List ℕ → List ℕ → ℕ → Read Value
value_at code strs bytes at = value_of (form_of code) strs bytes at
