-- The attributes of entries, and what they say (DWARF 4, sections 2.2, 2.5.5, 2.6, 2.17, 3.3, 5.1, 7.5.4 and 7.8).
use Rattle.std.specs.Prelude.{ℕ, zero, suc, ◌+◌, ◌^◌, ◌==◌, ◌||◌, nat_lt, Bool, List, [], ◌∷◌, length, min, Option, None, Some, Ok, Err, if◌then◌else◌}
use Rattle.debug_info.specs.Reading.{◌>>=◌, Read, found}
use Rattle.debug_info.specs.Abbreviations.{specification_at}
use Rattle.debug_info.specs.Expressions.{base_of, place_of}
use Rattle.debug_info.specs.Forms.{value_at}
use Rattle.debug_info.specs.declared.abbreviation.Declaration.{Declaration}
use Rattle.debug_info.specs.declared.abbreviation.Specification.{Specification}
use Rattle.debug_info.specs.declared.attribute.Attributes.{Attributes}
use Rattle.debug_info.specs.declared.entry.Entry.{Entry}
use Rattle.debug_info.specs.declared.entry.Kind.{Kind}
use Rattle.debug_info.specs.declared.entry.Kind.TheVariants as kind
use Rattle.debug_info.specs.declared.entry.Range.{Range}
use Rattle.debug_info.specs.declared.entry.Tag.{Tag}
use Rattle.debug_info.specs.declared.entry.Tag.TheVariants as tag
use Rattle.debug_info.specs.declared.expression.Operation.{Operation}
use Rattle.debug_info.specs.declared.fault.InfoFault.TheVariants as fault
use Rattle.debug_info.specs.declared.form.TextPlace.{TextPlace}
use Rattle.debug_info.specs.declared.form.Value.{Value}
use Rattle.debug_info.specs.declared.form.Value.TheVariants as value

-- the entries of units are those of DW_TAG_compile_unit and DW_TAG_partial_unit
abbrev pub tag_of : ℕ → Tag
tag_of code =
    if code == 0x05 then tag.Parameter
    else (if code == 0x0B then tag.Block
    else (if code == 0x0F then tag.Pointer
    else (if (code == 0x11) || (code == 0x3C) then tag.Unit
    else (if code == 0x16 then tag.Typedef
    else (if code == 0x24 then tag.BaseType
    else (if code == 0x26 then tag.Const
    else (if code == 0x2E then tag.Subprogram
    else (if code == 0x34 then tag.Variable
    else (if code == 0x35 then tag.Volatile
    else tag.Other)))))))))

-- the values of an entry's attributes, each with its name, by their specifications in order
abbrev pub value_behind : List ℕ → List ℕ → (ℕ → ℕ → Read (List (ℕ × Value))) → ℕ → Option Specification × ℕ → Read (List (ℕ × Value))
value_behind strs info rest at (None, behind) = found [] at
value_behind strs info rest at (Some s, behind) = do
  v ← value_at s.form strs info at
  others ← rest behind v.1
  found ((s.name, v.0) ∷ others.0) others.1

-- by the specifications from one on, of which there are no more than bytes
abbrev pub values_from : ℕ → List ℕ → List ℕ → List ℕ → ℕ → ℕ → Read (List (ℕ × Value))
values_from zero abbrevs strs info specified at = Err fault.Short
values_from (suc most) abbrevs strs info specified at = specification_at abbrevs specified >>= value_behind strs info (values_from most abbrevs strs info) at

-- the value of a name: of several the first
abbrev pub first_of : ℕ → List (ℕ × Value) → Option Value
first_of name [] = None
first_of name (v ∷ vs) = if v.0 == name then Some v.1 else first_of name vs

-- DW_AT_location, name, byte_size, low_pc, high_pc, encoding, frame_base and type
abbrev pub attributes_of : List (ℕ × Value) → Attributes
attributes_of vs = record {
  location = first_of 0x02 vs;
  name = first_of 0x03 vs;
  byte_size = first_of 0x0B vs;
  low_pc = first_of 0x11 vs;
  high_pc = first_of 0x12 vs;
  encoding = first_of 0x3E vs;
  frame_base = first_of 0x40 vs;
  type_of = first_of 0x49 vs;
}

abbrev pub attributes_by : Read (List (ℕ × Value)) → Read Attributes
attributes_by (Ok (vs, next)) = found (attributes_of vs) next
attributes_by (Err e) = Err e

-- the attributes at a place whose specifications stand at another
abbrev pub attributes_at : List ℕ → List ℕ → List ℕ → ℕ → ℕ → Read Attributes
attributes_at abbrevs strs info specifications at = attributes_by (values_from (length abbrevs + 1) abbrevs strs info specifications at)

-- one value more
abbrev pub or_named : ℕ → Option Value → ℕ → Value → Option Value
or_named code (Some first) name v = Some first
or_named code None name v = if name == code then Some v else None

abbrev pub with_value : Attributes → ℕ → Value → Attributes
with_value a name v = record {
  location = or_named 0x02 a.location name v;
  name = or_named 0x03 a.name name v;
  byte_size = or_named 0x0B a.byte_size name v;
  low_pc = or_named 0x11 a.low_pc name v;
  high_pc = or_named 0x12 a.high_pc name v;
  encoding = or_named 0x3E a.encoding name v;
  frame_base = or_named 0x40 a.frame_base name v;
  type_of = or_named 0x49 a.type_of name v;
}

abbrev pub text_of : Option Value → Option TextPlace
text_of (Some (value.Text place)) = Some place
text_of _ = None

abbrev pub constant_of : Option Value → Option ℕ
constant_of (Some (value.Constant n)) = Some n
constant_of _ = None

-- an offset of 32 bits
abbrev pub reference_of : Option Value → Option ℕ
reference_of (Some (value.Reference offset)) = if nat_lt offset (2 ^ 32) then Some offset else None
reference_of _ = None

abbrev pub expression_of : Option Value → Option Operation
expression_of (Some (value.Block operation)) = operation
expression_of _ = None

-- the high address is one, or a length from the low one
abbrev pub range_of : Option Value → Option Value → Option Range
range_of (Some (value.Address low)) (Some (value.Address high)) = Some (record { low = low; end = high })
range_of (Some (value.Address low)) (Some (value.Constant n)) = Some (record { low = low; end = min (low + n) (2 ^ 32) })
range_of _ _ = None

abbrev pub is_size : ℕ → Bool
is_size n = (n == 1) || ((n == 2) || (n == 4))

-- DW_ATE_signed and signed_char; boolean, unsigned and unsigned_char
abbrev pub basic_kind : Option ℕ → Option ℕ → Kind
basic_kind (Some encoding) (Some n) =
    if is_size n then (if (encoding == 5) || (encoding == 6) then kind.Signed n
    else (if (encoding == 2) || ((encoding == 7) || (encoding == 8)) then kind.Unsigned n
    else kind.Other))
    else kind.Other
basic_kind _ _ = kind.Other

-- an entry by its attributes
abbrev pub entry_of : ℕ → ℕ → Declaration → Attributes → Entry
entry_of offset level declaration a = record {
  offset = offset;
  level = level;
  has_children = declaration.has_children;
  tag = tag_of declaration.tag;
  name = text_of a.name;
  range = range_of a.low_pc a.high_pc;
  place = place_of (expression_of a.location);
  base = base_of (expression_of a.frame_base);
  basic = basic_kind (constant_of a.encoding) (constant_of a.byte_size);
  type_of = reference_of a.type_of;
}
