-- Numbers and texts at a place in the bytes of debugging information (DWARF 5, sections 7.6, "Variable Length Data",
-- 7.31, "Integer Representation Names", and 7.5.5, "Classes and Forms").
use Rattle.std.specs.Prelude.{◌≡◌, ◌<◌, ◌≤◌, ℕ, ℤ, pos, ◌-ℤ◌, ◌+◌, ◌-◌, ◌*◌, ◌%◌, ◌^◌, ◌==◌, ◌&&◌, ◌||◌, true, false, nat_le, nat_lt, not, Bool, List, [], ◌∷◌, length, take, drop, take_while, slice_index, Result, Ok, Err, if◌then◌else◌}
use Rattle.byteorder.specs.Endian.{little_number}
use Rattle.leb_read.specs.Reading.{Reading, found, read_map}
use Rattle.leb_read.specs.declared.fault.Leb.{Leb}
use Rattle.leb_read.specs.declared.fault.Leb.TheVariants.{Short, Wide}

-- a value and the place behind it, or why there is none
abbrev pub Read : Type 0 → Type 0
Read A = Reading Leb A

-- bit 7 of a byte is set: the number goes on in the next one (DWARF 5, section 7.6)
abbrev pub goes_on : ℕ → Bool
goes_on b = nat_le 128 b

-- how many bytes a number has: those that go on, and the one behind them, which is the tenth at the latest
unfoldable pub leb_length : List ℕ → ℕ
leb_length bytes = length (take_while goes_on (take 9 bytes)) + 1

-- the number whose digits to the base 128 are the low seven bits of the bytes, the lowest first
abbrev pub spelled : List ℕ → ℕ
spelled [] = 0
spelled (b ∷ bs) = b % 128 + 128 * spelled bs

-- bit 6 of a byte
abbrev pub has_sign : ℕ → Bool
has_sign b = nat_le 64 (b % 128)

-- the last byte of a number
abbrev pub last_byte : List ℕ → ℕ
last_byte bytes = slice_index bytes (length bytes - 1)

-- in two's complement of seven bits a byte, where bit 6 of the last byte is the sign
unfoldable pub spelled_signed : List ℕ → ℤ
spelled_signed bytes = if has_sign (last_byte bytes) then pos (spelled bytes) -ℤ pos (2 ^ (7 * length bytes)) else pos (spelled bytes)

-- what a tenth byte may be, so that the number has at most 64 bits
abbrev pub is_tenth_unsigned : ℕ → Bool
is_tenth_unsigned b = nat_le b 1

abbrev pub is_tenth_signed : ℕ → Bool
is_tenth_signed b = (b == 0) || (b == 0x7F)

abbrev pub tenth_of : Bool → ℕ → Bool
tenth_of true = is_tenth_signed
tenth_of false = is_tenth_unsigned

-- a number of ten bytes whose last has more than the bits that are left
abbrev pub is_wide : Bool → List ℕ → Bool
is_wide is_signed number = (length number == 10) && not (tenth_of is_signed (slice_index number 9))

-- the bytes of a number of at most 64 bits
pub record HasFit (is_signed : Bool) (number : List ℕ) : Type 0 where
  pub some : 0 < length number
  pub at_most : length number ≤ 10
  pub narrow : is_wide is_signed number ≡ false

-- the bytes of the number at a place: they end too early, or a tenth is too wide
unfoldable pub leb_at : Bool → List ℕ → ℕ → Read (List ℕ)
leb_at is_signed bytes at =
    let front = drop at bytes in
    let n = leb_length front in
    if nat_lt (length front) n then Err Short
    else (if is_wide is_signed (take n front) then Err Wide else found (take n front) (at + n))

-- an unsigned number at a place (ULEB128)
unfoldable pub uleb_at : List ℕ → ℕ → Read ℕ
uleb_at bytes at = read_map spelled (leb_at false bytes at)

-- a signed number at a place (SLEB128)
unfoldable pub sleb_at : List ℕ → ℕ → Read ℤ
sleb_at bytes at = read_map spelled_signed (leb_at true bytes at)

-- the number in n bytes at a place, the lowest first
unfoldable pub number_at : ℕ → List ℕ → ℕ → Read ℕ
number_at n bytes at =
    if nat_le (at + n) (length bytes) then found (little_number n (drop at bytes)) (at + n) else Err Short

-- the place behind n bytes, where so many are left
unfoldable pub behind_run : ℕ → List ℕ → ℕ → Result ℕ Leb
behind_run n bytes at = if nat_le n (length bytes - at) then Ok (at + n) else Err Short

abbrev pub is_text_byte : ℕ → Bool
is_text_byte b = not (b == 0)

-- the bytes from a place up to the first zero byte, or up to the end
abbrev pub text_from : List ℕ → ℕ → List ℕ
text_from bytes at = take_while is_text_byte (drop at bytes)

-- the bytes from a place up to the first zero byte, and the place behind that
unfoldable pub text_at : List ℕ → ℕ → Read (List ℕ)
text_at bytes at =
    let text = text_from bytes at in
    if nat_lt (length text) (length (drop at bytes)) then found text (at + length text + 1) else Err Short

-- a next place stands behind the place and no further than the end
pub record IsBehind (bytes : List ℕ) (at next : ℕ) : Type 0 where
  pub behind : at < next
  pub within : next ≤ length bytes

-- a next place stands no further to the front than the place, nor behind the end
pub record IsReadTo (bytes : List ℕ) (at next : ℕ) : Type 0 where
  pub behind : at ≤ next
  pub within : next ≤ length bytes

-- a next place stands behind the text at the place and its zero byte, and no further than the end
pub record IsBehindText (bytes : List ℕ) (at : ℕ) (text : List ℕ) (next : ℕ) : Type 0 where
  pub behind : at + length text + 1 ≡ next
  pub within : next ≤ length bytes
