-- The operations that bytes spell (DWARF 5, section 6.4.2, "Call Frame Instructions", and table 7.29).
use Rattle.std.specs.Prelude.{ℕ, zero, suc, ◌*◌, ◌/◌, ◌%◌, ◌^◌, ◌==◌, List, length, Ok, Err, nat_le, nat_lt, if◌then◌else◌}
use Rattle.leb_read.specs.Leb.{number_at, uleb_at}
use Rattle.dwarf_frames.specs.Reading.{◌>>=◌, Read, found, read, register_at, signed_at, unsigned_at}
use Rattle.dwarf_frames.specs.declared.fault.FrameFault.{FrameFault}
use Rattle.dwarf_frames.specs.declared.fault.FrameFault.TheVariants.{Opcode}
use Rattle.dwarf_frames.specs.declared.operation.Factors.{Factors}
use Rattle.dwarf_frames.specs.declared.operation.Operation.{Operation}
use Rattle.dwarf_frames.specs.declared.operation.Operation.TheVariants.{Nop, Advance, SetLocation, SetRule, Restore, RememberState, RestoreState, SetCfa, SetCfaRegister, SetCfaOffset}
use Rattle.dwarf_frames.specs.declared.rules.RegisterRule.{RegisterRule}
use Rattle.dwarf_frames.specs.declared.rules.RegisterRule.TheVariants.{Undefined, SameValue, Offset, ValOffset, Register}

-- a number times a factor
abbrev pub scaled : ℕ → ℕ → ℕ
scaled n factor = (n * factor) % 2 ^ 32

-- a number times the data factor from the CFA: where the value stands, or the value itself
abbrev pub offset_rule : Factors → ℕ → RegisterRule
offset_rule factors n = Offset (scaled n factors.data_alignment)

abbrev pub val_offset_rule : Factors → ℕ → RegisterRule
val_offset_rule factors n = ValOffset (scaled n factors.data_alignment)

-- the address in four bytes is the location
unfoldable pub set_location_at : List ℕ → ℕ → Read Operation
set_location_at bytes at = do
  r ← read (number_at 4 bytes at)
  found (SetLocation r.0) r.1

abbrev pub advance : Factors → ℕ → Operation
advance factors delta = Advance (scaled delta factors.code_alignment)

-- an advance in a number of bytes
unfoldable pub advance_at : ℕ → Factors → List ℕ → ℕ → Read Operation
advance_at size factors bytes at = do
  r ← read (number_at size bytes at)
  found (advance factors r.0) r.1

-- a register, and the rule that it gets
unfoldable pub set_rule_at : RegisterRule → List ℕ → ℕ → Read Operation
set_rule_at rule bytes at = do
  r ← read (uleb_at bytes at)
  found (SetRule r.0 rule) r.1

-- an offset of a register that is known, which is times the data factor
unfoldable pub offset_at : Factors → ℕ → List ℕ → ℕ → Read Operation
offset_at factors register bytes at = do
  o ← unsigned_at bytes at
  found (SetRule register (offset_rule factors o.0)) o.1

-- a register and its offset
unfoldable pub offset_extended_at : Factors → List ℕ → ℕ → Read Operation
offset_extended_at factors bytes at = do
  r ← read (uleb_at bytes at)
  offset_at factors r.0 bytes r.1

unfoldable pub offset_extended_signed_at : Factors → List ℕ → ℕ → Read Operation
offset_extended_signed_at factors bytes at = do
  r ← read (uleb_at bytes at)
  o ← signed_at bytes r.1
  found (SetRule r.0 (offset_rule factors o.0)) o.1

unfoldable pub val_offset_at : Factors → List ℕ → ℕ → Read Operation
val_offset_at factors bytes at = do
  r ← read (uleb_at bytes at)
  o ← unsigned_at bytes r.1
  found (SetRule r.0 (val_offset_rule factors o.0)) o.1

unfoldable pub val_offset_signed_at : Factors → List ℕ → ℕ → Read Operation
val_offset_signed_at factors bytes at = do
  r ← read (uleb_at bytes at)
  o ← signed_at bytes r.1
  found (SetRule r.0 (val_offset_rule factors o.0)) o.1

-- the value of a register above 31 can't be had
abbrev pub copied_from : ℕ → RegisterRule
copied_from source = if nat_lt source 32 then Register source else Undefined

-- a register and the one whose value it has
unfoldable pub copy_at : List ℕ → ℕ → Read Operation
copy_at bytes at = do
  r ← read (uleb_at bytes at)
  s ← read (uleb_at bytes r.1)
  found (SetRule r.0 (copied_from s.0)) s.1

unfoldable pub restore_at : List ℕ → ℕ → Read Operation
restore_at bytes at = do
  r ← read (uleb_at bytes at)
  found (Restore r.0) r.1

-- the CFA's register and its offset, as it stands
unfoldable pub cfa_at : List ℕ → ℕ → Read Operation
cfa_at bytes at = do
  r ← register_at bytes at
  o ← unsigned_at bytes r.1
  found (SetCfa (record { register = r.0; offset = o.0 })) o.1

-- the CFA's register and its offset, which is times the data factor
unfoldable pub cfa_signed_at : Factors → List ℕ → ℕ → Read Operation
cfa_signed_at factors bytes at = do
  r ← register_at bytes at
  o ← signed_at bytes r.1
  found (SetCfa (record { register = r.0; offset = scaled o.0 factors.data_alignment })) o.1

unfoldable pub cfa_register_at : List ℕ → ℕ → Read Operation
cfa_register_at bytes at = do
  r ← register_at bytes at
  found (SetCfaRegister r.0) r.1

unfoldable pub cfa_offset_at : List ℕ → ℕ → Read Operation
cfa_offset_at bytes at = do
  o ← unsigned_at bytes at
  found (SetCfaOffset o.0) o.1

unfoldable pub cfa_offset_signed_at : Factors → List ℕ → ℕ → Read Operation
cfa_offset_signed_at factors bytes at = do
  o ← signed_at bytes at
  found (SetCfaOffset (scaled o.0 factors.data_alignment)) o.1

-- the operations of the CFA: DW_CFA_def_cfa, _def_cfa_register, _def_cfa_offset, _def_cfa_sf, _def_cfa_offset_sf
unfoldable pub cfa_operation_at : Factors → ℕ → List ℕ → ℕ → Read Operation
cfa_operation_at factors opcode bytes at =
    if opcode == 0x0C then cfa_at bytes at
    else (if opcode == 0x0D then cfa_register_at bytes at
    else (if opcode == 0x0E then cfa_offset_at bytes at
    else (if opcode == 0x12 then cfa_signed_at factors bytes at
    else (if opcode == 0x13 then cfa_offset_signed_at factors bytes at
    else Err Opcode))))

-- the operations of a register: DW_CFA_offset_extended, _restore_extended, _undefined, _same_value, _register,
-- _offset_extended_sf, _val_offset, _val_offset_sf
unfoldable pub register_operation_at : Factors → ℕ → List ℕ → ℕ → Read Operation
register_operation_at factors opcode bytes at =
    if opcode == 0x05 then offset_extended_at factors bytes at
    else (if opcode == 0x06 then restore_at bytes at
    else (if opcode == 0x07 then set_rule_at Undefined bytes at
    else (if opcode == 0x08 then set_rule_at SameValue bytes at
    else (if opcode == 0x09 then copy_at bytes at
    else (if opcode == 0x11 then offset_extended_signed_at factors bytes at
    else (if opcode == 0x14 then val_offset_at factors bytes at
    else (if opcode == 0x15 then val_offset_signed_at factors bytes at
    else cfa_operation_at factors opcode bytes at)))))))

-- the operations whose opcode is the whole byte; first DW_CFA_nop, _set_loc, _advance_loc1, _advance_loc2,
-- _advance_loc4, _remember_state, _restore_state
unfoldable pub whole_operation_at : Factors → ℕ → List ℕ → ℕ → Read Operation
whole_operation_at factors opcode bytes at =
    if opcode == 0x00 then found Nop at
    else (if opcode == 0x01 then set_location_at bytes at
    else (if opcode == 0x02 then advance_at 1 factors bytes at
    else (if opcode == 0x03 then advance_at 2 factors bytes at
    else (if opcode == 0x04 then advance_at 4 factors bytes at
    else (if opcode == 0x0A then found RememberState at
    else (if opcode == 0x0B then found RestoreState at
    else register_operation_at factors opcode bytes at))))))

-- the operation of a byte whose high two bits are the opcode where they aren't 0: DW_CFA_advance_loc, _offset, _restore
unfoldable pub operation_of : Factors → ℕ → List ℕ → ℕ → Read Operation
operation_of factors byte bytes at =
    let low = byte % 64 in
    if byte / 64 == 1 then found (advance factors low) at
    else (if byte / 64 == 2 then offset_at factors low bytes at
    else (if byte / 64 == 3 then found (Restore low) at
    else whole_operation_at factors byte bytes at))

-- the operation at a place, and the place behind it
unfoldable pub operation_at : Factors → List ℕ → ℕ → Read Operation
operation_at factors bytes at = do
  b ← read (number_at 1 bytes at)
  operation_of factors b.0 bytes b.1

-- operations in their order, and the fault behind them where there is one
pub data Operations : Type 0 where
  Ends : Operations
  Fails : FrameFault → Operations
  Then : Operation → Operations → Operations

abbrev pub then_rest : Read Operation → (ℕ → Operations) → Operations
then_rest (Ok r) rest = Then r.0 (rest r.1)
then_rest (Err e) rest = Fails e

-- the operations from a place on, of which there are at most as many as bytes
abbrev pub operations_from : ℕ → Factors → List ℕ → ℕ → Operations
operations_from zero factors bytes at = Ends
operations_from (suc most) factors bytes at =
    if nat_le (length bytes) at then Ends
    else then_rest (operation_at factors bytes at) (operations_from most factors bytes)

unfoldable pub operations : Factors → List ℕ → Operations
operations factors bytes = operations_from (length bytes) factors bytes 0
