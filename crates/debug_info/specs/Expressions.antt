-- Expressions of exactly one operation (DWARF 4, sections 2.5.1, 2.6.1.1.2 and 7.7.1, figure 24).
use Rattle.std.specs.Prelude.{ℕ, ◌-◌, ◌==◌, nat_le, ◌&&◌, List, [], ◌∷◌, length, Option, None, Some, Ok, Err, if◌then◌else◌}
use Rattle.std.specs.Option.{option_map}
use Rattle.leb_read.specs.Leb.{Read, number_at, sleb_at}
use Rattle.debug_info.specs.declared.expression.Base.{Base}
use Rattle.debug_info.specs.declared.expression.Base.TheVariants as base
use Rattle.debug_info.specs.declared.expression.Operation.{Operation}
use Rattle.debug_info.specs.declared.expression.Operation.TheVariants.{Address, FrameOffset, Register, RegisterOffset, CallFrameCfa}
use Rattle.debug_info.specs.declared.expression.Place.{Place}
use Rattle.debug_info.specs.declared.expression.Place.TheVariants as place

-- an operand that ends where the expression does
abbrev pub operand : {A : Type 0} → Read A → List ℕ → Option A
operand (Ok r) block = if r.1 == length block then Some r.0 else None
operand (Err e) block = None

-- an operation without operands
abbrev pub alone : Operation → List ℕ → Option Operation
alone operation block = if length block == 1 then Some operation else None

-- DW_OP_addr, DW_OP_reg0 to reg31, DW_OP_breg0 to breg31, DW_OP_fbreg and DW_OP_call_frame_cfa
abbrev pub operation_by : ℕ → List ℕ → Option Operation
operation_by code block =
    if code == 0x03 then option_map Address (operand (number_at 4 block 1) block)
    else (if nat_le 0x50 code && nat_le code 0x6F then alone (Register (code - 0x50)) block
    else (if nat_le 0x70 code && nat_le code 0x8F then option_map (RegisterOffset (code - 0x70)) (operand (sleb_at block 1) block)
    else (if code == 0x91 then option_map FrameOffset (operand (sleb_at block 1) block)
    else (if code == 0x9C then alone CallFrameCfa block
    else None))))

unfoldable pub only_operation : List ℕ → Option Operation
only_operation [] = None
only_operation (code ∷ operands) = operation_by code (code ∷ operands)

-- the place that a location tells
abbrev pub place_of : Option Operation → Place
place_of (Some (Address address)) = place.Fixed address
place_of (Some (FrameOffset offset)) = place.Frame offset
place_of (Some (Register register)) = place.Reg register
place_of _ = place.Absent

-- the base that a function's frame base tells; a register that stands alone is its content
abbrev pub base_of : Option Operation → Base
base_of (Some CallFrameCfa) = base.Cfa
base_of (Some (RegisterOffset register offset)) = base.Plus register offset
base_of (Some (Register register)) = base.Own register
base_of _ = base.Other
