-- Where a variable is (DWARF 4, sections 2.5.1 and 2.6.1.1), by a hart's registers and the CFA of its frame.
use Rattle.std.specs.Prelude.{ℕ, ℤ, pos, ◌+◌, ◌<◌, ◌%◌, ◌^◌, nat_lt, Option, None, Some, unsigned_abs, if◌then◌else◌}
use Rattle.std.specs.Int.{int_rem_euclid}
use Rattle.std.specs.Option.{option_map}
use Rattle.debug_info.specs.Scope.{Variable}
use Rattle.debug_info.specs.declared.expression.Base.{Base}
use Rattle.debug_info.specs.declared.expression.Base.TheVariants as base
use Rattle.debug_info.specs.declared.expression.Place.{Place}
use Rattle.debug_info.specs.declared.expression.Place.TheVariants as place
use Rattle.var_expr.specs.declared.holder.Holder.{Holder}
use Rattle.var_expr.specs.declared.holder.Holder.TheVariants.{Memory, Register}

-- so many bytes from an address, modulo 2 ^ 32
abbrev pub moved : ℕ → ℤ → ℕ
moved address offset = (address + unsigned_abs (int_rem_euclid offset (pos (2 ^ 32)))) % 2 ^ 32

-- what a register holds, if there is one of that number
abbrev pub register_word : (ℕ → ℕ) → ℕ → Option ℕ
register_word registers n = if nat_lt n 32 then Some (registers n) else None

-- the address that a frame's places are relative to
abbrev pub base_address : (ℕ → ℕ) → Option ℕ → Base → Option ℕ
base_address registers cfa base.Cfa = cfa
base_address registers cfa (base.Plus n offset) = option_map (λ word. moved word offset) (register_word registers n)
base_address registers cfa (base.Own n) = register_word registers n
base_address registers cfa base.Other = None

abbrev pub held_at : (ℕ → ℕ) → Option ℕ → Base → Place → Option Holder
held_at registers cfa b place.Absent = None
held_at registers cfa b (place.Fixed address) = Some (Memory address)
held_at registers cfa b (place.Frame offset) = option_map (λ address. Memory (moved address offset)) (base_address registers cfa b)
held_at registers cfa b (place.Reg n) = if nat_lt n 32 then Some (Register n) else None

-- what holds a variable, if it is anywhere
abbrev pub holder_of : (ℕ → ℕ) → Option ℕ → Variable → Option Holder
holder_of registers cfa v = held_at registers cfa v.base v.place

-- a register's number is one of the 32
abbrev pub IsHolder : Holder → Type 0
IsHolder (Memory address) = Unit {0}
IsHolder (Register n) = n < 32
