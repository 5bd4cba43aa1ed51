-- What the readers promise beside their values: places go on within the bytes, and registers are x0 to x31.
use Rattle.std.specs.Prelude.{◌≡◌, ℕ, ◌<◌, ◌≤◌, ⊤, List, length, All}
use Rattle.dwarf_frames.specs.declared.operation.Operation.{Operation}
use Rattle.dwarf_frames.specs.declared.operation.Operation.TheVariants.{Nop, Advance, SetLocation, SetRule, Restore, RememberState, RestoreState, SetCfa, SetCfaRegister, SetCfaOffset}
use Rattle.dwarf_frames.specs.declared.rules.Rules.{Rules}
use Rattle.dwarf_frames.specs.declared.rules.RegisterRule.{RegisterRule}
use Rattle.dwarf_frames.specs.declared.rules.RegisterRule.TheVariants.{Unspecified, Undefined, SameValue, Offset, ValOffset, Register}

-- a register that a rule names is there
abbrev pub NamesRegister : RegisterRule → Type 0
NamesRegister Unspecified = ⊤
NamesRegister Undefined = ⊤
NamesRegister SameValue = ⊤
NamesRegister (Offset n) = ⊤
NamesRegister (ValOffset n) = ⊤
NamesRegister (Register n) = n < 32

-- the rules speak of the registers x0 to x31 alone
pub record AreWithin (rules : Rules) : Type 0 where
  pub cfa : rules.cfa.register < 32
  pub return_column : rules.return_column < 32
  pub registers : length rules.registers ≡ 32
  pub named : All NamesRegister rules.registers

-- so do those that an operation gives
abbrev pub IsWithin : Operation → Type 0
IsWithin Nop = ⊤
IsWithin (Advance delta) = ⊤
IsWithin (SetLocation address) = ⊤
IsWithin (SetRule register rule) = NamesRegister rule
IsWithin (Restore register) = ⊤
IsWithin RememberState = ⊤
IsWithin RestoreState = ⊤
IsWithin (SetCfa cfa) = cfa.register < 32
IsWithin (SetCfaRegister register) = register < 32
IsWithin (SetCfaOffset offset) = ⊤

-- the place behind an operation's operands stands no further than the end
pub record IsFound (bytes : List ℕ) (at : ℕ) (o : Operation) (next : ℕ) : Type 0 where
  pub behind : at ≤ next
  pub within : next ≤ length bytes
  pub operation : IsWithin o
