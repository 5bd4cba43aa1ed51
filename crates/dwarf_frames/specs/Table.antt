-- The rules of a place, and how operations change them (DWARF 5, section 6.4.1, "Structure of Call Frame Information").
use Rattle.std.specs.Prelude.{ℕ, ◌+◌, ◌-◌, ◌%◌, ◌^◌, List, [], ◌∷◌, ◌++◌, length, take, replicate, slice_get, slice_index_or, slice_set, Option, Some, None, Result, Ok, Err, nat_lt, if◌then◌else◌}
use Rattle.dwarf_frames.specs.Reading.{◌>>=◌}
use Rattle.dwarf_frames.specs.Operations.{Operations, Ends, Fails, Then}
use Rattle.dwarf_frames.specs.declared.fault.FrameFault.{FrameFault}
use Rattle.dwarf_frames.specs.declared.fault.FrameFault.TheVariants.{Depth, Empty}
use Rattle.dwarf_frames.specs.declared.operation.Operation.{Operation}
use Rattle.dwarf_frames.specs.declared.operation.Operation.TheVariants.{Nop, Advance, SetLocation, SetRule, Restore, RememberState, RestoreState, SetCfa, SetCfaRegister, SetCfaOffset}
use Rattle.dwarf_frames.specs.declared.rules.Rules.{Rules}
use Rattle.dwarf_frames.specs.declared.rules.RegisterRule.{RegisterRule}
use Rattle.dwarf_frames.specs.declared.rules.RegisterRule.TheVariants.{Unspecified}

-- before any operation: the CFA is the value of x2, and no register has a rule
abbrev pub first_rules : ℕ → Rules
first_rules return_column =
    record {
      cfa = record { register = 2; offset = 0 };
      return_column = return_column;
      registers = replicate 32 Unspecified;
    }

-- the rule of a register; one above 31 has none
abbrev pub rule_of : Rules → ℕ → RegisterRule
rule_of rules register = slice_index_or rules.registers register Unspecified

-- a rule for a register above 31 is passed over
abbrev pub with_rule : Rules → ℕ → RegisterRule → Rules
with_rule rules register rule =
    if nat_lt register 32 then record rules { registers = slice_set rules.registers register rule } else rules

abbrev pub with_cfa : Rules → ℕ → ℕ → Rules
with_cfa rules register offset = record rules { cfa = record { register = register; offset = offset } }

-- the rules of a place, and those that are remembered, the latest last
pub record State : Type 0 where
  pub rules : Rules
  pub remembered : List Rules

abbrev pub with_rules : State → Rules → State
with_rules s rules = record { rules = rules; remembered = s.remembered }

-- at most eight are remembered at once
abbrev pub remember : State → Result State FrameFault
remember s =
    if nat_lt (length s.remembered) 8 then Ok (record { rules = s.rules; remembered = s.remembered ++ s.rules ∷ [] })
    else Err Depth

-- the rules that are remembered last, and the others stay
abbrev pub recalled : Option Rules → List Rules → Result State FrameFault
recalled None others = Err Empty
recalled (Some rules) others = Ok (record { rules = rules; remembered = others })

abbrev pub recall : State → Result State FrameFault
recall s =
    let others = length s.remembered - 1 in
    recalled (slice_get s.remembered others) (take others s.remembered)

-- an operation under the rules that the CIE gives
abbrev pub apply : Rules → State → Operation → Result State FrameFault
apply initial s Nop = Ok s
apply initial s (Advance delta) = Ok s
apply initial s (SetLocation address) = Ok s
apply initial s (SetRule register rule) = Ok (with_rules s (with_rule s.rules register rule))
apply initial s (Restore register) = Ok (with_rules s (with_rule s.rules register (rule_of initial register)))
apply initial s RememberState = remember s
apply initial s RestoreState = recall s
apply initial s (SetCfa cfa) = Ok (with_rules s (with_cfa s.rules cfa.register cfa.offset))
apply initial s (SetCfaRegister register) = Ok (with_rules s (with_cfa s.rules register s.rules.cfa.offset))
apply initial s (SetCfaOffset offset) = Ok (with_rules s (with_cfa s.rules s.rules.cfa.register offset))

-- the operations in their order, up to the first fault
abbrev pub fold_operations : Rules → State → Operations → Result State FrameFault
fold_operations initial s Ends = Ok s
fold_operations initial s (Fails e) = Err e
fold_operations initial s (Then operation rest) =
    apply initial s operation >>= (λ after. fold_operations initial after rest)

-- the location behind an operation
abbrev pub moved : ℕ → Operation → ℕ
moved location (Advance delta) = (location + delta) % 2 ^ 32
moved location (SetLocation address) = address
moved location other = location

-- the operations up to the first whose location is above pc
abbrev pub operations_until : ℕ → ℕ → Operations → Operations
operations_until pc location Ends = Ends
operations_until pc location (Fails e) = if nat_lt pc location then Ends else Fails e
operations_until pc location (Then operation rest) =
    if nat_lt pc location then Ends
    else Then operation (operations_until pc (moved location operation) rest)
