-- What the rules of a frame say of its caller (DWARF 5, section 6.4.1 "Structure of Call Frame Information" and section 6.4.4 "Call Frame Calling Address").
use Rattle.std.specs.Prelude.{ℕ, ◌+◌, ◌-◌, ◌%◌, ◌^◌, ◌==◌, ◌&&◌, Bool, true, false, nat_lt, List, [], ◌∷◌, map, slice_index, slice_index_or, Option, None, Some, option_and_then, Result, Ok, Err, IfOk, IfSome, if◌then◌else◌}
use Rattle.std.specs.Option.{option_map}
use Rattle.std.specs.List.{range_with_len}
use Rattle.elf32_read.specs.Program.{Program, in_text}
use Rattle.dwarf_frames.specs.declared.rules.Rules.{Rules}
use Rattle.dwarf_frames.specs.declared.rules.CfaRule.{CfaRule}
use Rattle.dwarf_frames.specs.declared.rules.RegisterRule.{RegisterRule}
use Rattle.dwarf_frames.specs.declared.rules.RegisterRule.TheVariants.{Unspecified, Undefined, SameValue, Offset, ValOffset, Register}
use Rattle.dwarf_frames.specs.declared.fault.FrameFault.{FrameFault}
use Rattle.frame_walk.specs.declared.context.Context.{Context}
use Rattle.dwarf_frames.specs.Within.{AreWithin}
use Rattle.frame_walk.specs.Memory.{data_bytes, word_at}

-- the value of a CFA rule over x0 to x31
abbrev pub cfa_value : List ℕ → CfaRule → ℕ
cfa_value registers rule = (slice_index registers rule.register + rule.offset) % 2 ^ 32

-- the CFA by what covers a frame: none where that has a fault; x2, the stack pointer, where nothing covers it
abbrev pub cfa_by : List ℕ → Result (Option Rules) FrameFault → Option ℕ
cfa_by registers (Err fault) = None
cfa_by registers (Ok None) = Some (slice_index registers 2)
cfa_by registers (Ok (Some rules)) = Some (cfa_value registers rules.cfa)

-- The value that a register has in the caller; none where it stands in a word that can't be read. A register without a rule
-- keeps its value, but x2 becomes the CFA.
abbrev pub value_by : (ℕ → Option ℕ) → List ℕ → ℕ → ℕ → RegisterRule → Option ℕ
value_by bytes registers cfa n Unspecified = Some (if n == 2 then cfa else slice_index registers n)
value_by bytes registers cfa n Undefined = Some (slice_index registers n)
value_by bytes registers cfa n SameValue = Some (slice_index registers n)
value_by bytes registers cfa n (Offset k) = word_at bytes ((cfa + k) % 2 ^ 32)
value_by bytes registers cfa n (ValOffset k) = Some ((cfa + k) % 2 ^ 32)
value_by bytes registers cfa n (Register m) = Some (slice_index registers m)

-- the rule of a register
abbrev pub rule_of : Rules → ℕ → RegisterRule
rule_of rules n = slice_index_or rules.registers n Unspecified

-- the values, if all are there
abbrev pub all_of : List (Option ℕ) → Option (List ℕ)
all_of [] = Some []
all_of (value ∷ values) = option_and_then (λ x. option_map (λ xs. x ∷ xs) (all_of values)) value

-- the values at the numbers below this one, if all are there
unfoldable pub all_below : ℕ → (ℕ → Option ℕ) → Option (List ℕ)
all_below end value = all_of (map value (range_with_len 0 end))

-- x0 to x31 in the caller, where each word that the rules name can be read
abbrev pub caller_registers : (ℕ → Option ℕ) → List ℕ → ℕ → Rules → Option (List ℕ)
caller_registers bytes registers cfa rules = all_below 32 (λ n. value_by bytes registers cfa n (rule_of rules n))

abbrev pub is_undefined : RegisterRule → Bool
is_undefined Undefined = true
is_undefined _ = false

-- the first frame has called none; any other one's CFA is above that of the frame that it called
abbrev pub is_above : Option ℕ → ℕ → Bool
is_above None cfa = true
is_above (Some inner) cfa = nat_lt inner cfa

-- The frame that goes on at a return address, if an instruction stands there. It is looked up at the byte before, which belongs to
-- the call.
abbrev pub returned : Program → ℕ → List ℕ → ℕ → Option Context
returned image inner registers pc =
    if (pc % 4 == 0) && in_text image pc then Some (record {
      pc = pc;
      lookup = (pc + (2 ^ 32 - 1)) % 2 ^ 32;
      registers = registers;
      inner_cfa = Some inner;
    }) else None

-- the return address is the value that the register of the return column has in the caller
abbrev pub returned_by : Program → ℕ → Rules → List ℕ → Option Context
returned_by image inner rules registers =
    if is_undefined (rule_of rules rules.return_column) then None
    else returned image inner registers (slice_index registers rules.return_column)

-- the frame that called a frame, by what covers that one; without rules the return address is x1
abbrev pub caller_by : Program → (ℕ → Option ℕ) → Context → Result (Option Rules) FrameFault → Option Context
caller_by image bytes frame (Err fault) = None
caller_by image bytes frame (Ok None) =
    if is_above frame.inner_cfa (slice_index frame.registers 2)
    then returned image (slice_index frame.registers 2) frame.registers (slice_index frame.registers 1)
    else None
caller_by image bytes frame (Ok (Some rules)) =
    if is_above frame.inner_cfa (cfa_value frame.registers rules.cfa)
    then option_and_then (returned_by image (cfa_value frame.registers rules.cfa) rules) (caller_registers (data_bytes image bytes) frame.registers (cfa_value frame.registers rules.cfa) rules)
    else None

-- the rules that cover a frame, if there are any, speak of x0 to x31 alone
abbrev pub AreCovered : Result (Option Rules) FrameFault → Type 0
AreCovered found = IfOk found (λ rules. IfSome rules AreWithin)
