-- How the specifications of attributes are kept, by place: those that flags without bytes begin, and where they end. This project's own.
use Rattle.std.specs.Prelude.{◌≡◌, ℕ, ◌+◌, ◌-◌, ◌<◌, ◌≤◌, ◌^◌, ◌*◌, ◌/◌, ◌%◌, ◌==◌, ◌||◌, Bool, true, false, List, [], ◌∷◌, length, get_or, Option, None, Some, Result, Ok, Err, if◌then◌else◌}
use Rattle.debug_info.specs.Abbreviations.{specification_at, specifications_end}
use Rattle.debug_info.specs.Attributes.{values_from, with_value}
use Rattle.debug_info.specs.Reading.{Read, found}
use Rattle.debug_info.specs.declared.abbreviation.Specification.{Specification}
use Rattle.debug_info.specs.declared.attribute.Attributes.{Attributes}
use Rattle.debug_info.specs.declared.fault.InfoFault.{InfoFault}
use Rattle.debug_info.specs.declared.form.Value.{Value}
use Rattle.debug_info.specs.declared.form.Value.TheVariants as value
use Rattle.debug_info.specs.declared.index.Flags.{Flags}
use Rattle.debug_info.specs.declared.index.Index.{Index}
use Rattle.debug_info.specs.declared.index.Run.{Run}

-- attributes with the values that are read behind them
abbrev pub with_values : Attributes → List (ℕ × Value) → Attributes
with_values a [] = a
with_values a (v ∷ vs) = with_values (with_value a v.0 v.1) vs

abbrev pub extended : Attributes → Read (List (ℕ × Value)) → Read Attributes
extended a (Ok (vs, next)) = found (with_values a vs) next
extended a (Err e) = Err e

-- a flag gives an attribute a value that nothing is taken from, unless it has one
abbrev pub or_flag : Option Value → Bool → Option Value
or_flag (Some first) flagged = Some first
or_flag None true = Some value.Opaque
or_flag None false = None

abbrev pub with_flags : Attributes → Flags → Attributes
with_flags a f = record {
  location = or_flag a.location f.location;
  name = or_flag a.name f.name;
  byte_size = or_flag a.byte_size f.byte_size;
  low_pc = or_flag a.low_pc f.low_pc;
  high_pc = or_flag a.high_pc f.high_pc;
  encoding = or_flag a.encoding f.encoding;
  frame_base = or_flag a.frame_base f.frame_base;
  type_of = or_flag a.type_of f.type_of;
}

-- flags as the bits of a number, the first one lowest
abbrev pub bit_of : Bool → ℕ → ℕ
bit_of flag others = if flag then 2 * others + 1 else 2 * others

abbrev pub packed : Flags → ℕ
packed f = bit_of f.location (bit_of f.name (bit_of f.byte_size (bit_of f.low_pc (bit_of f.high_pc (bit_of f.encoding (bit_of f.frame_base (bit_of f.type_of 0)))))))

abbrev pub unpacked : ℕ → Flags
unpacked bits = record {
  location = bits % 2 == 1;
  name = bits / 2 % 2 == 1;
  byte_size = bits / 2 / 2 % 2 == 1;
  low_pc = bits / 2 / 2 / 2 % 2 == 1;
  high_pc = bits / 2 / 2 / 2 / 2 % 2 == 1;
  encoding = bits / 2 / 2 / 2 / 2 / 2 % 2 == 1;
  frame_base = bits / 2 / 2 / 2 / 2 / 2 / 2 % 2 == 1;
  type_of = bits / 2 / 2 / 2 / 2 / 2 / 2 / 2 % 2 == 1;
}

abbrev pub with_flag : Flags → ℕ → Flags
with_flag f name = record {
  location = f.location || (name == 0x02);
  name = f.name || (name == 0x03);
  byte_size = f.byte_size || (name == 0x0B);
  low_pc = f.low_pc || (name == 0x11);
  high_pc = f.high_pc || (name == 0x12);
  encoding = f.encoding || (name == 0x3E);
  frame_base = f.frame_base || (name == 0x40);
  type_of = f.type_of || (name == 0x49);
}

abbrev pub lone_run : ℕ → ℕ → Run
lone_run at last = record { flags = 0; behind = at; last = last }

-- the place behind what is read last
abbrev pub behind_last : Read (Option Specification) → Result ℕ InfoFault
behind_last (Ok (specification, next)) = Ok next
behind_last (Err e) = Err e

-- what is kept of a place: entries are read by the flags and the specifications behind them as by the specifications there
pub record IsRun (abbrevs : List ℕ) (at : ℕ) (run : Run) : Type 0 where
  pub end : behind_last (specification_at abbrevs run.last) ≡ specifications_end (length abbrevs + 1) abbrevs at
  pub last : run.last ≤ length abbrevs
  pub behind : at ≤ run.behind
  pub within : run.behind ≤ length abbrevs
  pub same : (strs info : List ℕ) (a : Attributes) (from : ℕ) → extended a (values_from (length abbrevs + 1) abbrevs strs info at from)
      ≡ extended (with_flags a (unpacked run.flags)) (values_from (length abbrevs + 1) abbrevs strs info run.behind from)

-- runs of the last places, the last place's first
abbrev pub AreRuns : List ℕ → List Run → Type 0
AreRuns abbrevs runs = (k : ℕ) (d : Run) → k < length runs → IsRun abbrevs (length abbrevs - k) (get_or runs k d)

pub record IsIndex (abbrevs : List ℕ) (index : Index) : Type 0 where
  pub runs : AreRuns abbrevs index.runs.items
  pub count : length index.runs.items ≡ length abbrevs + 1
  pub short : length abbrevs < 2 ^ 32
