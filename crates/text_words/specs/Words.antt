-- Text as it is stored, with breakpoints planted in it.
use Rattle.std.specs.Prelude.{◌≡◌, ◌<◌, ◌≤◌, ℕ, ◌+◌, ◌-◌, ◌*◌, ◌%◌, ◌^◌, Bool, true, false, List, Option, Some, None, slice_get, refl, if◌then◌else◌}
use Rattle.std.specs.Coded.{Coded, code_by, coded×, coded_ℕ}
use Rattle.std.specs.Option.{option_map}
use Rattle.std.specs.FinMap as map
use Rattle.std.specs.FinSet as set
use Rattle.rv_decode.specs.declared.instr.Instr.{Instr}
use Rattle.rv_decode.specs.Decode.{decode}
use Rattle.rv_exec.specs.declared.operation.Operation.{Operation}
use Rattle.rv_exec.specs.declared.operation.Operation.TheVariants.{Break}
use Rattle.rv_exec.specs.Operations.{flat}
use Rattle.elf32_read.specs.Program.{Program, text_word}
use Rattle.text_words.specs.Tables.{WordMap, AddressSet, words_below}
use Rattle.text_words.specs.declared.fetch.Fetch.{Fetch}
use Rattle.text_words.specs.declared.fetch.Fetch.TheVariants.{Absent, Planted, Illegal, Instruction}

-- the words of the program by their addresses, and the addresses at which a breakpoint is planted
pub record Words : Type 0 where
  pub words : WordMap
  pub planted : AddressSet

abbrev pub words_code : Coded Words
words_code = code_by (WordMap × AddressSet) (coded× (map.code coded_ℕ coded_ℕ) (set.code coded_ℕ)) (λ t. (t.words, t.planted)) (λ p. record { words = p.0; planted = p.1 }) (λ _. refl)

-- EBREAK (RISC-V unprivileged ISA, RV32I instruction listing)
abbrev pub ebreak : ℕ
ebreak = 0x00100073

abbrev pub is_planted : Words → ℕ → Bool
is_planted t addr = set.contains t.planted addr

-- the program's word
abbrev pub shown : Words → ℕ → Option ℕ
shown t addr = map.get t.words addr

-- the word that is executed: EBREAK where a breakpoint is planted
abbrev pub stored : Words → ℕ → Option ℕ
stored t addr = option_map (λ w. if is_planted t addr then ebreak else w) (shown t addr)

-- this word is stored i words after an address, and not past the last address
abbrev pub IsStoredAt : Words → ℕ → ℕ → ℕ → Type 0
IsStoredAt t addr i w = (addr + 4 * i < 2 ^ 32) × (stored t (addr + 4 * i) ≡ Some w)

-- these words are stored one after another from an address on
abbrev pub AreStored : Words → ℕ → List ℕ → Type 0
AreStored t addr words = (i w : ℕ) → slice_get words i ≡ Some w → IsStoredAt t addr i w

-- the stored word where the program has a word and this stands for a hart
abbrev pub stored_as : ℕ → Fetch → ℕ
stored_as w Planted = ebreak
stored_as w Absent = w
stored_as w Illegal = w
stored_as w (Instruction i) = w

abbrev pub decoded_as : Option Instr → Fetch
decoded_as None = Illegal
decoded_as (Some i) = Instruction i

abbrev pub fetched_as : Option ℕ → Bool → Fetch
fetched_as None planted = Absent
fetched_as (Some w) true = Planted
fetched_as (Some w) false = decoded_as (decode w)

-- what stands at an address for a hart that executes it
abbrev pub fetched : Words → ℕ → Fetch
fetched t addr = fetched_as (shown t addr) (is_planted t addr)

-- what stands for a hart, as an operation: that of EBREAK where a breakpoint is planted, and where there is no instruction
abbrev pub operation_of : Fetch → Operation
operation_of (Instruction i) = flat i
operation_of Absent = Break
operation_of Planted = Break
operation_of Illegal = Break

-- an address is that of one of so many words from a start on
abbrev pub IsAmong : ℕ → ℕ → ℕ → Type 0
IsAmong addr start count = (start ≤ addr) × ((addr - start) % 4 ≡ 0) × (addr < start + 4 * count)

-- the text of a program, with no breakpoint
abbrev pub unpatched : Program → Words
unpatched p = record { words = words_below (text_word p) (2 ^ 32); planted = set.empty }
