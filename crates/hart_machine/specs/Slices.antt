-- Windows of words that a hart executes apart from the machine, and what it brings back.
use Rattle.std.specs.Prelude.{◌≡◌, ◌<◌, ◌≤◌, ℕ, zero, suc, ◌+◌, ◌-◌, ◌/◌, ◌^◌, min, false, List, [], ◌∷◌, Option, Some, None, IsSome, slice_get}
use Rattle.rv_exec.specs.Registers.{Registers}
use Rattle.rv_exec.specs.declared.effect.Stepped.TheVariants as stepped
use Rattle.reg_slices.specs.Slices.{SliceOf}
pub use Rattle.text_words.specs.Words.{AreStored}
use Rattle.text_words.specs.Words.{Words, stored, shown, is_planted}
use Rattle.hart_machine.specs.declared.hart.Core.{Core}
use Rattle.hart_machine.specs.Patched.{Patched}
use Rattle.hart_machine.specs.Copying.{with_core}
use Rattle.hart_machine.specs.Stepping.{Steps}

abbrev pub word_then : Option ℕ → List ℕ → List ℕ
word_then None ws = []
word_then (Some w) ws = w ∷ ws

-- the stored words from an address on, as many of n as stand in text without a gap
abbrev pub words_from : Words → ℕ → ℕ → List ℕ
words_from t addr zero = []
words_from t addr (suc n) = word_then (stored t addr) (words_from t (addr + 4) n)

-- how many words may stand in a window that begins at an address: at most 64, and none past the last address
abbrev pub window_room : ℕ → ℕ
window_room at = min 64 ((2 ^ 32 - 1 - at) / 4 + 1)

abbrev pub window : Words → ℕ → List ℕ
window t at = words_from t at (window_room at)

-- other registers, after n more instructions; the count stands still at the greatest of its type
abbrev pub taken_core : Core → ℕ → Registers → Core
taken_core c n r = record c { regs = r; retired = min (c.retired + n) (2 ^ 64 - 1) }

-- hart h has these registers, n more instructions are counted, and nothing else changes
abbrev pub TakesSlice : Patched → ℕ → ℕ → Registers → Patched → Type 0
TakesSlice old h n r new = (c : Core) → slice_get old.cores h ≡ Some c → new ≡ with_core old h (taken_core c n r)

-- Hart h executed n instructions of the window at its pc, each of which touches registers alone; n is the greatest number up to
-- the limit, and nothing else changes.
pub record StretchOf (old : Patched) (h limit n : ℕ) (new : Patched) (c : Core) : Type 0 where
  pub after : Registers
  pub leads : SliceOf c.regs c.regs.pc (window old.text c.regs.pc) n after
  pub greatest : (k : ℕ) (r : Registers) → k ≤ limit → SliceOf c.regs c.regs.pc (window old.text c.regs.pc) k r → k ≤ n
  pub takes : TakesSlice old h n after new

abbrev pub StretchesTo : Patched → ℕ → ℕ → ℕ → Patched → Type 0
StretchesTo old h limit n new = (c : Core) → slice_get old.cores h ≡ Some c → StretchOf old h limit n new c

-- hart h is in no slot and has these registers, and these words are stored from an address on
pub record Fits (m : Patched) (h : ℕ) (r : Registers) (addr : ℕ) (words : List ℕ) : Type 0 where
  pub core : Core
  pub there : slice_get m.cores h ≡ Some core
  pub out : core.entered ≡ None
  pub regs : core.regs ≡ r
  pub stored : AreStored m.text addr words

-- a step of hart h, which is in no slot, by a word of text at which no breakpoint is planted, from a machine of which P holds;
-- it stores nothing
pub record ThenInPlace (P : Patched → Type 0) (h : ℕ) (new : Patched) : Type 0 where
  pub machine : Patched
  pub before : P machine
  pub core : Core
  pub there : slice_get machine.cores h ≡ Some core
  pub out : core.entered ≡ None
  -- pc is a word
  pub low : core.regs.pc < 2 ^ 32
  pub in_text : IsSome (shown machine.text core.regs.pc)
  pub unplanted : is_planted machine.text core.regs.pc ≡ false
  pub step : Steps stepped.Ran machine h new
  pub kept : new.memory ≡ machine.memory

-- n such steps, each of which answered `Ran`
abbrev pub AllInPlace : ℕ → Patched → ℕ → Patched → Type 0
AllInPlace zero old h new = new ≡ old
AllInPlace (suc n) old h new = ThenInPlace (λ m. AllInPlace n old h m) h new
