-- Words of text side by side: this project's own notion.
use Rattle.std.specs.Prelude.{◌≡◌, ◌<◌, ℕ, ◌+◌, ◌*◌, ◌^◌, List, length, Some, IsSome, slice_index, slice_index_or}
use Rattle.rv_exec.specs.declared.operation.Operation.{Operation}
use Rattle.rv_exec.specs.declared.operation.Operation.TheVariants.{Break}
use Rattle.text_words.specs.Words.{Words, fetched, operation_of, shown, stored}

-- the stored words from an address on, one after another
pub record IsRun (t : Words) (addr : ℕ) (words : List ℕ) : Type 0 where
  -- none is past the last address
  pub low : (k : ℕ) → k < length words → addr + 4 * k < 2 ^ 32
  pub are : (k : ℕ) → k < length words → stored t (addr + 4 * k) ≡ Some (slice_index words k)

-- the operations of the words from an address on, one after another: that of EBREAK where a breakpoint is planted, and where a
-- word is no instruction
pub record AreOperations (t : Words) (addr : ℕ) (operations : List Operation) : Type 0 where
  pub low : (k : ℕ) → k < length operations → addr + 4 * k < 2 ^ 32
  pub there : (k : ℕ) → k < length operations → IsSome (shown t (addr + 4 * k))
  pub are : (k : ℕ) → k < length operations → slice_index_or operations k Break ≡ operation_of (fetched t (addr + 4 * k))
