-- The slots as a list: for each, who has it with which word, or nobody. A slot is a place for the copy of an instruction
-- that is stepped out of line (GDB manual, "Displaced stepping"); where the slots are is this project's own.
use Rattle.std.specs.Prelude.{ℕ, Bool, suc, ◌+◌, ◌-◌, ◌*◌, ◌/◌, ◌%◌, ◌<◌, ◌≡◌, ◌==◌, ◌&&◌, nat_le, List, [], ◌∷◌, slice_get, slice_set, Option, Some, None, if◌then◌else◌}
use Rattle.std.specs.Option.{option_map, option_and_then}
use Rattle.scratch_slots.specs.declared.slots.SlotUse.{SlotUse}
use Rattle.scratch_slots.specs.Index.{bit_in}

-- the address of the word that is slot k
abbrev pub slot_address : ℕ → ℕ
slot_address k = 0xFFFFF000 + 8 * k

-- the number of the slot at an address
abbrev pub slot_number : ℕ → ℕ
slot_number slot = (slot - 0xFFFFF000) / 8

-- an address at which a slot may be
abbrev pub is_address : ℕ → Bool
is_address slot = nat_le 0xFFFFF000 slot && ((slot - 0xFFFFF000) % 8 == 0)

-- the use of the slot at an address, if a slot is there and is out
abbrev pub use_at : List (Option SlotUse) → ℕ → Option SlotUse
use_at slots slot = if is_address slot then option_and_then (λ u. u) (slice_get slots (slot_number slot)) else None

-- no slot is free
abbrev pub AllOut : List (Option SlotUse) → Type 0
AllOut slots = (k : ℕ) → slice_get slots k ≡ Some None → ⊥

-- the least slot that is free
abbrev pub least_free : List (Option SlotUse) → Option ℕ
least_free [] = None
least_free (None ∷ slots) = Some 0
least_free (Some u ∷ slots) = option_map suc (least_free slots)

-- the slot is out with this use; where there is none, nothing changes
abbrev pub with_use : List (Option SlotUse) → Option ℕ → SlotUse → List (Option SlotUse)
with_use slots None u = slots
with_use slots (Some k) u = slice_set slots k (Some u)

abbrev pub free_bit : Option (Option SlotUse) → ℕ
free_bit None = 0
free_bit (Some (Some u)) = 0
free_bit (Some None) = 1

-- the bits are 1 at the slots that are free
abbrev pub IsIndexed : List ℕ → List (Option SlotUse) → Type 0
IsIndexed groups slots = (k : ℕ) → k < 512 → bit_in groups k ≡ free_bit (slice_get slots k)
