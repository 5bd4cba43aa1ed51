-- Harts that come home from their slots, as the code takes them.
use Rattle.std.proofs.Common.{◌≡◌, ◌≢◌, ◌<◌, ◌≤◌, ℕ, ◌-◌, Bool, List, [], ◌∷◌, length, take, drop, refl, sym, ap, ◌∙◌, arith, length-set}
use Rattle.std.specs.Prelude.{Option, None, get_or, slice_set}
use Rattle.scratch_slots.specs.declared.slots.SlotUse.{SlotUse}
use Rattle.scratch_slots.specs.Table.{use_at, slot_number}
use Rattle.step_over.specs.declared.phase.Phase.{Phase}
use Rattle.hart_machine.specs.declared.hart.Core.{Core}
use Rattle.hart_machine.specs.Patched.{Patched}
use Rattle.hart_machine.specs.Copying.{Finishes, settled_core, with_core}
use Rattle.engine_parts.specs.Homecoming.{Owns, home_core, settled_by, Leaves}
use Rattle.engine_parts.proofs.Holding.{get_within}

-- a hart came home from its slot, which was given back
pub left_slot : (old new : Patched) (h slot home : ℕ) (ran : Bool) (q : Phase) → h < length old.cores → (own : Owns old h slot) → ((c : Core) → settled_by (use_at old.slots slot) slot home c ran ≡ home_core old.slots c q)
    → Finishes old h slot home ran new → use_at new.slots slot ≡ None → ((s : ℕ) → s ≢ slot → use_at new.slots s ≡ use_at old.slots s) → Leaves old new h slot q
left_slot old new h slot home ran q low own core f freed others =
    let k = get_within old.cores h low in
    let c = k.0 in
    let settled = settled_core own.word slot home c ran in
    let is : new ≡ record (with_core old h settled) { slots = slice_set old.slots (slot_number slot) None } = f c (record { hart = h; word = own.word }) k.1 own.out in
    let now : settled ≡ home_core old.slots c q = ap (λ o. settled_by o slot home c ran) (sym own.out) ∙ core c in
    let new_slots : new.slots ≡ slice_set old.slots (slot_number slot) None = ap (λ (m : Patched). m.slots) is in
    record {
      core = c;
      at = k.1;
      frees = record {
        one = record { here = freed; others = λ s n. others s (λ e. n (sym e)) };
        len = ap (λ (ss : List (Option SlotUse)). length ss) new_slots ∙ length-set old.slots (slot_number slot) None;
      };
      machine = is ∙ (ap (λ (ss : List (Option SlotUse)). let m : Patched = record old { cores = slice_set old.cores h settled; slots = ss } in m) (sym new_slots)
          ∙ ap (λ (d : Core). let m : Patched = record old { cores = slice_set old.cores h d; slots = new.slots } in m) now);
    }

take_all : {A : Type 0} (xs : List A) → take (length xs) xs ≡ xs
take_all [] = refl
take_all (x ∷ xs) = ap (λ ys. x ∷ ys) (take_all xs)

-- a list that has a first
pub first_of : {A : Type 0} (xs : List A) (d : A) → 1 ≤ length xs → xs ≡ get_or xs 0 d ∷ take (length xs - 1) (drop 1 xs)
first_of [] d le = absurd (omega arith)
first_of (x ∷ xs) d le = let n : length (x ∷ xs) - 1 ≡ length xs = omega arith in sym (ap (λ k. x ∷ take k xs) n ∙ ap (λ ys. x ∷ ys) (take_all xs))
