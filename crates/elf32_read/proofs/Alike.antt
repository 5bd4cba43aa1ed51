-- Bytes at the front of two lists that are the same and not zero.
use Rattle.std.proofs.Common.{◌≡◌, ◌≢◌, ℕ, zero, suc, ◌+◌, ◌-◌, ◌<◌, ◌≤◌, true, false, List, [], ◌∷◌, length, take, drop, get_or, Option, None, Some, refl, ◌∙◌, arith, inl, inr, eq-eqb, ne_eqb}
use Rattle.std.specs.Prelude.{◌==◌}
use Rattle.std.specs.Option.{option_map, option_map_or}
use Rattle.std.specs.Str.{bytes_eq}
use Rattle.std.proofs.lemmas.Grind.{common_steps}
use Rattle.std.proofs.lemmas.Bool.{cases_lt}
use Rattle.std.proofs.lemmas.List.{take_all}
use Rattle.elf32_read.specs.Fields.{IsAlike, name_from}
use Rattle.elf32_read.proofs.Names.{named}

-- the first n bytes, one by one
pub record Agree (n : ℕ) (left right : List ℕ) : Type 0 where
  pub same : (k : ℕ) → k < n → get_or left k 0 ≡ get_or right k 0
  pub some : (k : ℕ) → k < n → 0 < get_or left k 0

pub agree_none : (left right : List ℕ) → Agree 0 left right
agree_none left right = record { same = λ k lt. absurd (omega (arith, lt)); some = λ k lt. absurd (omega (arith, lt)) }

pub agree_more : (left right : List ℕ) (n : ℕ) → get_or left n 0 ≡ get_or right n 0 → get_or left n 0 ≢ 0 → Agree n left right → Agree (n + 1) left right
agree_more left right n e some a =
    record {
      same = λ k lt. elim (cases_lt k n) [ inl early ↦ a.same k early | inr late ↦ (let is : k ≡ n = omega (arith, lt) in rw is e) ];
      some = λ k lt. elim (cases_lt k n) [ inl early ↦ a.some k early | inr late ↦ (let is : k ≡ n = omega (arith, lt) in rw is (omega (arith, some))) ];
    }

get_drop : (xs : List ℕ) (n k : ℕ) → get_or (drop n xs) k 0 ≡ get_or xs (n + k) 0
get_drop xs n k = grind (arith, common_steps)

-- alike on, from behind bytes that are alike
pub alike_on : (left right : List ℕ) (n m : ℕ) → IsAlike n left right → IsAlike m (drop n left) (drop n right) → IsAlike (n + m) left right
alike_on left right n m a b =
    let l : length (drop n left) ≡ length left - n = grind (arith, common_steps) in
    let r : length (drop n right) ≡ length right - n = grind (arith, common_steps) in
    record {
      within = omega (arith, a.within, b.within, l);
      also = omega (arith, a.also, b.also, r);
      same = λ k lt. elim (cases_lt k n) [
        | inl early ↦ a.same k early
        | inr late ↦ (let is : n + (k - n) ≡ k = omega (arith, late) in
            rw is at (rw (get_drop left n (k - n), get_drop right n (k - n)) at (b.same (k - n) (omega (arith, late, lt)))))
      ];
      some = λ k lt. elim (cases_lt k n) [
        | inl early ↦ a.some k early
        | inr late ↦ (let is : n + (k - n) ≡ k = omega (arith, late) in
            rw is at (rw (get_drop left n (k - n)) at (b.some (k - n) (omega (arith, late, lt)))))
      ];
    }

pub alike_tail : (n b c : ℕ) (bs cs : List ℕ) → IsAlike (suc n) (b ∷ bs) (c ∷ cs) → IsAlike n bs cs
alike_tail n b c bs cs a =
    record {
      within = omega (arith, a.within);
      also = omega (arith, a.also);
      same = λ k lt. a.same (suc k) (omega (arith, lt));
      some = λ k lt. a.some (suc k) (omega (arith, lt));
    }

named_by : (b : ℕ) (bs cs : List ℕ) (o : Option (List ℕ)) → option_map_or (bytes_eq (b ∷ cs)) (option_map (λ name. b ∷ name) o) false ≡ option_map_or (bytes_eq cs) o false
named_by b bs cs None = refl
named_by b bs cs (Some name) = let e : (b == b) ≡ true = eq-eqb b b refl in rw e refl

named_step : (b c : ℕ) (bs cs : List ℕ) → b ≡ c → 0 < b → named (c ∷ cs) (b ∷ bs) ≡ named cs bs
named_step b c bs cs same some =
    let apart : b ≢ 0 = omega (arith, some) in
    let e : (b == 0) ≡ false = ne_eqb b 0 apart in
    rw (← same, e) (named_by b bs cs (name_from bs))

-- a name behind bytes that are alike
pub named_behind : (n : ℕ) (bytes name : List ℕ) → IsAlike n bytes name → named name bytes ≡ named (drop n name) (drop n bytes)
named_behind zero bytes name a = refl
named_behind (suc n) [] name a = absurd (omega (arith, a.within))
named_behind (suc n) (b ∷ bs) [] a = absurd (omega (arith, a.also))
named_behind (suc n) (b ∷ bs) (c ∷ cs) a =
    named_step b c bs cs (a.same 0 (omega arith)) (a.some 0 (omega arith)) ∙ named_behind n bs cs (alike_tail n b c bs cs a)

-- a slice from a place to the end
pub rest : (n : ℕ) (xs : List ℕ) → take (length xs - n) (drop n xs) ≡ drop n xs
rest n xs =
    let len : length (drop n xs) ≤ length xs - n = grind (arith, common_steps) in
    take_all (length xs - n) (drop n xs) len
