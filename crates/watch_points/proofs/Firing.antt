-- Which instructions make no watch fire: those that leave the bytes of each enabled watch as they are.
use Rattle.std.proofs.Common.{◌≡◌, ℕ, zero, suc, ◌+◌, ◌/◌, ◌%◌, ◌^◌, ◌<◌, ◌≤◌, Bool, true, false, cond, List, [], ◌∷◌, inl, inr, ◌⊎◌, refl, sym, ap, ◌∙◌, arith, nat_lt}
use Rattle.std.specs.Prelude.{Option, Some, None, ◌==◌, ◌||◌, ◌&&◌}
use Rattle.std.specs.Option.{option_map, option_or}
use Rattle.std.specs.Result.{result_ok}
use Rattle.std.specs.FinMap as map
use Rattle.std.proofs.lemmas.Bool.{cases_lt}
use Rattle.std.proofs.lemmas.Bool.Decides.{nat_tests}
use Rattle.data_memory.proofs.Maps.{get_insert_other}
use Rattle.rv_exec.specs.Memory.{Byte, Memory, with_number}
use Rattle.data_memory.specs.Ranges.{bytes_at, range_at, then_range, value_at}
use Rattle.watch_points.specs.declared.watchpoint.Watch.{Watch}
use Rattle.watch_points.specs.Watches.{IsKeptBut, behind, changed, fired_by, fired_one, meets, meets_one, word_of, worth}

same_value : (number : ℕ) (v : Option ℕ) → changed number v v ≡ None
same_value number None = refl
same_value number (Some x) = let same : (x == x) ≡ true = grind (arith, nat_tests) in rw same refl

kept_by : (number : ℕ) (u v : Option ℕ) (enabled : Bool) → u ≡ v → cond enabled (changed number u v) None ≡ None
kept_by number u v true e = ap (λ x. changed number x v) e ∙ same_value number v
kept_by number u v false e = refl

-- a watch whose bytes stay doesn't fire
kept_one : (w : Watch) (m k : Memory) → bytes_at m w.address w.size ≡ bytes_at k w.address w.size → fired_one m k w ≡ None
kept_one w m k e = kept_by w.number (worth m w) (worth k w) w.enabled (ap (option_map (word_of w.signed)) e)

-- where memory stays as it is no watch fires
pub none_fires : (ws : List Watch) (m : Memory) → fired_by ws m m ≡ None
none_fires [] m = refl
none_fires (w ∷ ws) m = ap (λ f. option_or f (fired_by ws m m)) (kept_one w m m refl) ∙ none_fires ws m

same_range : (m k : Memory) (addr n : ℕ) → ((j : ℕ) → j < n → value_at m ((addr + j) % 2 ^ 32) ≡ value_at k ((addr + j) % 2 ^ 32)) → range_at m addr n ≡ range_at k addr n
same_range m k addr zero h = refl
same_range m k addr (suc n) h =
    let first : addr + 0 ≡ addr = omega arith in
    let here : value_at m (addr % 2 ^ 32) ≡ value_at k (addr % 2 ^ 32) = rw first at (h 0 (omega arith)) in
    let next = λ (j : ℕ) (low : j < n). let same : addr + suc j ≡ (addr + 1) + j = omega arith in rw same at (h (suc j) (omega arith)) in
    ap (λ v. then_range (addr % 2 ^ 32) v (range_at m (addr + 1) n)) here
    ∙ ap (then_range (addr % 2 ^ 32) (value_at k (addr % 2 ^ 32))) (same_range m k (addr + 1) n next)

-- a byte of a range lies behind none of another one's where the ranges don't meet
apart : (a n b size j : ℕ) → nat_lt (behind b a) size ≡ false → nat_lt (behind a b) n ≡ false → j < size → n ≤ behind a ((b + j) % 2 ^ 32)
apart a n b size j first second low =
    let f : size ≤ behind b a = grind (arith, nat_tests) in
    let s : n ≤ behind a b = grind (arith, nat_tests) in
    omega arith

neither : (x y : Bool) → (x || y) ≡ false → (x ≡ false) × (y ≡ false)
neither true y e = cc
neither false y e = (refl, e)

apart_by : (w : Watch) (a n : ℕ) (m k : Memory) (b : Bool) → w.enabled ≡ b → IsKeptBut a n m k → meets_one a n w ≡ false → fired_one m k w ≡ None
apart_by w a n m k false is kept e = ap (λ c. cond c (changed w.number (worth m w) (worth k w)) None) is
apart_by w a n m k true is kept e =
    let both : (nat_lt (behind w.address a) w.size || nat_lt (behind a w.address) n) ≡ false = ap (λ c. c && (nat_lt (behind w.address a) w.size || nat_lt (behind a w.address) n)) (sym is) ∙ e in
    let f = neither (nat_lt (behind w.address a) w.size) (nat_lt (behind a w.address) n) both in
    kept_one w m k (ap result_ok (same_range m k w.address w.size (λ j low. kept ((w.address + j) % 2 ^ 32) (omega arith) (apart a n w.address w.size j f.0 f.1 low))))

-- no watch fires where the bytes that may change meet none that is enabled
pub apart_fires : (ws : List Watch) (a n : ℕ) (m k : Memory) → IsKeptBut a n m k → meets ws a n ≡ false → fired_by ws m k ≡ None
apart_fires [] a n m k kept e = refl
apart_fires (w ∷ ws) a n m k kept e =
    let f = neither (meets_one a n w) (meets ws a n) e in
    ap (λ x. option_or x (fired_by ws m k)) (apart_by w a n m k w.enabled refl kept f.0) ∙ apart_fires ws a n m k kept f.1

stored : (m : Memory) (addr len v q : ℕ) → (q < addr) ⊎ (addr + len ≤ q) → map.get (with_number m addr len v) q ≡ map.get m q
stored m addr zero v q out = refl
stored m addr (suc len) v q out =
    get_insert_other (with_number m (addr + 1) len (v / 256)) addr q (record { value = v % 256; is_writable = true }) (not_at addr len q out)
    ∙ stored m (addr + 1) len (v / 256) q (further addr len q out)
  where
    not_at : (addr len q : ℕ) → (q < addr) ⊎ (addr + suc len ≤ q) → q ≡ addr → ⊥
    not_at addr len q (inl low) e = omega arith
    not_at addr len q (inr high) e = omega arith

    further : (addr len q : ℕ) → (q < addr) ⊎ (addr + suc len ≤ q) → (q < addr + 1) ⊎ ((addr + 1) + len ≤ q)
    further addr len q (inl low) = inl (omega arith)
    further addr len q (inr high) = inr (omega arith)

outside : (addr len q : ℕ) → addr + len ≤ 2 ^ 32 → q < 2 ^ 32 → len ≤ behind addr q → (q < addr) ⊎ (addr + len ≤ q)
outside addr len q fits low far = elim (cases_lt q addr) [ inl lt ↦ inl lt | inr le ↦ inr (omega arith) ]

-- a store leaves all other bytes as they are
pub store_keeps : (m : Memory) (addr len v : ℕ) → addr + len ≤ 2 ^ 32 → IsKeptBut addr len m (with_number m addr len v)
store_keeps m addr len v fits q low far = ap (option_map (λ (b : Byte). b.value)) (sym (stored m addr len v q (outside addr len q fits low far)))
