-- The least of some numbers from one on, in whatever order they are, and where it stands among them in order.
use Rattle.std.proofs.Common.{◌≡◌, ℕ, zero, suc, ◌≤◌, ◌<◌, Bool, true, false, List, [], ◌∷◌, length, get_or, Option, None, Some, refl, ap, ◌∙◌, sym, arith, filter, fold, cond, subst, ◌⊎◌, inl, inr, ⊎_elim}
use Rattle.std.specs.Prelude.{nat_le, nat_lt, if◌then◌else◌}
use Rattle.std.specs.List.{All, Contains}
use Rattle.std.specs.List.Sorted.{IsNonDecreasing, IsPartitionPoint}
use Rattle.std.proofs.lemmas.List.Elements.{All-nil, All-cons, All-contains, Contains-get_or}
use Rattle.std.proofs.lemmas.List.Sorted.{All-permutation, Contains-permutation}
use Rattle.std.proofs.lemmas.Bool.Decides.{nat_tests}
use Rattle.elf_symbols.specs.Names.{better}
use Rattle.elf_symbols.proofs.Foremost.{IsOrder, foremost_is}
use Rattle.line_index.specs.Lines.{least_from}
use Rattle.line_index.specs.Order.{IsInOrder}
use Rattle.address_tables.proofs.Orders.{yes-le, no-le, yes-lt, no-lt}

-- there is a number, and it isn't above another
abbrev pub Under : Option ℕ → ℕ → Type 0
Under None n = ⊥
Under (Some b) n = b ≤ n

under-less : (o : Option ℕ) (a b : ℕ) → a ≤ b → Under o a → Under o b
under-less None a b h u = u
under-less (Some c) a b h u = omega arith

-- what is the least from one on
pub record IsLeast (start : ℕ) (ns : List ℕ) (o : Option ℕ) : Type 0 where
  pub under : All (λ n. start ≤ n → Under o n) ns
  pub one : (b : ℕ) → o ≡ Some b → Contains ns b × (start ≤ b)

pub contains-more : (ns : List ℕ) (n b : ℕ) → Contains ns b → Contains (n ∷ ns) b
contains-more ns n b h = let within = h.1 in (suc h.0, omega arith, h.2)

-- where a search goes on from what it found
record Found (start : ℕ) (acc : Option ℕ) (ns : List ℕ) (o : Option ℕ) : Type 0 where
  before : (a : ℕ) → acc ≡ Some a → Under o a
  under : All (λ n. start ≤ n → Under o n) ns
  one : (b : ℕ) → o ≡ Some b → (acc ≡ Some b) ⊎ (Contains ns b × (start ≤ b))

pub here : (ns : List ℕ) (n : ℕ) → Contains (n ∷ ns) n
here ns n = (0, omega arith, refl)

-- what is taken of two
record Lower (acc : Option ℕ) (n : ℕ) (o : Option ℕ) : Type 0 where
  least : ℕ
  is : o ≡ Some least
  low : least ≤ n
  before : (a : ℕ) → acc ≡ Some a → least ≤ a
  one : (acc ≡ Some least) ⊎ (least ≡ n)

lower-by : (a n : ℕ) (b : Bool) → nat_lt n a ≡ b → Lower (Some a) n (if b then Some n else Some a)
lower-by a n true e =
    let less = yes-lt n a e in
    record { least = n; is = refl; low = omega arith; before = λ c k. let same : a ≡ c = cc in omega (arith, less); one = inr refl }
lower-by a n false e = record { least = a; is = refl; low = no-lt n a e; before = λ c k. let same : a ≡ c = cc in omega arith; one = inl refl }

lower : (acc : Option ℕ) (n : ℕ) → Lower acc n (better nat_lt acc n)
lower None n = record { least = n; is = refl; low = omega arith; before = λ a e. absurd (cc); one = inr refl }
lower (Some a) n = lower-by a n (nat_lt n a) refl

taken : (start : ℕ) (acc : Option ℕ) (n : ℕ) (ns : List ℕ) (o : Option ℕ) → start ≤ n → Found start (better nat_lt acc n) ns o → Found start acc (n ∷ ns) o
taken start acc n ns o from f =
    let l = lower acc n in
    record {
      before = λ a e. under-less o l.least a (l.before a e) (f.before l.least l.is);
      under = All-cons (λ k. start ≤ k → Under o k) n ns (λ h. under-less o l.least n l.low (f.before l.least l.is)) f.under;
      one = λ b e. ⊎_elim
          (λ (h : better nat_lt acc n ≡ Some b). let same : l.least ≡ b = (let both : Some l.least ≡ Some b = sym l.is ∙ h in cc) in ⊎_elim
          (λ (k : acc ≡ Some l.least). inl (k ∙ ap (λ (x : ℕ). Some x) same))
          (λ (k : l.least ≡ n). let at : n ≡ b = sym k ∙ same in inr (subst (λ (x : ℕ). Contains (n ∷ ns) x) at (here ns n), omega arith)) l.one)
          (λ (h : Contains ns b × (start ≤ b)). inr (contains-more ns n b h.0, h.1)) (f.one b e);
    }

passed : (start : ℕ) (acc : Option ℕ) (n : ℕ) (ns : List ℕ) (o : Option ℕ) → n < start → Found start acc ns o → Found start acc (n ∷ ns) o
passed start acc n ns o low f =
    record {
      before = f.before;
      under = All-cons (λ k. start ≤ k → Under o k) n ns (λ h. absurd (omega arith)) f.under;
      one = λ b e. ⊎_elim (λ (h : acc ≡ Some b). inl h) (λ (h : Contains ns b × (start ≤ b)). inr (contains-more ns n b h.0, h.1)) (f.one b e);
    }

found : (start : ℕ) (acc : Option ℕ) (ns : List ℕ) → Found start acc ns (fold (better nat_lt) acc (filter (nat_le start) ns))
found start None [] = record { before = λ a e. absurd (cc); under = All-nil (λ k. start ≤ k → Under None k); one = λ b e. inl e }
found start (Some x) [] = record { before = λ a e. let same : x ≡ a = cc in omega arith; under = All-nil (λ k. start ≤ k → Under (Some x) k); one = λ b e. inl e }
found start acc (n ∷ ns) =
    elim (nat_le start n) as (λ v. nat_le start n ≡ v → Found start acc (n ∷ ns) (fold (better nat_lt) acc (cond v (n ∷ filter (nat_le start) ns) (filter (nat_le start) ns)))) [
      | true ↦ λ e. taken start acc n ns (fold (better nat_lt) (better nat_lt acc n) (filter (nat_le start) ns)) (yes-le start n e) (found start (better nat_lt acc n) ns)
      | false ↦ λ e. passed start acc n ns (fold (better nat_lt) acc (filter (nat_le start) ns)) (no-le start n e) (found start acc ns)
    ] refl

less_itself : (a : ℕ) → nat_lt a a ≡ false
less_itself a = grind (arith, nat_tests)

less_along : (a b c : ℕ) → nat_lt a b ≡ true → nat_lt b c ≡ true → nat_lt a c ≡ true
less_along a b c h k = grind (arith, nat_tests)

less_between : (a b c : ℕ) → nat_lt a c ≡ true → nat_lt b c ≡ false → nat_lt a b ≡ true
less_between a b c h k = grind (arith, nat_tests)

pub less_order : IsOrder nat_lt
less_order = record { itself = less_itself; along = less_along; between = less_between }

pub is-least : (start : ℕ) (ns : List ℕ) → IsLeast start ns (least_from start ns)
is-least start ns =
    let f = found start None ns in
    subst (IsLeast start ns) (foremost_is nat_lt less_order (filter (nat_le start) ns))
    (record { under = f.under; one = λ b e. ⊎_elim (λ (h : None ≡ Some b). absurd (cc)) (λ (h : Contains ns b × (start ≤ b)). h) (f.one b e) })

-- there is one least
pub same-least : (start : ℕ) (ns : List ℕ) (o p : Option ℕ) → IsLeast start ns o → IsLeast start ns p → o ≡ p
same-least start ns None None h k = refl
same-least start ns None (Some b) h k = let c = k.one b refl in absurd (All-contains (λ n. start ≤ n → Under None n) ns b h.under c.0 c.1)
same-least start ns (Some a) None h k = let c = h.one a refl in absurd (All-contains (λ n. start ≤ n → Under None n) ns a k.under c.0 c.1)
same-least start ns (Some a) (Some b) h k =
    let c = k.one b refl in
    let d = h.one a refl in
    let low : a ≤ b = All-contains (λ n. start ≤ n → Under (Some a) n) ns b h.under c.0 c.1 in
    let high : b ≤ a = All-contains (λ n. start ≤ n → Under (Some b) n) ns a k.under d.0 d.1 in
    ap (λ (n : ℕ). Some n) (omega arith)

-- the order doesn't matter
pub least-in-order : (start : ℕ) (ns sorted : List ℕ) → IsInOrder ns sorted → least_from start sorted ≡ least_from start ns
least-in-order start ns sorted h =
    let l = is-least start ns in
    same-least start sorted (least_from start sorted) (least_from start ns) (is-least start sorted)
    (record {
      under = All-permutation (λ n. start ≤ n → Under (least_from start ns) n) ns sorted h.same l.under;
      one = λ b e. let c = l.one b e in (Contains-permutation ns sorted b h.same c.0, c.1);
    })

-- in order, the numbers up to a place are below the first one, and those from the place on aren't
abbrev pub IsPoint : ℕ → List ℕ → ℕ → Type 0
IsPoint start ns k = IsPartitionPoint (λ n. nat_lt n start ≡ true) (λ n. nat_lt n start ≡ false) ns k

pub least-at : (start : ℕ) (ns : List ℕ) (k : ℕ) → IsNonDecreasing ns → IsPoint start ns k → k < length ns → Some (get_or ns k 0) ≡ least_from start ns
least-at start ns k ordered point within =
    same-least start ns (Some (get_or ns k 0)) (least_from start ns)
    (record {
      under = λ i d inside from.
          elim (nat_lt i k) as (λ v. nat_lt i k ≡ v → get_or ns k 0 ≤ get_or ns i d) [
            | true ↦ λ e. let less = yes-lt (get_or ns i d) start (point.0 i d (omega arith) (yes-lt i k e)) in absurd (omega arith)
            | false ↦ λ e. let rises : get_or ns k d ≤ get_or ns i d = ordered k i d (no-lt i k e) inside in
                let same : get_or ns k 0 ≡ get_or ns k d = get_or-any ns k 0 d within in
                omega arith
          ] refl;
      one = λ b e.
          let same : get_or ns k 0 ≡ b = cc in
          (subst (λ (n : ℕ). Contains ns n) same (Contains-get_or ns k 0 within), (let from : start ≤ get_or ns k 0 = no-lt (get_or ns k 0) start (point.1 k 0 (omega arith) within) in omega arith));
    })
    (is-least start ns)
  where
    get_or-any : (xs : List ℕ) (k a b : ℕ) → k < length xs → get_or xs k a ≡ get_or xs k b
    get_or-any [] k a b h = absurd (omega arith)
    get_or-any (x ∷ xs) zero a b h = refl
    get_or-any (x ∷ xs) (suc k) a b h = get_or-any xs k a b (omega arith)

pub least-none : (start : ℕ) (ns : List ℕ) (k : ℕ) → IsPoint start ns k → length ns ≤ k → None ≡ least_from start ns
least-none start ns k point past =
    same-least start ns None (least_from start ns)
    (record {
      under = λ i d inside from. let less = yes-lt (get_or ns i d) start (point.0 i d (omega arith) (omega arith)) in absurd (omega arith);
      one = λ b e. absurd (cc);
    })
    (is-least start ns)
