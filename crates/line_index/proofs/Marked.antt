-- The least address of the rows with a mark in a range: in one sequence, whose addresses don't fall, and over all of them.
use Rattle.std.proofs.Common.{◌≡◌, ℕ, zero, suc, ◌+◌, ◌≤◌, ◌<◌, Bool, true, false, List, [], ◌∷◌, ◌++◌, length, get_or, Option, None, Some, refl, ap, ◌∙◌, sym, arith, filter, map, take, cond, subst}
use Rattle.std.specs.Prelude.{min, nat_lt, slice_get, if◌then◌else◌}
use Rattle.std.specs.List.{All, Contains}
use Rattle.std.proofs.lemmas.Bool.Decides.{nat_tests}
use Rattle.std.proofs.lemmas.List.{map-append, get_or_default}
use Rattle.std.proofs.lemmas.List.Elements.{All-append, All-cons, All-contains, All-nil, Contains-append_left, Contains-append_right, filter-append}
use Rattle.elf32_read.specs.declared.spans.Span.{Span}
use Rattle.line_rows.specs.RowList.{AreInOrder, Sequence}
use Rattle.line_rows.specs.declared.row.Row.{Row}
use Rattle.line_index.specs.Lines.{addresses, below, least_from}
use Rattle.line_index.specs.Marks.{lesser}
use Rattle.line_index.proofs.Folds.{rows_in, rows_more}
use Rattle.line_index.proofs.Least.{IsLeast, Under, contains-more, here, is-least, same-least}
use Rattle.address_tables.proofs.Orders.{yes-lt, no-lt}

-- what is there of two parts
both : (start : ℕ) (ns ms : List ℕ) (o p : Option ℕ) → IsLeast start ns o → IsLeast start ms p → IsLeast start (ns ++ ms) (lesser p o)
both start ns ms None None h k = record { under = All-append (λ n. start ≤ n → Under None n) ns ms h.under k.under; one = λ b e. absurd (cc) }
both start ns ms (Some a) None h k =
    record {
      under = All-append (λ n. start ≤ n → Under (Some a) n) ns ms h.under (λ i d within from. absurd (k.under i d within from));
      one = λ b e. let c = h.one b e in (Contains-append_left ns ms b c.0, c.1);
    }
both start ns ms None (Some a) h k =
    record {
      under = All-append (λ n. start ≤ n → Under (Some a) n) ns ms (λ i d within from. absurd (h.under i d within from)) k.under;
      one = λ b e. let c = k.one b e in (Contains-append_right ns ms b c.0, c.1);
    }
both start ns ms (Some a) (Some b) h k = by (nat_lt b a) refl
  where
    by : (c : Bool) → nat_lt b a ≡ c → IsLeast start (ns ++ ms) (Some (min b a))
    by true e =
        let less = yes-lt b a e in
        let is : min b a ≡ b = omega (arith, less) in
        let own = k.one b refl in
        record {
          under = All-append (λ n. start ≤ n → min b a ≤ n) ns ms (λ i d within from. let low = h.under i d within from in omega (arith, low, less)) (λ i d within from. let low = k.under i d within from in omega (arith, low));
          one = λ c f. let same : b ≡ c = sym is ∙ (let inner : min b a ≡ c = cc in inner) in (subst (λ (n : ℕ). Contains (ns ++ ms) n) same (Contains-append_right ns ms b own.0), (let from = own.1 in omega (arith, from, same)));
        }
    by false e =
        let more = no-lt b a e in
        let is : min b a ≡ a = omega (arith, more) in
        let own = h.one a refl in
        record {
          under = All-append (λ n. start ≤ n → min b a ≤ n) ns ms (λ i d within from. let low = h.under i d within from in omega (arith, low)) (λ i d within from. let low = k.under i d within from in omega (arith, low, more));
          one = λ c f. let same : a ≡ c = sym is ∙ (let inner : min b a ≡ c = cc in inner) in (subst (λ (n : ℕ). Contains (ns ++ ms) n) same (Contains-append_left ns ms a own.0), (let from = own.1 in omega (arith, from, same)));
        }

least-append : (start : ℕ) (ns ms : List ℕ) → least_from start (ns ++ ms) ≡ lesser (least_from start ms) (least_from start ns)
least-append start ns ms =
    same-least start (ns ++ ms) (least_from start (ns ++ ms)) (lesser (least_from start ms) (least_from start ns)) (is-least start (ns ++ ms))
    (both start ns ms (least_from start ns) (least_from start ms) (is-least start ns) (is-least start ms))

-- by which of two numbers are below an end
below_both : (end a b : ℕ) (d e : Bool) → nat_lt a end ≡ d → nat_lt b end ≡ e → below end (Some (min a b)) ≡ lesser (if d then Some a else None) (if e then Some b else None)
below_both end a b true true q r = let low : nat_lt (min a b) end ≡ true = grind (arith, nat_tests, q, r) in rw low refl
below_both end a b true false q r =
    let less = yes-lt a end q in
    let more = no-lt b end r in
    let is : min a b ≡ a = omega (arith, less, more) in
    rw (is, q) refl
below_both end a b false true q r =
    let more = no-lt a end q in
    let less = yes-lt b end r in
    let is : min a b ≡ b = omega (arith, less, more) in
    rw (is, r) refl
below_both end a b false false q r = let high : nat_lt (min a b) end ≡ false = grind (arith, nat_tests, q, r) in rw high refl

lesser_none : (o : Option ℕ) → o ≡ lesser o None
lesser_none None = refl
lesser_none (Some a) = refl

below-lesser : (end : ℕ) (o p : Option ℕ) → below end (lesser o p) ≡ lesser (below end o) (below end p)
below-lesser end None p = refl
below-lesser end (Some a) None = lesser_none (below end (Some a))
below-lesser end (Some a) (Some b) = below_both end a b (nat_lt a end) (nat_lt b end) refl refl

addresses-append : (test : Row → Bool) (xs ys : List Row) → addresses test (xs ++ ys) ≡ addresses test xs ++ addresses test ys
addresses-append test xs ys = ap (map (λ (r : Row). r.address)) (filter-append test xs ys) ∙ map-append (λ (r : Row). r.address) (filter test xs) (filter test ys)

-- one sequence more
pub marked_more : (start end : ℕ) (test : Row → Bool) (text : List Span) (ss : List Sequence) (k : ℕ) (s : Sequence) → slice_get ss k ≡ Some s
    → lesser (below end (least_from start (addresses test (rows_in text (s ∷ []))))) (below end (least_from start (addresses test (rows_in text (take k ss)))))
    ≡ below end (least_from start (addresses test (rows_in text (take (k + 1) ss))))
marked_more start end test text ss k s h =
    let before = rows_in text (take k ss) in
    let mine = rows_in text (s ∷ []) in
    sym
    (ap (λ (rows : List Row). below end (least_from start (addresses test rows))) (rows_more text ss k s h)
    ∙ ap (λ (ns : List ℕ). below end (least_from start ns)) (addresses-append test before mine)
    ∙ ap (below end) (least-append start (addresses test before) (addresses test mine))
    ∙ below-lesser end (least_from start (addresses test mine)) (least_from start (addresses test before)))

-- rows in front of a place aren't in the range
abbrev pub Passed : ℕ → (Row → Bool) → List Row → ℕ → Type 0
Passed start test rows i = (k : ℕ) (d : Row) → k < i → k < length rows → test (get_or rows k d) ≡ true → (get_or rows k d).address < start

-- a row without the mark is passed over
pub passed_more : (start : ℕ) (test : Row → Bool) (rows : List Row) (i : ℕ) (e : Row) → Passed start test rows i → test (get_or rows i e) ≡ false → Passed start test rows (i + 1)
passed_more start test rows i e passed none k d before within marked =
    elim (nat_lt k i) as (λ v. nat_lt k i ≡ v → (get_or rows k d).address < start) [
      | true ↦ λ f. passed k d (yes-lt k i f) within marked
      | false ↦ λ f.
          let same : k ≡ i = omega (arith, before, no-lt k i f) in
          let here_is : get_or rows k d ≡ get_or rows i e = get_or_default rows k d e within ∙ ap (λ (n : ℕ). get_or rows n e) same in
          let both_are : true ≡ false = sym marked ∙ ap test here_is ∙ none in
          absurd (cc)
    ] refl

all_addresses : (P : ℕ → Type 0) (test : Row → Bool) (rows : List Row) → ((k : ℕ) (d : Row) → k < length rows → test (get_or rows k d) ≡ true → P (get_or rows k d).address) → All P (addresses test rows)
all_addresses P test [] h = All-nil P
all_addresses P test (r ∷ rows) h = by (test r) refl (all_addresses P test rows (λ k d within e. h (suc k) d (omega (arith, within)) e))
  where
    by : (b : Bool) → test r ≡ b → All P (addresses test rows) → All P (map (λ (x : Row). x.address) (cond b (r ∷ filter test rows) (filter test rows)))
    by true e rest = All-cons P r.address (addresses test rows) (h 0 r (omega arith) e) rest
    by false e rest = rest

pub has_address : (test : Row → Bool) (rows : List Row) (i : ℕ) (d : Row) → i < length rows → test (get_or rows i d) ≡ true → Contains (addresses test rows) (get_or rows i d).address
has_address test [] i d within e = absurd (omega (arith, within))
has_address test (r ∷ rows) zero d within e = rw e (here (addresses test rows) r.address)
has_address test (r ∷ rows) (suc i) d within e = by (test r) (has_address test rows i d (omega (arith, within)) e)
  where
    by : (b : Bool) → Contains (addresses test rows) (get_or rows i d).address → Contains (map (λ (x : Row). x.address) (cond b (r ∷ filter test rows) (filter test rows))) (get_or rows i d).address
    by true rest = contains-more (addresses test rows) r.address (get_or rows i d).address rest
    by false rest = rest

-- by whether a row is in front of the place
not_below : (start low : ℕ) (test : Row → Bool) (rows : List Row) (i k : ℕ) (d : Row) → Passed start test rows i → (i ≤ k → low ≤ (get_or rows k d).address) → k < length rows → test (get_or rows k d) ≡ true
    → start ≤ (get_or rows k d).address → low ≤ (get_or rows k d).address
not_below start low test rows i k d passed behind within e from =
    elim (nat_lt k i) as (λ v. nat_lt k i ≡ v → low ≤ (get_or rows k d).address) [
      | true ↦ λ f. let less = passed k d (yes-lt k i f) within e in absurd (omega (arith, less, from))
      | false ↦ λ f. behind (no-lt k i f)
    ] refl

-- the first row in the range
pub first_found : (start end : ℕ) (test : Row → Bool) (rows : List Row) (i : ℕ) (r : Row) → AreInOrder rows → i < length rows → r ≡ get_or rows i r → Passed start test rows i → test r ≡ true → start ≤ r.address → r.address < end
    → Some r.address ≡ below end (least_from start (addresses test rows))
first_found start end test rows i r order within is passed marked from low =
    let ns = addresses test rows in
    let there : Contains ns r.address = subst (λ (x : Row). Contains ns x.address) (sym is) (has_address test rows i r within (ap test (sym is) ∙ marked)) in
    let least : IsLeast start ns (Some r.address) = record {
      under = all_addresses (λ n. start ≤ n → r.address ≤ n) test rows
          (λ k d inside e above. not_below start r.address test rows i k d passed
          (λ after. (let rises = order i k d after inside in let same : get_or rows i d ≡ r = get_or_default rows i d r within ∙ sym is in omega (arith, rises, ap (λ (x : Row). x.address) same))) inside e above);
      one = λ b e. let same : r.address ≡ b = cc in (subst (λ (n : ℕ). Contains ns n) same there, omega (arith, from, same));
    } in
    let inside : nat_lt r.address end ≡ true = grind (arith, nat_tests, low) in
    let here_is : below end (Some r.address) ≡ Some r.address = rw inside refl in
    sym here_is ∙ ap (below end) (same-least start ns (Some r.address) (least_from start ns) least (is-least start ns))

none_by : (start end : ℕ) (ns : List ℕ) (o : Option ℕ) → IsLeast start ns o → All (λ n. start ≤ n → end ≤ n) ns → None ≡ below end o
none_by start end ns None h all = refl
none_by start end ns (Some b) h all =
    let c = h.one b refl in
    let high : end ≤ b = All-contains (λ n. start ≤ n → end ≤ n) ns b all c.0 c.1 in
    let past : nat_lt b end ≡ false = grind (arith, nat_tests, high) in
    rw past refl

-- no row is in the range
pub none_found : (start end : ℕ) (test : Row → Bool) (rows : List Row) (i : ℕ) → AreInOrder rows → Passed start test rows i → ((d : Row) → i < length rows → end ≤ (get_or rows i d).address)
    → None ≡ below end (least_from start (addresses test rows))
none_found start end test rows i order passed past =
    none_by start end (addresses test rows) (least_from start (addresses test rows)) (is-least start (addresses test rows))
    (all_addresses (λ n. start ≤ n → end ≤ n) test rows
    (λ k d inside e above. not_below start end test rows i k d passed (λ after. (let rises = order i k d after inside in let high = past d (omega (arith, after, inside)) in omega (arith, rises, high))) inside e above))
