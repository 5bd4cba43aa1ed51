-- The row that counts, where addresses don't fall: a search from the last row on.
use Rattle.std.proofs.Common.{◌≡◌, ℕ, zero, suc, ◌+◌, ◌-◌, ◌<◌, ◌≤◌, Bool, true, false, List, [], ◌∷◌, ◌++◌, Option, None, Some, length, filter, take, get_or, refl, ap, ◌∙◌, sym, subst, arith, leb}
use Rattle.std.specs.Prelude.{nat_le, nat_lt, not, ◌==◌, ◌||◌, ◌&&◌, All, if◌then◌else◌}
use Rattle.std.specs.List.Sorted.{IsPartitionPoint}
use Rattle.std.proofs.lemmas.Bool.Decides.{nat_tests}
use Rattle.std.proofs.lemmas.List.{get_or-take, get_or_default, length-take, take_all, take_more}
use Rattle.std.proofs.lemmas.List.Elements.{All-head, All-tail}
use Rattle.line_rows.specs.RowList.{AreInOrder}
use Rattle.line_rows.specs.declared.row.Row.{Row}
use Rattle.line_index.specs.Lines.{is_ahead}
use Rattle.line_index.proofs.LaterRows.{last-cons, last-push, last_of, later-assoc, later_of}

-- the rows up to an address stand in front
pub filter_front : (pc i : ℕ) (rows : List Row) → IsPartitionPoint (λ r. leb r.address pc ≡ true) (λ r. leb r.address pc ≡ false) rows i → filter (λ r. nat_le r.address pc) rows ≡ take i rows
filter_front pc zero [] p = refl
filter_front pc (suc i) [] p = refl
filter_front pc zero (r ∷ rows) p =
    let above : nat_le r.address pc ≡ false = p.1 0 r (omega arith) (omega arith) in
    rw above (filter_front pc zero rows (λ k d from less. absurd (omega arith), λ k d from less. p.1 (suc k) d (omega arith) (omega arith)))
filter_front pc (suc i) (r ∷ rows) p =
    let below : nat_le r.address pc ≡ true = p.0 0 r (omega arith) (omega arith) in
    rw below (ap (λ (l : List Row). r ∷ l) (filter_front pc i rows (λ k d from less. p.0 (suc k) d (omega arith) (omega arith), λ k d from less. p.1 (suc k) d (omega arith) (omega arith))))

-- no row is above an address
abbrev Under : Option Row → ℕ → Type 0
Under None m = Unit {0}
Under (Some a) m = a.address ≤ m

under_later : (a : Row) (o : Option Row) (m : ℕ) → a.address ≤ m → Under o m → Under (later_of (Some a) o) m
under_later a None m h u = h
under_later a (Some b) m h u = elim (is_ahead a b) as (λ v. Under (if v then Some a else Some b) m) [ true ↦ h | false ↦ u ]

under_last : (xs : List Row) (m : ℕ) → All (λ r. r.address ≤ m) xs → Under (last_of xs) m
under_last [] m h = tt
under_last (x ∷ xs) m h =
    subst (λ (o : Option Row). Under o m) (sym (last-cons x xs)) (under_later x (last_of xs) m (All-head (λ r. r.address ≤ m) x xs h) (under_last xs m (All-tail (λ r. r.address ≤ m) x xs h)))

-- addresses as numbers
lower_not : (a l : ℕ) (b : Bool) → a < l → (nat_lt l a || ((a == l) && b)) ≡ false
lower_not a l true h = grind (arith, nat_tests)
lower_not a l false h = grind (arith, nat_tests)

level_not : (a l : ℕ) (s : Bool) → a ≤ l → (nat_lt l a || ((a == l) && (s && false))) ≡ false
level_not a l true h = grind (arith, nat_tests)
level_not a l false h = grind (arith, nat_tests)

level_is : (a : ℕ) → (nat_lt a a || ((a == a) && true)) ≡ true
level_is a = grind (arith, nat_tests)

level_plain : (a : ℕ) (s : Bool) → (nat_lt a a || ((a == a) && (false && s))) ≡ false
level_plain a s = grind (arith, nat_tests)

-- no row below the last one is ahead of it
higher : (o : Option Row) (l : Row) (m : ℕ) → Under o m → m < l.address → later_of o (Some l) ≡ Some l
higher None l m u h = refl
higher (Some a) l m u h = rw (lower_not a.address l.address (a.is_stmt && not l.is_stmt) (omega (arith, u, h))) refl

-- nor one of a statement
level : (o : Option Row) (r : Row) → Under o r.address → r.is_stmt ≡ true → later_of o (Some r) ≡ Some r
level None r u s = refl
level (Some a) r u s =
    let ahead : is_ahead a r ≡ false = ap (λ (b : Bool). nat_lt r.address a.address || ((a.address == r.address) && (a.is_stmt && not b))) s ∙ level_not a.address r.address a.is_stmt u in
    rw ahead refl

statement_first : (r l : Row) → r.address ≡ l.address → r.is_stmt ≡ true → l.is_stmt ≡ false → later_of (Some r) (Some l) ≡ Some r
statement_first r l e s t =
    let ahead : is_ahead r l ≡ true =
    ap (λ (n : ℕ). nat_lt l.address n || ((n == l.address) && (r.is_stmt && not l.is_stmt))) e
    ∙ ap (λ (b : Bool). nat_lt l.address l.address || ((l.address == l.address) && (b && not l.is_stmt))) s
    ∙ ap (λ (b : Bool). nat_lt l.address l.address || ((l.address == l.address) && not b)) t
    ∙ level_is l.address in
    rw ahead refl

plain_last : (r l : Row) → r.address ≡ l.address → r.is_stmt ≡ false → later_of (Some r) (Some l) ≡ Some l
plain_last r l e s =
    let ahead : is_ahead r l ≡ false =
    ap (λ (n : ℕ). nat_lt l.address n || ((n == l.address) && (r.is_stmt && not l.is_stmt))) e
    ∙ ap (λ (b : Bool). nat_lt l.address l.address || ((l.address == l.address) && (b && not l.is_stmt))) s
    ∙ level_plain l.address (not l.is_stmt) in
    rw ahead refl

itself : (l : Row) → later_of (Some l) (Some l) ≡ Some l
itself l = elim (is_ahead l l) as (λ v. (if v then Some l else Some l) ≡ Some l) [ true ↦ refl | false ↦ refl ]

-- the rows in front of a place and the one behind them
split_at : (rows : List Row) (count : ℕ) (r : Row) → 0 < count → count ≤ length rows → r ≡ get_or rows (count - 1) r → last_of (take count rows) ≡ later_of (last_of (take (count - 1) rows)) (Some r)
split_at rows count r some within is =
    let back : count ≡ (count - 1) + 1 = omega (arith, some) in
    let more = take_more rows (count - 1) r (omega (arith, some, within)) in
    ap (λ (n : ℕ). last_of (take n rows)) back
    ∙ ap last_of (more ∙ ap (λ (x : Row). take (count - 1) rows ++ x ∷ []) (sym is))
    ∙ last-push (take (count - 1) rows) r

-- rows in front of a place aren't above the row there
under_front : (rows : List Row) (count k : ℕ) (r : Row) → AreInOrder rows → count ≤ k + 1 → k < length rows → r ≡ get_or rows k r → Under (last_of (take count rows)) r.address
under_front rows count k r h low within is =
    under_last (take count rows) r.address
    (λ i d less.
    let size = length-take count rows in
    let below : i < count = omega (arith, less, size) in
    let order : (get_or rows i d).address ≤ (get_or rows k d).address = h i k d (omega (arith, below, low)) within in
    let there : get_or (take count rows) i d ≡ get_or rows i d = get_or-take count rows i d below in
    let here : get_or rows k d ≡ r = get_or_default rows k d r within ∙ sym is in
    omega (arith, order, ap (λ (x : Row). x.address) there, ap (λ (x : Row). x.address) here))

-- what is left of a search from behind
pub record Left (rows : List Row) (count : ℕ) (last : Row) : Type 0 where
  pub within : count ≤ length rows
  pub same : last_of rows ≡ later_of (last_of (take count rows)) (Some last)

whole : (rows : List Row) (last : Row) → 0 < length rows → last ≡ get_or rows (length rows - 1) last → last_of rows ≡ later_of (last_of (take (length rows - 1) rows)) (Some last)
whole rows last some is = ap last_of (sym (take_all (length rows) rows (omega arith))) ∙ split_at rows (length rows) last some (omega arith) is

-- a statement at the end is the row
pub ends_at_once : (rows : List Row) (last : Row) → AreInOrder rows → 0 < length rows → last ≡ get_or rows (length rows - 1) last → last.is_stmt ≡ true → last_of rows ≡ Some last
ends_at_once rows last h some is s =
    whole rows last some is ∙ level (last_of (take (length rows - 1) rows)) last (under_front rows (length rows - 1) (length rows - 1) last h (omega arith) (omega (arith, some)) is) s

pub begins : (rows : List Row) (last : Row) → 0 < length rows → last ≡ get_or rows (length rows - 1) last → Left rows (length rows) last
begins rows last some is =
    let all : take (length rows) rows ≡ rows = take_all (length rows) rows (omega arith) in
    let x = last_of (take (length rows - 1) rows) in
    let w = whole rows last some is in
    record {
      within = omega arith;
      same = w ∙ ap (later_of x) (sym (itself last)) ∙ sym (later-assoc x (Some last) (Some last)) ∙ ap (λ (o : Option Row). later_of o (Some last)) (sym w) ∙ ap (λ (l : List Row). later_of (last_of l) (Some last)) (sym all);
    }

-- a row below the last one ends the search
pub ends_below : (rows : List Row) (count : ℕ) (last r : Row) → AreInOrder rows → Left rows count last → 0 < count → last ≡ get_or rows (length rows - 1) last → r ≡ get_or rows (count - 1) r → (r.address ≡ last.address → ⊥)
    → last_of rows ≡ Some last
ends_below rows count last r h l some is there other =
    let within = l.within in
    let order : (get_or rows (count - 1) r).address ≤ (get_or rows (length rows - 1) r).address = h (count - 1) (length rows - 1) r (omega (arith, within, some)) (omega (arith, within, some)) in
    let at : get_or rows (length rows - 1) r ≡ last = get_or_default rows (length rows - 1) r last (omega (arith, within, some)) ∙ sym is in
    let below : r.address ≤ last.address = omega (arith, order, ap (λ (x : Row). x.address) at, ap (λ (x : Row). x.address) there) in
    let under = under_front rows count (count - 1) r h (omega (arith, some)) (omega (arith, within, some)) there in
    l.same ∙ higher (last_of (take count rows)) last r.address under (less r.address last.address below other)
  where
    less : (a b : ℕ) → a ≤ b → (a ≡ b → ⊥) → a < b
    less a b h k =
        elim (nat_lt a b) as (λ v. nat_lt a b ≡ v → a < b) [ true ↦ λ e. grind (arith, nat_tests) | false ↦ λ e. (let not_below : b ≤ a = grind (arith, nat_tests) in absurd (k (omega (arith, h, not_below)))) ] refl

-- and so does a statement at its address
pub ends_at : (rows : List Row) (count : ℕ) (last r : Row) → AreInOrder rows → Left rows count last → 0 < count → r ≡ get_or rows (count - 1) r → r.address ≡ last.address → r.is_stmt ≡ true → last.is_stmt ≡ false → last_of rows ≡ Some r
ends_at rows count last r h l some there e s t =
    let within = l.within in
    let under = under_front rows (count - 1) (count - 1) r h (omega (arith, some)) (omega (arith, within, some)) there in
    l.same
    ∙ ap (λ (o : Option Row). later_of o (Some last)) (split_at rows count r some within there ∙ level (last_of (take (count - 1) rows)) r under s)
    ∙ statement_first r last e s t

-- other rows there are passed over
pub passes : (rows : List Row) (count : ℕ) (last r : Row) → Left rows count last → 0 < count → r ≡ get_or rows (count - 1) r → r.address ≡ last.address → r.is_stmt ≡ false → Left rows (count - 1) last
passes rows count last r l some there e s =
    let within = l.within in
    let x = last_of (take (count - 1) rows) in
    record {
      within = omega (arith, within);
      same = l.same ∙ ap (λ (o : Option Row). later_of o (Some last)) (split_at rows count r some within there) ∙ later-assoc x (Some r) (Some last) ∙ ap (later_of x) (plain_last r last e s);
    }

pub ends_there : (rows : List Row) (count : ℕ) (last : Row) → Left rows count last → count ≡ 0 → last_of rows ≡ Some last
ends_there rows count last l none = l.same ∙ ap (λ (n : ℕ). later_of (last_of (take n rows)) (Some last)) none
