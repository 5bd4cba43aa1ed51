-- The nearest of the functions that begin by an address is the one at the greatest address of their table.
use Rattle.std.proofs.Common.{◌≡◌, ◌≢◌, ℕ, ◌<◌, ◌≤◌, Bool, true, false, cond, List, [], ◌∷◌, Option, None, Some, filter, refl, sym, ◌∙◌, ap, subst, arith, eqb-true, leb-true, ltb-true, eq-eqb, lt-ltb}
use Rattle.std.specs.Prelude.{if◌then◌else◌, fold, nat_lt, ◌==◌, is_some}
use Rattle.std.proofs.lemmas.Bool.{leb-false, ltb-false, le-ltb, ne_eqb, false≢true}
use Rattle.std.specs.BTreeMap.{BTreeMap}
use Rattle.std.specs.BTreeMap.Range.{IsLeBy}
use Rattle.std.specs.Ordering.{is_gt, is_lt, nat_cmp}
use Rattle.std.specs.declared.cmp.Ordering.TheVariants.{Less, Equal, Greater}
use Rattle.elf_symbols.specs.Names.{better, best}
use Rattle.elf_symbols.specs.Entries.{entry_nearer, begins_by}
use Rattle.elf_symbols.specs.Lookups.{begins_at, IsAddressTable, FindsBefore}
use Rattle.elf_symbols.specs.declared.entry.SymbolEntry.{SymbolEntry}

-- a best that is there stays there
some_pick : {A : Type 0} (b : Bool) (x y : A) → is_some (if b then Some x else Some y) ≡ true
some_pick true x y = refl
some_pick false x y = refl

some_better : {A : Type 0} (before : A → A → Bool) (o : Option A) (x : A) → is_some (better before o x) ≡ true
some_better before None x = refl
some_better before (Some y) x = some_pick (before x y) x y

some_fold : {A : Type 0} (before : A → A → Bool) (xs : List A) (o : Option A) → is_some o ≡ true → is_some (fold (better before) o xs) ≡ true
some_fold before [] o h = h
some_fold before (x ∷ xs) o h = some_fold before xs (better before o x) (some_better before o x)

none_is : {A : Type 0} (o : Option A) → o ≡ None → is_some o ≡ true → ⊥
none_is o e h = false≢true (sym (ap is_some e) ∙ h)

-- each entry that begins by an address begins by a lesser one
abbrev Upto : ℕ → ℕ → List SymbolEntry → Type 0
Upto key addr [] = Unit {0}
Upto key addr (x ∷ xs) = (x.address ≤ addr → x.address ≤ key) × Upto key addr xs

-- what a table says of the entries, in the order of the list
abbrev Holds : (SymbolEntry → SymbolEntry → Bool) → ℕ → ℕ → List SymbolEntry → Type 0
Holds before key addr xs = (q : ℕ) → q ≤ addr → is_some (best before (filter (begins_at q) xs)) ≡ true → q ≤ key

more_some : (before : SymbolEntry → SymbolEntry → Bool) (x : SymbolEntry) (xs : List SymbolEntry) (b : Bool)
    → is_some (best before xs) ≡ true → is_some (best before (cond b (x ∷ xs) xs)) ≡ true
more_some before x xs true h = some_fold before xs (Some x) refl
more_some before x xs false h = h

head_some : (before : SymbolEntry → SymbolEntry → Bool) (x : SymbolEntry) (xs : List SymbolEntry) (b : Bool) → b ≡ true
    → is_some (best before (cond b (x ∷ xs) xs)) ≡ true
head_some before x xs true e = some_fold before xs (Some x) refl
head_some before x xs false e = absurd (false≢true e)

upto : (before : SymbolEntry → SymbolEntry → Bool) (key addr : ℕ) (xs : List SymbolEntry) → Holds before key addr xs → Upto key addr xs
upto before key addr [] h = tt
upto before key addr (x ∷ xs) h = (
  λ within. h x.address within (head_some before x (filter (begins_at x.address) xs) (x.address == x.address) (eq-eqb _ _ refl)),
  upto before key addr xs (λ q within some. h q within (more_some before x (filter (begins_at q) xs) (x.address == q) some)),
)

-- the best so far by the address, beside the best so far at the key
abbrev below : ℕ → Option SymbolEntry → Type 0
below key None = Unit {0}
below key (Some z) = z.address < key

abbrev Agree : ℕ → Option SymbolEntry → Option SymbolEntry → Type 0
Agree key o None = below key o
Agree key o (Some y) = (o ≡ Some y) × (y.address ≡ key)

below_pick : (key : ℕ) (b : Bool) (x z : SymbolEntry) → x.address < key → z.address < key → below key (if b then Some x else Some z)
below_pick key true x z h i = h
below_pick key false x z h i = i

-- one that begins below the key is nearer than none that begins there
not_nearer : (strings : List ℕ) (x y : SymbolEntry) → x.address < y.address → entry_nearer strings x y ≡ false
not_nearer strings x y h =
    let more : nat_lt y.address x.address ≡ false = le-ltb _ _ (omega arith) in
    let apart : x.address ≢ y.address = omega arith in
    let other : (x.address == y.address) ≡ false = ne_eqb _ _ apart in
    rw (more, other) refl

nearer : (strings : List ℕ) (x z : SymbolEntry) → z.address < x.address → entry_nearer strings x z ≡ true
nearer strings x z h =
    let more : nat_lt z.address x.address ≡ true = lt-ltb _ _ h in rw more refl

agree_below : (strings : List ℕ) (key : ℕ) (x : SymbolEntry) (o p : Option SymbolEntry) → x.address < key → Agree key o p
    → Agree key (better (entry_nearer strings) o x) p
agree_below strings key x None None h a = h
agree_below strings key x (Some z) None h a = below_pick key (entry_nearer strings x z) x z h a
agree_below strings key x o (Some y) h a =
    let stays : entry_nearer strings x y ≡ false = not_nearer strings x y (omega (arith, a.1)) in
    let same : better (entry_nearer strings) o x ≡ Some y = ap (λ (w : Option SymbolEntry). better (entry_nearer strings) w x) a.0 ∙ rw stays refl in
    (same, a.1)

agree_pick : (key : ℕ) (b : Bool) (x y : SymbolEntry) → x.address ≡ key → y.address ≡ key → Agree key (if b then Some x else Some y) (if b then Some x else Some y)
agree_pick key true x y h i = (refl, h)
agree_pick key false x y h i = (refl, i)

agree_at : (strings : List ℕ) (key : ℕ) (x : SymbolEntry) (o p : Option SymbolEntry) → x.address ≡ key → Agree key o p
    → Agree key (better (entry_nearer strings) o x) (better (entry_nearer strings) p x)
agree_at strings key x None None h a = (refl, h)
agree_at strings key x (Some z) None h a = (rw (nearer strings x z (omega (arith, a))) refl, h)
agree_at strings key x o (Some y) h a =
    let P : Option SymbolEntry → Type 0 = λ w. Agree key (better (entry_nearer strings) w x) (better (entry_nearer strings) (Some y) x) in
    subst P (sym a.0) (agree_pick key (entry_nearer strings x y) x y h a.1)

-- a step of both
abbrev both_bests : (SymbolEntry → SymbolEntry → Bool) → Option SymbolEntry → Option SymbolEntry → List SymbolEntry → List SymbolEntry → Type 0
both_bests before o p xs ys = is_some (fold (better before) p ys) ≡ true → fold (better before) o xs ≡ fold (better before) p ys

step : (strings : List ℕ) (key : ℕ) (x : SymbolEntry) (o p : Option SymbolEntry) (xs ys : List SymbolEntry) (by at : Bool)
    → (by ≡ false → at ≡ false) → (by ≡ true → at ≡ false → x.address < key) → (at ≡ true → x.address ≡ key) → Agree key o p
    → ((o' p' : Option SymbolEntry) → Agree key o' p' → both_bests (entry_nearer strings) o' p' xs ys)
    → both_bests (entry_nearer strings) o p (cond by (x ∷ xs) xs) (cond at (x ∷ ys) ys)
step strings key x o p xs ys false true out less same a rest = absurd (false≢true (sym (out refl)))
step strings key x o p xs ys false false out less same a rest = rest o p a
step strings key x o p xs ys true false out less same a rest =
    rest (better (entry_nearer strings) o x) p (agree_below strings key x o p (less refl refl) a)
step strings key x o p xs ys true true out less same a rest =
    rest (better (entry_nearer strings) o x) (better (entry_nearer strings) p x) (agree_at strings key x o p (same refl) a)

last_agree : (key : ℕ) (o p : Option SymbolEntry) → Agree key o p → is_some p ≡ true → o ≡ p
last_agree key o None a h = absurd (false≢true h)
last_agree key o (Some y) a h = a.0

test_out : (key addr : ℕ) (x : SymbolEntry) → key ≤ addr → begins_by addr x ≡ false → begins_at key x ≡ false
test_out key addr x h e =
    let above : addr < x.address = leb-false _ _ e in
    let apart : x.address ≢ key = omega arith in
    ne_eqb _ _ apart

test_less : (key addr : ℕ) (x : SymbolEntry) → (x.address ≤ addr → x.address ≤ key) → begins_by addr x ≡ true → begins_at key x ≡ false → x.address < key
test_less key addr x u e f =
    let most : x.address ≤ key = u (leb-true _ _ e) in
    let apart : x.address ≢ key = λ same. false≢true (sym f ∙ eq-eqb _ _ same) in
    omega arith

agree_all : (strings : List ℕ) (key addr : ℕ) (xs : List SymbolEntry) (o p : Option SymbolEntry) → key ≤ addr → Upto key addr xs → Agree key o p
    → both_bests (entry_nearer strings) o p (filter (begins_by addr) xs) (filter (begins_at key) xs)
agree_all strings key addr [] o p h u a = last_agree key o p a
agree_all strings key addr (x ∷ xs) o p h u a =
    step strings key x o p (filter (begins_by addr) xs) (filter (begins_at key) xs) (begins_by addr x) (begins_at key x)
    (test_out key addr x h) (test_less key addr x u.0) (λ e. eqb-true _ _ e) a
    (λ o' p' a'. agree_all strings key addr xs o' p' h u.1 a')

none_head : (before : SymbolEntry → SymbolEntry → Bool) (addr : ℕ) (x : SymbolEntry) (xs ys : List SymbolEntry) (b : Bool) → begins_by addr x ≡ b
    → ((q : ℕ) → q ≤ addr → best before (filter (begins_at q) (x ∷ xs)) ≡ None) → best before ys ≡ None → best before (cond b (x ∷ ys) ys) ≡ None
none_head before addr x xs ys true e h rest =
    absurd (none_is _ (h x.address (leb-true _ _ e)) (head_some before x (filter (begins_at x.address) xs) (x.address == x.address) (eq-eqb _ _ refl)))
none_head before addr x xs ys false e h rest = rest

none_tail : (before : SymbolEntry → SymbolEntry → Bool) (x : SymbolEntry) (ys : List SymbolEntry) (b : Bool) (o : Option SymbolEntry)
    → best before (cond b (x ∷ ys) ys) ≡ None → best before ys ≡ None
none_tail before x ys true o h = absurd (none_is _ h (some_fold before ys (Some x) refl))
none_tail before x ys false o h = h

none_by : (before : SymbolEntry → SymbolEntry → Bool) (addr : ℕ) (xs : List SymbolEntry)
    → ((q : ℕ) → q ≤ addr → best before (filter (begins_at q) xs) ≡ None) → best before (filter (begins_by addr) xs) ≡ None
none_by before addr [] h = refl
none_by before addr (x ∷ xs) h =
    none_head before addr x xs (filter (begins_by addr) xs) (begins_by addr x) refl h
    (none_by before addr xs (λ q within. none_tail before x (filter (begins_at q) xs) (x.address == q) None (h q within)))

-- what the table has at the greatest address by another is the nearest function
pub nearest_is : (strings : List ℕ) (functions : List SymbolEntry) (table : BTreeMap ℕ SymbolEntry) (addr : ℕ) (o : Option SymbolEntry)
    → IsAddressTable strings functions table → FindsBefore table addr o → o ≡ best (entry_nearer strings) (filter (begins_by addr) functions)
nearest_is strings functions table addr None kept h =
    sym (none_by (entry_nearer strings) addr functions (λ q within. sym (kept q) ∙ h q within))
nearest_is strings functions table addr (Some e) kept h =
    let key = h.0 in
    let greatest = h.1 in
    let here : best (entry_nearer strings) (filter (begins_at key) functions) ≡ Some e = sym (kept key) ∙ greatest.found in
    let all = upto (entry_nearer strings) key addr functions (λ q within some. greatest.others q within (ap is_some (kept q) ∙ some)) in
    sym (agree_all strings key addr functions None None greatest.within all tt (ap is_some here) ∙ here)

-- the order of addresses, as a table compares them
not_above : (k a : ℕ) (b c : Bool) → nat_lt k a ≡ b → (k == a) ≡ c → is_gt (cond b Less (cond c Equal Greater)) ≡ false → k ≤ a
not_above k a true c e f h = let less : k < a = ltb-true _ _ e in omega arith
not_above k a false true e f h = let same : k ≡ a = eqb-true _ _ f in omega arith
not_above k a false false e f h = absurd (false≢true (sym h))

pub le_by : (k a : ℕ) → IsLeBy nat_cmp k a → k ≤ a
le_by k a h = not_above k a (nat_lt k a) (k == a) refl refl h

above_not : (k a : ℕ) (b c : Bool) → nat_lt k a ≡ b → (k == a) ≡ c → k ≤ a → is_gt (cond b Less (cond c Equal Greater)) ≡ false
above_not k a true c e f h = refl
above_not k a false true e f h = refl
above_not k a false false e f h =
    let more : a ≤ k = ltb-false _ _ e in
    absurd (false≢true (sym f ∙ eq-eqb k a (omega arith)))

pub by_le : (k a : ℕ) → k ≤ a → IsLeBy nat_cmp k a
by_le k a h = above_not k a (nat_lt k a) (k == a) refl refl h

not_below : (k q : ℕ) (b c : Bool) → nat_lt k q ≡ b → (k == q) ≡ c → is_lt (cond b Less (cond c Equal Greater)) ≡ false → q ≤ k
not_below k q true c e f h = absurd (false≢true (sym h))
not_below k q false c e f h = ltb-false _ _ e

pub le_back : (k q : ℕ) → is_lt (nat_cmp k q) ≡ false → q ≤ k
le_back k q h = not_below k q (nat_lt k q) (k == q) refl refl h
