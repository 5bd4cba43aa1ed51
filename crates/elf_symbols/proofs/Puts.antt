-- One entry more in the tables of the look-ups.
use Rattle.std.proofs.Common.{◌≡◌, ℕ, ◌+◌, ◌<◌, ◌≤◌, arith, Bool, true, false, cond, List, [], ◌∷◌, ◌++◌, Option, None, Some, filter, length, take, get_or, refl, sym, ◌∙◌, ap, subst, ⊎_elim, append-nil, eqb-true}
use Rattle.std.specs.Prelude.{if◌then◌else◌, fold, unwrap_or, ◌==◌}
use Rattle.std.specs.Option.{option_map_or}
use Rattle.std.specs.Str.{bytes_eq}
use Rattle.std.specs.Ordering.{is_eq, nat_cmp}
use Rattle.std.specs.Cmp.{eq_by_cmp_equiv, unsigned_ties}
use Rattle.std.specs.Cmp.Lexicographic.{slice_cmp, bytes_decides, nat_list_cmp_total, nat_list_eq_equiv}
use Rattle.std.specs.BTreeMap as tree
use Rattle.std.specs.BTreeMap.{BTreeMap, is_at}
use Rattle.std.specs.Map.{lookup, IsKeyTest, AreApart, KeepsOthers}
use Rattle.std.specs.Global.{Vec}
use Rattle.std.proofs.lemmas.Bool.{cases_Bool, cond-true, cond-false}
use Rattle.std.proofs.lemmas.List.Elements.{filter_more}
use Rattle.std.proofs.lemmas.Map.Text.{is_eq-slice_cmp}
use Rattle.elf32_read.specs.Fields.{name_at}
use Rattle.elf_symbols.specs.Names.{better, best}
use Rattle.elf_symbols.specs.Entries.{entry_named, entry_preferred, entry_nearer}
use Rattle.elf_symbols.specs.Lookups.{at_name, at_address, AddsName, AddsAddress, IsLong}
use Rattle.elf_symbols.specs.declared.entry.SymbolEntry.{SymbolEntry}

fold-append : {A : Type 0} (before : A → A → Bool) (xs : List A) (o : Option A) (x : A)
    → fold (better before) o (xs ++ x ∷ []) ≡ better before (fold (better before) o xs) x
fold-append before [] o x = refl
fold-append before (y ∷ ys) o x = fold-append before ys (better before o y) x

best_pick : {A : Type 0} (before : A → A → Bool) (xs : List A) (x : A) (b : Bool)
    → best before (xs ++ cond b (x ∷ []) []) ≡ (if b then better before (best before xs) x else best before xs)
best_pick before xs x true = fold-append before xs None x
best_pick before xs x false = ap (best before) (append-nil xs)

-- the best of one element more
pub best_more : {A : Type 0} (before : A → A → Bool) (p : A → Bool) (xs : List A) (i : ℕ) (d : A) → i < length xs
    → best before (filter p (take (i + 1) xs))
    ≡ (if p (get_or xs i d) then better before (best before (filter p (take i xs))) (get_or xs i d) else best before (filter p (take i xs)))
best_more before p xs i d h =
    ap (best before) (filter_more p xs i d h) ∙ best_pick before (filter p (take i xs)) (get_or xs i d) (p (get_or xs i d))

-- a look-up by bytes, after a change at others
apart : (bs cs ks : List ℕ) → bytes_eq bs cs ≡ false → bytes_eq bs ks ≡ true → bytes_eq cs ks ≡ false
apart bs cs ks n y = nat_list_eq_equiv.symm cs ks ∙ sym (nat_list_eq_equiv.congr bs ks cs y) ∙ n

apart_in_order : (bs cs ks : List ℕ) → bytes_eq bs cs ≡ false → is_eq (slice_cmp nat_cmp bs ks) ≡ true → is_eq (slice_cmp nat_cmp cs ks) ≡ false
apart_in_order bs cs ks n y = is_eq-slice_cmp cs ks ∙ apart bs cs ks n (sym (is_eq-slice_cmp bs ks) ∙ y)

others_stay : {K X : Type 0} (eq : K → K → Bool) (test : K → Bool) (old new : List (K × X)) → KeepsOthers eq test old new
    → (other : K → Bool) → IsKeyTest eq other → AreApart test other → lookup other new ≡ lookup other old
unfolding KeepsOthers
others_stay eq test old new h = h

by_bytes : {W : Type 0} (f g : List ℕ → W) (bs : List ℕ) (w : W) → g bs ≡ w → ((cs : List ℕ) → bytes_eq bs cs ≡ false → g cs ≡ f cs)
    → (cs : List ℕ) → g cs ≡ cond (bytes_eq bs cs) w (f cs)
by_bytes f g bs w here other cs =
    ⊎_elim
    (λ y. subst (λ l. g l ≡ w) ((bytes_decides bs cs).0 y) here ∙ sym (cond-true (bytes_eq bs cs) w (f cs) y))
    (λ n. other cs n ∙ sym (cond-false (bytes_eq bs cs) w (f cs) n))
    (cases_Bool (bytes_eq bs cs))

pub name_updates : (bs : List ℕ) (m n : BTreeMap (Vec ℕ) SymbolEntry) (w : Option SymbolEntry)
    → tree.UpdatesBy (λ x y. slice_cmp nat_cmp x.items y.items) (λ k. slice_cmp nat_cmp bs k.items) m n w
    → (cs : List ℕ) → at_name n cs ≡ cond (bytes_eq bs cs) w (at_name m cs)
name_updates bs m n w h =
    by_bytes (at_name m) (at_name n) bs w h.1
    (λ cs e. others_stay _ _ _ _ h.3 _ (λ x y. (eq_by_cmp_equiv nat_list_cmp_total).congr cs x.items y.items) (λ k. apart_in_order bs cs k.items e))

-- a test by the name of an entry
named_by : (b : ℕ) (bs : List ℕ) (o : Option (List ℕ)) → bytes_eq (b ∷ bs) (unwrap_or o []) ≡ option_map_or (bytes_eq (b ∷ bs)) o false
named_by b bs None = refl
named_by b bs (Some name) = refl

cond_same : {X : Type 0} (f : List ℕ → X) (n q : List ℕ) (b : Bool) (g : X → X) → bytes_eq n q ≡ b → cond b (g (f n)) (f q) ≡ (if b then g (f q) else f q)
cond_same f n q true g e = ap (λ (l : List ℕ). g (f l)) ((bytes_decides n q).0 e)
cond_same f n q false g e = refl

-- from what the new table has at each name
pub adds_name : (strings : List ℕ) (e : SymbolEntry) (m n : BTreeMap (Vec ℕ) SymbolEntry) (name : List ℕ)
    → name ≡ unwrap_or (name_at strings e.name) []
    → ((q : List ℕ) → at_name n q ≡ cond (bytes_eq name q) (better entry_preferred (at_name m name) e) (at_name m q))
    → AddsName strings e m n
adds_name strings e m n name is h b bs short =
    let test : bytes_eq name (b ∷ bs) ≡ entry_named strings (b ∷ bs) e =
    nat_list_eq_equiv.symm name (b ∷ bs) ∙ ap (bytes_eq (b ∷ bs)) is ∙ named_by b bs (name_at strings e.name) in
    h (b ∷ bs)
    ∙ cond_same (at_name m) name (b ∷ bs) (bytes_eq name (b ∷ bs)) (λ o. better entry_preferred o e) refl
    ∙ ap (λ (t : Bool). if t then better entry_preferred (at_name m (b ∷ bs)) e else at_name m (b ∷ bs)) test

false_if : (b : Bool) → (b ≡ true → ⊥) → b ≡ false
false_if true h = absurd (h refl)
false_if false h = refl

-- an entry with a long name, or with none, has no short one
long_not_named : (name : List ℕ) (o : Option (List ℕ)) → IsLong o → length name ≤ 40 → option_map_or (bytes_eq name) o false ≡ false
long_not_named name None h short = refl
long_not_named name (Some m) h short =
    false_if (bytes_eq name m) (λ e. let same : length name ≡ length m = ap length ((bytes_decides name m).0 e) in absurd (omega arith))

-- nothing changes by an entry whose name isn't kept
pub keeps_long : (strings : List ℕ) (e : SymbolEntry) (m : BTreeMap (Vec ℕ) SymbolEntry) → IsLong (name_at strings e.name) → AddsName strings e m m
keeps_long strings e m long b bs short =
    ap (λ (t : Bool). if t then better entry_preferred (at_name m (b ∷ bs)) e else at_name m (b ∷ bs))
    (sym (long_not_named (b ∷ bs) (name_at strings e.name) long short))

same_or : {X : Type 0} (b : Bool) (x : X) → (if b then Some x else Some x) ≡ Some x
same_or true x = refl
same_or false x = refl

-- an entry beside itself is the first one
first_kept : (e : SymbolEntry) (o : Option SymbolEntry) → better entry_preferred (Some (unwrap_or o e)) e ≡ better entry_preferred o e
first_kept e None = same_or (entry_preferred e e) e
first_kept e (Some other) = refl

-- from the one that is there once the better one was written
pub entered : (strings : List ℕ) (e kept done : SymbolEntry) (m n : BTreeMap (Vec ℕ) SymbolEntry) (name : List ℕ)
    → name ≡ unwrap_or (name_at strings e.name) [] → kept ≡ unwrap_or (at_name m name) e → Some done ≡ better entry_preferred (Some kept) e
    → ((q : List ℕ) → at_name n q ≡ cond (bytes_eq name q) (Some done) (at_name m q)) → AddsName strings e m n
entered strings e kept done m n name is was better_one updates =
    let value : Some done ≡ better entry_preferred (at_name m name) e =
    better_one ∙ ap (λ (x : SymbolEntry). better entry_preferred (Some x) e) was ∙ first_kept e (at_name m name) in
    adds_name strings e m n name is (λ q. updates q ∙ ap (λ (o : Option SymbolEntry). cond (bytes_eq name q) o (at_name m q)) value)

number_same : (f : ℕ → Option SymbolEntry) (k q : ℕ) (b : Bool) (g : Option SymbolEntry → Option SymbolEntry) → (k == q) ≡ b
    → cond b (g (f k)) (f q) ≡ (if b then g (f q) else f q)
number_same f k q true g e = ap (λ (l : ℕ). g (f l)) (eqb-true _ _ e)
number_same f k q false g e = refl

pub adds_address : (strings : List ℕ) (e : SymbolEntry) (m n : BTreeMap ℕ SymbolEntry)
    → ((q : ℕ) → at_address n q ≡ cond (is_at (nat_cmp e.address) q) (better (entry_nearer strings) (at_address m e.address) e) (at_address m q))
    → AddsAddress strings e m n
adds_address strings e m n h q =
    h q
    ∙ ap (λ (t : Bool). cond t (better (entry_nearer strings) (at_address m e.address) e) (at_address m q)) (sym (unsigned_ties e.address q))
    ∙ number_same (at_address m) e.address q (e.address == q) (λ o. better (entry_nearer strings) o e) refl

number_stays : (f : ℕ → Option SymbolEntry) (k q : ℕ) (w : Option SymbolEntry) (b : Bool) → w ≡ f k → (k == q) ≡ b → f q ≡ cond b w (f q)
number_stays f k q w true e t = ap f (sym (eqb-true _ _ t)) ∙ sym e
number_stays f k q w false e t = refl

pub keeps_address : (strings : List ℕ) (e other : SymbolEntry) (m : BTreeMap ℕ SymbolEntry)
    → at_address m e.address ≡ Some other → entry_nearer strings e other ≡ false → AddsAddress strings e m m
keeps_address strings e other m there worse =
    let stays : better (entry_nearer strings) (at_address m e.address) e ≡ at_address m e.address =
    ap (λ (o : Option SymbolEntry). better (entry_nearer strings) o e) there ∙ rw worse refl ∙ sym there in
    adds_address strings e m m
    (λ q. number_stays (at_address m) e.address q _ (e.address == q) stays refl
    ∙ ap (λ (t : Bool). cond t (better (entry_nearer strings) (at_address m e.address) e) (at_address m q)) (unsigned_ties e.address q))
