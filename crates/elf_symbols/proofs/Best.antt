-- The best of a mapped list.
use Rattle.std.proofs.Common.{◌≡◌, ℕ, ◌≤◌, Bool, true, false, cond, List, [], ◌∷◌, Option, None, Some, map, filter, refl, sym, ◌∙◌, ap, suc, arith, eqb-true}
use Rattle.std.specs.Prelude.{if◌then◌else◌, fold, option_and_then, unwrap_or, nat_le, ◌==◌, length}
use Rattle.std.specs.Option.{option_map, option_map_or}
use Rattle.std.specs.Str.{bytes_eq}
use Rattle.std.specs.BTreeMap.{BTreeMap}
use Rattle.std.specs.Global.{Vec}
use Rattle.elf32_read.specs.Fields.{name_at}
use Rattle.elf_symbols.specs.Names.{Symbol, Names, better, best, foremost, is_preferred, is_nearer, address_of, function_at, covering}
use Rattle.elf_symbols.specs.Entries.{symbol_of, entry_preferred, entry_nearer, entry_named, begins_by}
use Rattle.elf_symbols.specs.Lookups.{at_name, IsNameTable}
use Rattle.elf_symbols.proofs.Foremost.{foremost_is, nearer_order, preferred_order}
use Rattle.elf_symbols.specs.declared.entry.SymbolEntry.{SymbolEntry}

better_map : {X Y : Type 0} (before : Y → Y → Bool) (f : X → Y) (o : Option X) (x : X)
    → better before (option_map f o) (f x) ≡ option_map f (better (λ a b. before (f a) (f b)) o x)
better_map before f None x = refl
better_map {X} {Y} before f (Some y) x = pick (before (f x) (f y)) f x y
  where
    pick : {X Y : Type 0} (b : Bool) (f : X → Y) (x y : X) → (if b then Some (f x) else Some (f y)) ≡ option_map f (if b then Some x else Some y)
    pick true f x y = refl
    pick false f x y = refl

-- the best of the mapped elements that pass, from a start
best_step : {X Y : Type 0} (before : Y → Y → Bool) (f : X → Y) (p : Y → Bool) (q : X → Bool) (xs : List X) (o : Option X) → ((x : X) → p (f x) ≡ q x)
    → fold (better before) (option_map f o) (filter p (map f xs)) ≡ option_map f (fold (better (λ a b. before (f a) (f b))) o (filter q xs))
best_step before f p q [] o e = refl
best_step {X} {Y} before f p q (x ∷ xs) o e =
    rw (e x) (either (q x) before f p q x xs o (best_step before f p q xs o e) (best_step before f p q xs (better (λ a b. before (f a) (f b)) o x) e) (better_map before f o x))
  where
    either : {X Y : Type 0} (b : Bool) (before : Y → Y → Bool) (f : X → Y) (p : Y → Bool) (q : X → Bool) (x : X) (xs : List X) (o : Option X)
        → fold (better before) (option_map f o) (filter p (map f xs)) ≡ option_map f (fold (better (λ a b. before (f a) (f b))) o (filter q xs))
        → fold (better before) (option_map f (better (λ a b. before (f a) (f b)) o x)) (filter p (map f xs))
        ≡ option_map f (fold (better (λ a b. before (f a) (f b))) (better (λ a b. before (f a) (f b)) o x) (filter q xs))
        → better before (option_map f o) (f x) ≡ option_map f (better (λ a b. before (f a) (f b)) o x)
        → fold (better before) (option_map f o) (cond b (f x ∷ filter p (map f xs)) (filter p (map f xs)))
        ≡ option_map f (fold (better (λ a b. before (f a) (f b))) o (cond b (x ∷ filter q xs) (filter q xs)))
    either {X} {Y} true before f p q x xs o rest taken same = ap (λ (start : Option Y). fold (better before) start (filter p (map f xs))) same ∙ taken
    either false before f p q x xs o rest taken same = rest

best_map : {X Y : Type 0} (before : Y → Y → Bool) (f : X → Y) (p : Y → Bool) (q : X → Bool) (xs : List X) → ((x : X) → p (f x) ≡ q x)
    → best before (filter p (map f xs)) ≡ option_map f (best (λ a b. before (f a) (f b)) (filter q xs))
best_map before f p q xs e = best_step before f p q xs None e

same_name : (b : ℕ) (bs : List ℕ) (o : Option (List ℕ)) → bytes_eq (b ∷ bs) (unwrap_or o []) ≡ option_map_or (bytes_eq (b ∷ bs)) o false
same_name b bs None = refl
same_name b bs (Some name) = refl

-- the symbol of a name, by the entries
pub entry_address : (strings name : List ℕ) (symbols : List SymbolEntry) (names : Names) → (length name == 0) ≡ false
    → map (symbol_of strings) symbols ≡ names.symbols
    → option_map (symbol_of strings) (best entry_preferred (filter (entry_named strings name) symbols)) ≡ address_of names name
entry_address strings [] symbols names some e = cc
entry_address strings (b ∷ bs) symbols names some e =
    sym (best_map is_preferred (symbol_of strings) (λ s. bytes_eq (b ∷ bs) s.name) (entry_named strings (b ∷ bs)) symbols (λ x. same_name b bs (name_at strings x.name)))
    ∙ foremost_is is_preferred preferred_order (filter (λ s. bytes_eq (b ∷ bs) s.name) (map (symbol_of strings) symbols))
    ∙ ap (λ (xs : List Symbol). foremost is_preferred (filter (λ s. bytes_eq (b ∷ bs) s.name) xs)) e

-- the symbol of a name of at most 40 bytes, by their table
pub found_address : (strings name : List ℕ) (symbols : List SymbolEntry) (names : Names) (table : BTreeMap (Vec ℕ) SymbolEntry)
    → IsNameTable strings symbols table → length name ≤ 40 → (length name == 0) ≡ false → map (symbol_of strings) symbols ≡ names.symbols
    → option_map (symbol_of strings) (at_name table name) ≡ address_of names name
found_address strings [] symbols names table kept short some e = cc
found_address strings (b ∷ bs) symbols names table kept short some e =
    ap (option_map (symbol_of strings)) (kept b bs short) ∙ entry_address strings (b ∷ bs) symbols names some e

-- the function at an address, by the entries
pub entry_function : (strings : List ℕ) (functions : List SymbolEntry) (names : Names) (addr : ℕ) → map (symbol_of strings) functions ≡ names.functions
    → option_and_then (covering addr) (option_map (symbol_of strings) (best (entry_nearer strings) (filter (begins_by addr) functions))) ≡ function_at names addr
entry_function strings functions names addr e =
    ap (option_and_then (covering addr))
    (sym (best_map is_nearer (symbol_of strings) (λ s. nat_le s.address addr) (begins_by addr) functions (λ x. refl))
    ∙ foremost_is is_nearer nearer_order (filter (λ s. nat_le s.address addr) (map (symbol_of strings) functions))
    ∙ ap (λ (xs : List Symbol). foremost is_nearer (filter (λ s. nat_le s.address addr) xs)) e)

pub no_address : (names : Names) (name : List ℕ) → (length name == 0) ≡ true → address_of names name ≡ None
no_address names [] e = refl
no_address names (b ∷ bs) e = absurd (never (length bs) (eqb-true _ _ e))
  where
    never : (n : ℕ) → suc n ≡ 0 → ⊥
    never n h = omega arith
