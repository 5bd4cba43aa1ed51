-- A change of the entry of a number, whether or not it is there.
use Rattle.std.proofs.Common.{◌≡◌, ℕ, Bool, true, false, cond, List, [], ◌∷◌, refl, sym, ap, ◌∙◌, not, map, filter}
use Rattle.std.specs.Prelude.{Some, None, ◌||◌, ◌==◌, Result, Ok, Err, OnOk, OnErr}
use Rattle.break_table.specs.declared.fault.BreakFault.{BreakFault}
use Rattle.break_table.specs.Entry.{Entry}
use Rattle.break_table.specs.Table.{Table, changed, changed_entry, deleted, has_number, is_other, missing, Answers}

deleted_by : (e : Entry) (es : List Entry) (n : ℕ) (is : Bool) → (is || has_number n es) ≡ false → (has_number n es ≡ false → filter (is_other n) es ≡ es)
    → cond (not is) (e ∷ filter (is_other n) es) (filter (is_other n) es) ≡ e ∷ es
deleted_by e es n true none rest = cc
deleted_by e es n false none rest = ap (λ t. e ∷ t) (rest none)

absent_deleted : (es : List Entry) (n : ℕ) → has_number n es ≡ false → filter (is_other n) es ≡ es
absent_deleted [] n none = refl
absent_deleted (e ∷ es) n none = deleted_by e es n (e.number == n) none (absent_deleted es n)

changed_by : (f : Entry → Entry) (e : Entry) (es : List Entry) (n : ℕ) (is : Bool) → (is || has_number n es) ≡ false → (has_number n es ≡ false → map (changed_entry f n) es ≡ es)
    → cond is (f e) e ∷ map (changed_entry f n) es ≡ e ∷ es
changed_by f e es n true none rest = cc
changed_by f e es n false none rest = ap (λ t. e ∷ t) (rest none)

absent_changed : (f : Entry → Entry) (es : List Entry) (n : ℕ) → has_number n es ≡ false → map (changed_entry f n) es ≡ es
absent_changed f [] n none = refl
absent_changed f (e ∷ es) n none = changed_by f e es n (e.number == n) none (absent_changed f es n)

-- with no entry the answer is an error, and nothing changed
either : {A : Type 0} (r : Result A BreakFault) (old new next : Table) (k : ℕ) (is : Bool) → has_number k old.entries ≡ is → Answers r (missing k old.entries) → OnOk r (new ≡ next) → OnErr r (new ≡ old)
    → (has_number k old.entries ≡ false → old ≡ next) → new ≡ next
either (Ok a) old new next k is has answers ok err none = ok
either (Err e) old new next k true has answers ok err none = let there : missing k old.entries ≡ None = rw has refl in let f : Some e ≡ None = sym answers ∙ there in absurd cc
either (Err e) old new next k false has answers ok err none = err ∙ none has

pub either_deleted : {A : Type 0} (r : Result A BreakFault) (old new : Table) (k : ℕ) → Answers r (missing k old.entries) → OnOk r (new ≡ deleted k old) → OnErr r (new ≡ old) → new ≡ deleted k old
either_deleted r old new k answers ok err =
    either r old new (deleted k old) k (has_number k old.entries) refl answers ok err (λ none. ap (λ es. let t : Table = record old { entries = es } in t) (sym (absent_deleted old.entries k none)))

pub either_changed : {A : Type 0} (f : Entry → Entry) (r : Result A BreakFault) (old new : Table) (k : ℕ) → Answers r (missing k old.entries) → OnOk r (new ≡ changed f k old) → OnErr r (new ≡ old) → new ≡ changed f k old
either_changed f r old new k answers ok err =
    either r old new (changed f k old) k (has_number k old.entries) refl answers ok err (λ none. ap (λ es. let t : Table = record old { entries = es } in t) (sym (absent_changed f old.entries k none)))
