-- A breakpoint that a line inserts can be made.
use Rattle.std.proofs.Common.{◌≡◌, ◌<◌, ◌-◌, ◌/◌, ◌%◌, ℕ, zero, suc, Bool, true, false, cond, List, [], ◌∷◌, length, refl, ◌∙◌, arith}
use Rattle.std.specs.Prelude.{Option, Some, None, is_some, find, option_and_then, slice_get, ◌&&◌, ◌||◌, ◌==◌, nat_le}
use Rattle.std.specs.List.{list_any}
use Rattle.std.proofs.lemmas.Bool.Decides.{nat_tests}
use Rattle.std.proofs.lemmas.Option.{slice_get_within}
use Rattle.elf32_read.specs.Program.{Program, Text, text_word, in_words}
use Rattle.break_table.specs.Entry.{Asked}
use Rattle.break_table.specs.Table.{Table, insert_fault, is_thread}
use Rattle.break_table.specs.Text.{is_instruction, is_place}
use Rattle.dbg_model.specs.Outcome.{inserts}
use Rattle.dbg_model.specs.Sight.{thread_at}
use Rattle.dbg_model.proofs.Founding.{IsFounded, IsThereOr}

found_by : (x : Text) (xs : List Text) (holds : Text → Bool) (f : Text → Option ℕ) (b : Bool) → holds x ≡ b → is_some (option_and_then f (cond b (Some x) (find holds xs))) ≡ true
    → (is_some (option_and_then f (find holds xs)) ≡ true → list_any holds xs ≡ true) → (b || list_any holds xs) ≡ true
found_by x xs holds f true is e ih = refl
found_by x xs holds f false is e ih = ih e

found_any : (xs : List Text) (holds : Text → Bool) (f : Text → Option ℕ) → is_some (option_and_then f (find holds xs)) ≡ true → list_any holds xs ≡ true
found_any [] holds f e = cc
found_any (x ∷ xs) holds f e = found_by x xs holds f (holds x) refl e (found_any xs holds f)

word_by : (p : Program) (a : ℕ) (b : Bool) → (a % 4 == 0) ≡ b → is_some (cond b (option_and_then (λ (t : Text). slice_get t.words ((a - t.address) / 4)) (find (in_words a) p.text)) None) ≡ true → (b && list_any (in_words a) p.text) ≡ true
word_by p a true is e = found_any p.text (in_words a) (λ (t : Text). slice_get t.words ((a - t.address) / 4)) e
word_by p a false is e = cc

-- a word of text is an instruction's place
pub word_place : (p : Program) (a : ℕ) → is_some (text_word p a) ≡ true → is_instruction p a ≡ true
word_place p a e = word_by p a (a % 4 == 0) refl e

pub there : {A : Type 0} (r : Option A) → is_some r ≡ true → (x : A) × (r ≡ Some x)
there None e = cc
there (Some x) e = (x, refl)

thread_by : {A : Type 0} (xs : List A) (n t : ℕ) → length xs ≡ n → is_some (thread_at xs t) ≡ true → (nat_le 1 t && nat_le t n) ≡ true
thread_by xs n zero len e = cc
thread_by xs n (suc h) len e =
    let x = there (slice_get xs h) e in
    let low = slice_get_within xs h x.0 x.1 in
    let first : nat_le 1 (suc h) ≡ true = grind (arith, nat_tests) in
    let second : nat_le (suc h) n ≡ true = grind (arith, nat_tests) in
    rw (first, second) refl

thread_known : {A : Type 0} (xs : List A) (n : ℕ) (t : Option ℕ) → length xs ≡ n → IsThereOr xs t → is_thread n t ≡ true
thread_known xs n None len is = refl
thread_known xs n (Some t) len is = thread_by xs n t len is

not_full : (n : ℕ) → n < 128 → nat_le 128 n ≡ false
not_full n low = grind (arith, nat_tests)

-- in a table that has the places of the file, and as many waits as there are harts
pub can_insert : {A : Type 0} (p : Program) (xs : List A) (t : Table) (a : Asked) → is_place t.text a.address ≡ is_instruction p a.address → length xs ≡ length t.waits → IsFounded p xs t.entries (inserts a) → insert_fault t a ≡ None
can_insert p xs t a place len f =
    let placed : is_place t.text a.address ≡ true = place ∙ word_place p a.address f.0 in
    let full : nat_le 128 (length t.entries) ≡ false = not_full (length t.entries) f.1 in
    let known : is_thread (length t.waits) a.thread ≡ true = thread_known xs (length t.waits) a.thread len f.2 in
    rw (placed, full, known) refl
