-- What is said where harts leave.
use Rattle.std.proofs.Common.{◌≡◌, ℕ, ◌+◌, ◌%◌, Bool, true, false, cond, List, [], ◌∷◌, ◌++◌, length, refl, sym, ap, ◌∙◌, append_assoc, subst}
use Rattle.std.specs.Prelude.{◌&&◌, ◌||◌, map, slice_get}
use mathlib.Core.List.{append-nil}
use Rattle.dbg_model.specs.declared.entry.Mode.{Mode}
use Rattle.dbg_model.specs.declared.entry.Mode.TheVariants as mode
use Rattle.dbg_model.specs.declared.entry.Entry.{Entry}
use Rattle.dbg_model.specs.declared.entry.Entry.TheVariants.{Left}
use Rattle.dbg_model.specs.declared.opening.Opening.{Opening}
use Rattle.dbg_model.specs.declared.hart.Hart.{Hart}
use Rattle.dbg_model.specs.State.{State, any_leaves, is_leaving, has_exited, all_gone, hart_gone}
use Rattle.dbg_model.specs.Lawful.{exited, exited_at}
use Rattle.dbg_model.specs.Leaving.{lefts_from, left_one, gone, gone_by, LeaveWith, LeavesWith}
use Rattle.dbg_model.specs.Journals.{Leaves}
use Rattle.dbg_model.proofs.Adding.{added}
use Rattle.dbg_model.proofs.Counting.{length-both}
use Rattle.dbg_model.proofs.Leaving.{at_end, set_end, leaves_next, any_append, placed}
use Rattle.mi_values.specs.Record.{LineTree}
use Rattle.mi_reports.specs.Text.{gone_lines, exit_lines}
use Rattle.mi_reports.specs.Said.{said_lines, entry_lines}
use Rattle.mi_reports.proofs.Saying.{said_added}

-- the exits among entries, without that of the program
abbrev pub gone_trees : List Entry → List LineTree
gone_trees [] = []
gone_trees (Left h code ∷ es) = gone_lines h ++ gone_trees es
gone_trees (e ∷ es) = gone_trees es

-- the exits, of which the last may be that of the program
abbrev pub lefts_lines : List Entry → Bool → ℕ → List LineTree
lefts_lines es all code = gone_trees es ++ cond all (exit_lines (code % 256)) []

abbrev last_lines : Bool → ℕ → List LineTree
last_lines b code = cond b (exit_lines (code % 256)) []

abbrev left_lines : Bool → ℕ → Mode → List Hart → List LineTree
left_lines g k mode.Stopped xs = []
left_lines g k mode.Running xs = []
left_lines g k (mode.Leaving code) xs = gone_lines k ++ last_lines (g && all_gone xs) code
left_lines g k mode.Exited xs = []

-- what harts from k on say where they leave; g says whether no hart before them is live
abbrev leaving_lines : Bool → ℕ → List Hart → List LineTree
leaving_lines g k [] = []
leaving_lines g k (x ∷ xs) = left_lines g k x.mode xs ++ leaving_lines (g && hart_gone (gone x)) (k + 1) xs

and_assoc : (a b c : Bool) → ((a && b) && c) ≡ (a && (b && c))
and_assoc true b c = refl
and_assoc false b c = refl

and_true : (b : Bool) → (b && true) ≡ b
and_true true = refl
and_true false = refl

all-append : (xs ys : List Hart) → all_gone (xs ++ ys) ≡ (all_gone xs && all_gone ys)
all-append [] ys = refl
all-append (x ∷ xs) ys = ap (λ b. hart_gone x && b) (all-append xs ys) ∙ sym (and_assoc (hart_gone x) (all_gone xs) (all_gone ys))

-- what is said after the harts of a list have left
abbrev Says : Opening → List Entry → List Hart → List Hart → Type 0
Says o j front xs = said_lines o (j ++ lefts_from (length front) xs) ≡ said_lines o j ++ leaving_lines (all_gone front) (length front) xs

-- one hart is done with
next_says : (o : Opening) (j : List Entry) (front : List Hart) (x : Hart) (xs : List Hart) (e : List Entry) (t : List LineTree) → left_one (length front) x.mode ≡ e → left_lines (all_gone front) (length front) x.mode xs ≡ t
    → said_lines o (j ++ e) ≡ said_lines o j ++ t → Says o (j ++ e) (front ++ gone x ∷ []) xs → Says o j front (x ∷ xs)
next_says o j front x xs e t lefts text first rest =
    let k = length front in
    let len : length (front ++ gone x ∷ []) ≡ k + 1 = length-both front (gone x ∷ []) in
    let all : all_gone (front ++ gone x ∷ []) ≡ (all_gone front && hart_gone (gone x)) = all-append front (gone x ∷ []) ∙ ap (λ b. all_gone front && b) (and_true (hart_gone (gone x))) in
    let P : ℕ → Bool → Type 0 = λ n g. said_lines o ((j ++ e) ++ lefts_from n xs) ≡ said_lines o (j ++ e) ++ leaving_lines g n xs in
    let r : P (k + 1) (all_gone front && hart_gone (gone x)) = subst (λ (n : ℕ). P n (all_gone front && hart_gone (gone x))) len (subst (λ (g : Bool). P (length (front ++ gone x ∷ [])) g) all rest) in
    let tail = leaving_lines (all_gone front && hart_gone (gone x)) (k + 1) xs in
    ap (λ es. said_lines o (j ++ (es ++ lefts_from (k + 1) xs))) lefts
    ∙ (ap (said_lines o) (sym (append_assoc j e (lefts_from (k + 1) xs)))
    ∙ (r ∙ (ap (λ u. u ++ tail) first ∙ (append_assoc (said_lines o j) t tail ∙ ap (λ u. said_lines o j ++ (u ++ tail)) (sym text)))))

quiet_said : (o : Opening) (j : List Entry) → said_lines o (j ++ []) ≡ said_lines o j ++ []
quiet_said o j = ap (said_lines o) (append-nil j) ∙ sym (append-nil (said_lines o j))

-- the line of a hart that leaves
left_says : (o : Opening) (s : State) (front : List Hart) (x : Hart) (xs : List Hart) (code noted : ℕ)
    → entry_lines o (placed s (front ++ x ∷ xs) noted) (Left (length front) code) ≡ gone_lines (length front) ++ last_lines (all_gone front && all_gone xs) code
left_says o s front x xs code noted =
    let h = length front in
    let at : exited_at (front ++ x ∷ xs) h (slice_get (front ++ x ∷ xs) h) ≡ front ++ exited x ∷ xs = ap (exited_at (front ++ x ∷ xs) h) (at_end front x xs) ∙ set_end front x (exited x) xs in
    ap (λ ys. gone_lines h ++ last_lines (all_gone ys) code) at ∙ ap (λ b. gone_lines h ++ last_lines b code) (all-append front (exited x ∷ xs))

says_by : (o : Opening) (j : List Entry) (s : State) (front : List Hart) (x : Hart) (xs : List Hart) (noted : ℕ) (m : Mode) → x.mode ≡ m → s.exited ≡ false → any_leaves front ≡ false → Leaves o j (placed s (front ++ x ∷ xs) noted)
    → ((k : List Entry) (y : Hart) (n : ℕ) → is_leaving y.mode ≡ false → Leaves o k (placed s ((front ++ y ∷ []) ++ xs) n) → Says o k (front ++ y ∷ []) xs)
    → Says o j front (x ∷ xs)
says_by o j s front x xs noted (mode.Leaving code) is still quiet l ih =
    let same : gone x ≡ exited x = ap (λ m. gone_by m x) is in
    let e : Entry = Left (length front) code in
    let goes : Leaves o (j ++ e ∷ []) (placed s (front ++ exited x ∷ xs) (noted + 1)) =
    added o j (placed s (front ++ x ∷ xs) noted) (placed s (front ++ exited x ∷ xs) (noted + 1)) e l refl (leaves_next o s front x xs code noted still quiet is) in
    let rest : Says o (j ++ e ∷ []) (front ++ exited x ∷ []) xs = ih (j ++ e ∷ []) (exited x) (noted + 1) refl (rw (append_assoc front (exited x ∷ []) xs) goes) in
    next_says o j front x xs (e ∷ []) (gone_lines (length front) ++ last_lines (all_gone front && all_gone xs) code) (ap (left_one (length front)) is) (ap (λ m. left_lines (all_gone front) (length front) m xs) is)
    (said_added o j (placed s (front ++ x ∷ xs) noted) e l ∙ ap (λ t. said_lines o j ++ t) (left_says o s front x xs code noted))
    (rw same rest)
says_by o j s front x xs noted m is still quiet l ih =
    let same : gone x ≡ x = ap (λ n. gone_by n x) is in
    let rest : Says o j (front ++ x ∷ []) xs = ih j x noted (ap is_leaving is) (rw (append_assoc front (x ∷ []) xs) l) in
    next_says o j front x xs [] [] (ap (left_one (length front)) is) (ap (λ n. left_lines (all_gone front) (length front) n xs) is) (quiet_said o j)
    (rw (append-nil j, same) rest)

says : (o : Opening) (j : List Entry) (s : State) (front xs : List Hart) (noted : ℕ) → s.exited ≡ false → any_leaves front ≡ false → Leaves o j (placed s (front ++ xs) noted) → Says o j front xs
says o j s front [] noted still quiet l = quiet_said o j
says o j s front (x ∷ xs) noted still quiet l =
    says_by o j s front x xs noted x.mode refl still quiet l
    (λ k y n stays l'. says o k s (front ++ y ∷ []) xs n still (any_append front (y ∷ []) quiet (rw stays refl)) l')

or_false : (a b : Bool) → (a || b) ≡ false → (a ≡ false) × (b ≡ false)
or_false true b h = cc
or_false false b h = (refl, h)

quiet_left : (k : ℕ) (m : Mode) → is_leaving m ≡ false → left_one k m ≡ []
quiet_left k (mode.Leaving code) h = cc
quiet_left k m h = refl

quiet_gone : (x : Hart) (m : Mode) → is_leaving m ≡ false → gone_by m x ≡ x
quiet_gone x (mode.Leaving code) h = cc
quiet_gone x m h = refl

quiet_lefts : (k : ℕ) (xs : List Hart) → any_leaves xs ≡ false → lefts_from k xs ≡ []
quiet_lefts k [] h = refl
quiet_lefts k (x ∷ xs) h = let b = or_false (is_leaving x.mode) (any_leaves xs) h in ap (λ t. t ++ lefts_from (k + 1) xs) (quiet_left k x.mode b.0) ∙ quiet_lefts (k + 1) xs b.1

quiet_map : (xs : List Hart) → any_leaves xs ≡ false → map gone xs ≡ xs
quiet_map [] h = refl
quiet_map (x ∷ xs) h = let b = or_false (is_leaving x.mode) (any_leaves xs) h in ap (λ t. t ∷ map gone xs) (quiet_gone x x.mode b.0) ∙ ap (λ t. x ∷ t) (quiet_map xs b.1)

live_leaver : (m : Mode) (b : Bool) (all : Bool) → (is_leaving m || b) ≡ true → (b ≡ true → all ≡ false) → (has_exited m && all) ≡ false
live_leaver mode.Exited b all h ih = ih h
live_leaver m b all h ih = refl

-- a hart that leaves is live
some_live : (xs : List Hart) → any_leaves xs ≡ true → all_gone xs ≡ false
some_live [] h = cc
some_live (x ∷ xs) h = live_leaver x.mode (any_leaves xs) (all_gone xs) h (some_live xs)

and_false : (b : Bool) → (b && false) ≡ false
and_false true = refl
and_false false = refl

-- the lines of the exits, and of the program's
abbrev Ends : Bool → ℕ → List Hart → ℕ → Type 0
Ends g k xs code = leaving_lines g k xs ≡ gone_trees (lefts_from k xs) ++ last_lines ((g && all_gone (map gone xs)) && any_leaves xs) code

-- one that leaves, where others behind it do, or none does
ends_leaver : (g : Bool) (k : ℕ) (xs : List Hart) (code : ℕ) (b : Bool) → any_leaves xs ≡ b → Ends (g && true) (k + 1) xs code
    → (gone_lines k ++ last_lines (g && all_gone xs) code) ++ leaving_lines (g && true) (k + 1) xs ≡ (gone_lines k ++ gone_trees (lefts_from (k + 1) xs)) ++ last_lines ((g && all_gone (map gone xs)) && true) code
ends_leaver g k xs code true is ih =
    let none : all_gone xs ≡ false = some_live xs is in
    let all = all_gone (map gone xs) in
    let rest = gone_trees (lefts_from (k + 1) xs) in
    ap (λ c. (gone_lines k ++ last_lines c code) ++ leaving_lines (g && true) (k + 1) xs) (ap (λ c. g && c) none ∙ and_false g)
    ∙ (ap (λ t. t ++ leaving_lines (g && true) (k + 1) xs) (append-nil (gone_lines k))
    ∙ (ap (λ t. gone_lines k ++ t) (ih ∙ ap (λ c. rest ++ last_lines (((g && true) && all) && c) code) is ∙ ap (λ c. rest ++ last_lines ((c && all) && true) code) (and_true g))
    ∙ sym (append_assoc (gone_lines k) rest (last_lines ((g && all) && true) code))))
ends_leaver g k xs code false is ih =
    let same = quiet_map xs is in
    let lefts = quiet_lefts (k + 1) xs is in
    let all = all_gone (map gone xs) in
    let rest : leaving_lines (g && true) (k + 1) xs ≡ [] = ih ∙
    (ap (λ es. gone_trees es ++ last_lines (((g && true) && all) && any_leaves xs) code) lefts ∙ ap (λ c. last_lines c code)
    (ap (λ c. ((g && true) && all) && c) is ∙ and_false ((g && true) && all))) in
    let end : (g && all_gone xs) ≡ ((g && all) && true) = ap (λ ys. g && all_gone ys) (sym same) ∙ sym (and_true (g && all)) in
    ap (λ t. (gone_lines k ++ last_lines (g && all_gone xs) code) ++ t) rest
    ∙ (append-nil (gone_lines k ++ last_lines (g && all_gone xs) code)
    ∙ (ap (λ c. gone_lines k ++ last_lines c code) end
    ∙ (ap (λ t. t ++ last_lines ((g && all) && true) code) (sym (append-nil (gone_lines k)))
    ∙ ap (λ es. (gone_lines k ++ gone_trees es) ++ last_lines ((g && all) && true) code) (sym lefts))))

-- the rest, where a hart stays
stays_as : (g e all any : Bool) → ((g && e) && all) && any ≡ (g && (e && all)) && (false || any)
stays_as true e all any = refl
stays_as false e all any = refl

ends_by : (g : Bool) (k : ℕ) (x : Hart) (xs : List Hart) (code : ℕ) (m : Mode) → x.mode ≡ m → LeavesWith code m → ((h : Bool) → Ends h (k + 1) xs code) → Ends g k (x ∷ xs) code
ends_by g k x xs code mode.Stopped is w ih = rw is (ih (g && false) ∙ ap (λ b. gone_trees (lefts_from (k + 1) xs) ++ last_lines b code) (stays_as g false (all_gone (map gone xs)) (any_leaves xs)))
ends_by g k x xs code mode.Running is w ih = rw is (ih (g && false) ∙ ap (λ b. gone_trees (lefts_from (k + 1) xs) ++ last_lines b code) (stays_as g false (all_gone (map gone xs)) (any_leaves xs)))
ends_by g k x xs code mode.Exited is w ih = rw is (ih (g && true) ∙ ap (λ b. gone_trees (lefts_from (k + 1) xs) ++ last_lines b code) (stays_as g true (all_gone (map gone xs)) (any_leaves xs)))
ends_by g k x xs code (mode.Leaving c) is w ih =
    let P : ℕ → Type 0 = λ d. (gone_lines k ++ last_lines (g && all_gone xs) d) ++ leaving_lines (g && true) (k + 1) xs ≡ (gone_lines k ++ gone_trees (lefts_from (k + 1) xs)) ++ last_lines ((g && all_gone (map gone xs)) && true) code in
    rw is (subst P (sym w) (ends_leaver g k xs code (any_leaves xs) refl (ih (g && true))))

ends : (g : Bool) (k : ℕ) (xs : List Hart) (code : ℕ) → LeaveWith code xs → Ends g k xs code
ends g k [] code w = ap (λ b. last_lines b code) (sym (and_false (g && true)))
ends g k (x ∷ xs) code w = ends_by g k x xs code x.mode refl w.0 (λ h. ends h (k + 1) xs code w.1)

-- harts that leave with one code
pub said_exits : (o : Opening) (j : List Entry) (s : State) (code : ℕ) → Leaves o j s → s.exited ≡ false → LeaveWith code s.harts → any_leaves s.harts ≡ true
    → said_lines o (j ++ lefts_from 0 s.harts) ≡ said_lines o j ++ lefts_lines (lefts_from 0 s.harts) (all_gone (map gone s.harts)) code
said_exits o j s code l still w some =
    says o j s [] s.harts s.noted still refl l
    ∙ ap (λ t. said_lines o j ++ t) (ends true 0 s.harts code w ∙ ap (λ b. gone_trees (lefts_from 0 s.harts) ++ last_lines b code) (ap (λ b. all_gone (map gone s.harts) && b) some ∙ and_true (all_gone (map gone s.harts))))
