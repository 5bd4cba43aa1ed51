-- The fault that a text is judged to have is the first that its lines have.
use Rattle.std.proofs.Common.{◌≡◌, ℕ, ◌+◌, ◌<◌, ◌≤◌, ◌⊎◌, Bool, true, false, ◌==◌, Result, Ok, Err, List, [], ◌∷◌, ◌++◌, length, refl, sym, ap, subst, ◌∙◌, append_assoc, arith, inl, inr}
use Rattle.std.proofs.lemmas.Bool.{eqb-true, eqb-false}
use Rattle.std.proofs.lemmas.List.{append-nil, length-append}
use Rattle.std.proofs.lemmas.List.Sums.{sum_by-append}
use Rattle.std.specs.Prelude.{if◌then◌else◌}
use Rattle.dbg_traits.specs.declared.settings.Settings.{Settings}
use Rattle.dbg_model.specs.declared.entry.Entry.{Entry}
use Rattle.session_log.specs.declared.fault.FaultKind.{FaultKind}
use Rattle.session_log.specs.declared.fault.FaultKind.TheVariants.{Line, Order, End}
use Rattle.session_log.specs.declared.fault.LogFault.{LogFault}
use Rattle.session_log.specs.declared.fault.LogReadError.{LogReadError}
use Rattle.session_log.specs.declared.fault.LogReadError.TheVariants as errors
use Rattle.session_log.specs.declared.row.LogRow.{LogRow}
use Rattle.session_log.specs.declared.row.LogRow.TheVariants as rows
use Rattle.session_log.specs.declared.log.Log.{Log}
use Rattle.session_log.specs.declared.log.State.{State}
use Rattle.session_log.specs.declared.log.State.TheVariants.{Before, Inside, After}
use Rattle.session_log.specs.Rows.{Spells}
use Rattle.session_log.specs.LogText.{lines, is_marked}
use Rattle.session_log.specs.Judged.{step, Takes, Outcome, fault_at, Judges, ReadsLog}
use Rattle.session_log.specs.Faults.{marked, HasEnd, IsNoRow, IsMisplaced, unmarked, first, again, past, IsOtherEnd, HasFault, fault_number, IsLeast, AreFaultless, at_line, at_end, IsFirstFault, TellsFault}
use Rattle.session_log.proofs.Again.{same_state}
use Rattle.session_log.proofs.Guesses.{one_row}
use Rattle.session_log.proofs.Whole.{row_marked}

-- ---- lines in front

count_front : (f g : List (List ℕ)) → marked (f ++ g) ≡ marked f + marked g
count_front f g = sum_by-append (λ (l : List ℕ). if is_marked l then 1 else 0) f g

count_one : (l : List ℕ) → is_marked l ≡ true → marked (l ∷ []) ≡ 1
count_one l h = rw h refl

count_none : (l : List ℕ) → is_marked l ≡ false → marked (l ∷ []) ≡ 0
count_none l h = rw h refl

count_marked : (f : List (List ℕ)) (l : List ℕ) → is_marked l ≡ true → marked (f ++ l ∷ []) ≡ marked f + 1
count_marked f l h = omega (arith, count_front f (l ∷ []), count_one l h)

count_plain : (f : List (List ℕ)) (l : List ℕ) → is_marked l ≡ false → marked (f ++ l ∷ []) ≡ marked f
count_plain f l h = omega (arith, count_front f (l ∷ []), count_none l h)

end_among : (f : List (List ℕ)) (l : List ℕ) → HasEnd (f ++ l ∷ []) → HasEnd f ⊎ ((k : ℕ) × Spells (rows.End k) l)
end_among [] l (inl h) = inr h
end_among [] l (inr h) = absurd h
end_among (x ∷ f) l (inl h) = inl (inl h)
end_among (x ∷ f) l (inr h) = elim (end_among f l h) [ inl g ↦ inl (inr g) | inr g ↦ inr g ]

end_last : (f : List (List ℕ)) (l : List ℕ) (k : ℕ) → Spells (rows.End k) l → HasEnd (f ++ l ∷ [])
end_last [] l k h = inl (k, h)
end_last (x ∷ f) l k h = inr (end_last f l k h)

spelled_marked : (r : LogRow) (l : List ℕ) → Spells r l → is_marked l ≡ true
spelled_marked r l h = ap is_marked h.text ∙ row_marked r

-- ---- what a state says of the lines in front

pub data Stands (f : List (List ℕ)) : State → Type 0 where
  before : (n : ℕ) → marked f ≡ 0 → (HasEnd f → ⊥) → Stands f (Before n)
  inside : (n : ℕ) (s : Settings) (j : List Entry) → marked f ≡ length j + 1 → (HasEnd f → ⊥) → Stands f (Inside n s j)
  after : (n : ℕ) (s : Settings) (j : List Entry) → 0 < marked f → HasEnd f → Stands f (After n s j)

ends_marked : (f : List (List ℕ)) → HasEnd f → 0 < marked f
ends_marked [] h = absurd h
ends_marked (x ∷ f) (inl h) = omega (arith, count_front (x ∷ []) f, count_one x (spelled_marked (rows.End h.0) x h.1))
ends_marked (x ∷ f) (inr h) = omega (arith, count_front (x ∷ []) f, ends_marked f h)

not_both : (l : List ℕ) → is_marked l ≡ true → is_marked l ≡ false → ⊥
not_both l h g = let e : true ≡ false = sym h ∙ g in cc

head_entry : (s : Settings) (e : Entry) → rows.Head s ≡ rows.Entry e → ⊥
head_entry s e h = cc

head_end : (s : Settings) (k : ℕ) → rows.Head s ≡ rows.End k → ⊥
head_end s k h = cc

entry_end : (e : Entry) (k : ℕ) → rows.Entry e ≡ rows.End k → ⊥
entry_end e k h = cc

same_end : (k m : ℕ) → rows.End k ≡ rows.End m → k ≡ m
same_end k m h = cc

-- ---- a line that is taken has no fault

plain_faultless : (f : List (List ℕ)) (l : List ℕ) (k : FaultKind) → is_marked l ≡ false → marked f ≡ 0 → HasFault f l k → ⊥
plain_faultless f l Line h none g = not_both l g.begins h
plain_faultless f l Order h none (unmarked p some) = omega arith
plain_faultless f l Order h none (first r sp other z) = not_both l (spelled_marked r l sp) h
plain_faultless f l Order h none (again s sp some) = omega arith
plain_faultless f l Order h none (past e) = let some = ends_marked f e in omega arith
plain_faultless f l End h none g = not_both l (spelled_marked (rows.End g.number) l g.spelled) h

head_faultless : (f : List (List ℕ)) (l : List ℕ) (s : Settings) (k : FaultKind) → Spells (rows.Head s) l → marked f ≡ 0 → HasFault f l k → ⊥
head_faultless f l s Line sp none g = g.none (rows.Head s) sp
head_faultless f l s Order sp none (unmarked p some) = omega arith
head_faultless f l s Order sp none (first r rp other z) = other s (one_row r (rows.Head s) l rp sp)
head_faultless f l s Order sp none (again t tp some) = omega arith
head_faultless f l s Order sp none (past e) = let some = ends_marked f e in omega arith
head_faultless f l s End sp none g = head_end s g.number (one_row (rows.Head s) (rows.End g.number) l sp g.spelled)

entry_faultless : (f : List (List ℕ)) (l : List ℕ) (e : Entry) (k : FaultKind) → Spells (rows.Entry e) l → 0 < marked f → (HasEnd f → ⊥) → HasFault f l k → ⊥
entry_faultless f l e Line sp some no_end g = g.none (rows.Entry e) sp
entry_faultless f l e Order sp some no_end (unmarked p q) = not_both l (spelled_marked (rows.Entry e) l sp) p
entry_faultless f l e Order sp some no_end (first r rp other z) = omega arith
entry_faultless f l e Order sp some no_end (again t tp q) = head_entry t e (one_row (rows.Head t) (rows.Entry e) l tp sp)
entry_faultless f l e Order sp some no_end (past p) = no_end p
entry_faultless f l e End sp some no_end g = entry_end e g.number (one_row (rows.Entry e) (rows.End g.number) l sp g.spelled)

end_faultless : (f : List (List ℕ)) (l : List ℕ) (n : ℕ) (k : FaultKind) → Spells (rows.End n) l → marked f ≡ n + 1 → (HasEnd f → ⊥) → HasFault f l k → ⊥
end_faultless f l n Line sp some no_end g = g.none (rows.End n) sp
end_faultless f l n Order sp some no_end (unmarked p q) = not_both l (spelled_marked (rows.End n) l sp) p
end_faultless f l n Order sp some no_end (first r rp other z) = omega arith
end_faultless f l n Order sp some no_end (again t tp q) = head_end t n (one_row (rows.Head t) (rows.End n) l tp sp)
end_faultless f l n Order sp some no_end (past p) = no_end p
end_faultless f l n End sp some no_end g = g.other (let e = same_end g.number n (one_row (rows.End g.number) (rows.End n) l g.spelled sp) in omega arith)

-- ---- what is taken, and what the lines in front are then

abbrev pub Faultless : List (List ℕ) → List ℕ → Type 0
Faultless f l = (k : FaultKind) → HasFault f l k → ⊥

abbrev Goes : List (List ℕ) → List ℕ → State → Type 0
Goes f l t = Faultless f l × Stands (f ++ l ∷ []) t

still_open : (f : List (List ℕ)) (l : List ℕ) → (HasEnd f → ⊥) → ((k : ℕ) → Spells (rows.End k) l → ⊥) → HasEnd (f ++ l ∷ []) → ⊥
still_open f l no_end other h = elim (end_among f l h) [ inl g ↦ no_end g | inr g ↦ other g.0 g.1 ]

to_state : (f : List (List ℕ)) (l : List ℕ) (t u : State) (a : Result State FaultKind) → a ≡ Ok t → a ≡ Ok u → Goes f l u → Goes f l t
to_state f l t u a d e g = subst (Goes f l) (sym (same_state t u a d e)) g

plain_goes : (f : List (List ℕ)) (l : List ℕ) (n : ℕ) → is_marked l ≡ false → marked f ≡ 0 → (HasEnd f → ⊥) → Goes f l (Before (n + length l))
plain_goes f l n h none no_end = (
  λ k. plain_faultless f l k h none,
  before (n + length l) (count_plain f l h ∙ none) (still_open f l no_end (λ k sp. not_both l (spelled_marked (rows.End k) l sp) h)),
)

head_goes : (f : List (List ℕ)) (l : List ℕ) (n : ℕ) (s : Settings) → Spells (rows.Head s) l → marked f ≡ 0 → (HasEnd f → ⊥) → Goes f l (Inside n s [])
head_goes f l n s sp none no_end =
    let e = count_marked f l (spelled_marked (rows.Head s) l sp) in (
      λ k. head_faultless f l s k sp none,
      inside n s [] (let c : marked (f ++ l ∷ []) ≡ 0 + 1 = omega arith in c) (still_open f l no_end (λ k kp. head_end s k (one_row (rows.Head s) (rows.End k) l sp kp))),
    )

entry_goes : (f : List (List ℕ)) (l : List ℕ) (n : ℕ) (s : Settings) (j : List Entry) (x : Entry) → Spells (rows.Entry x) l → marked f ≡ length j + 1 → (HasEnd f → ⊥) → Goes f l (Inside n s (j ++ x ∷ []))
entry_goes f l n s j x sp some no_end =
    let e = count_marked f l (spelled_marked (rows.Entry x) l sp) in
    let m = length-append j (x ∷ []) in (
      λ k. entry_faultless f l x k sp (omega arith) no_end,
      inside n s (j ++ x ∷ []) (omega (arith, e, m)) (still_open f l no_end (λ k kp. entry_end x k (one_row (rows.Entry x) (rows.End k) l sp kp))),
    )

end_goes : (f : List (List ℕ)) (l : List ℕ) (n : ℕ) (s : Settings) (j : List Entry) (k : ℕ) → Spells (rows.End k) l → k ≡ length j → marked f ≡ length j + 1 → (HasEnd f → ⊥) → Goes f l (After n s j)
end_goes f l n s j k sp same some no_end =
    let e = count_marked f l (spelled_marked (rows.End k) l sp) in
    (λ m. end_faultless f l k m sp (omega arith) no_end, after n s j (omega arith) (end_last f l k sp))

by_number : (f : List (List ℕ)) (l : List ℕ) (n : ℕ) (s : Settings) (j : List Entry) (t : State) (k : ℕ) (b : Bool) → b ≡ (k == length j) → Spells (rows.End k) l → marked f ≡ length j + 1 → (HasEnd f → ⊥)
    → Ok t ≡ (if b then Ok (After n s j) else Err End) → Goes f l t
by_number f l n s j t k true h sp some no_end e = to_state f l t (After n s j) (Ok t) refl e (end_goes f l n s j k sp (eqb-true k (length j) (sym h)) some no_end)
by_number f l n s j t k false h sp some no_end e = absurd cc

row_goes : (f : List (List ℕ)) (l : List ℕ) (s t : State) (r : LogRow) → Stands f s → Spells r l → Ok t ≡ step s r → Goes f l t
row_goes f l s t (rows.Head q) (before n none no_end) sp e = to_state f l t (Inside n q []) (Ok t) refl e (head_goes f l n q sp none no_end)
row_goes f l s t (rows.Entry x) (before n none no_end) sp e = absurd cc
row_goes f l s t (rows.End k) (before n none no_end) sp e = absurd cc
row_goes f l s t (rows.Head q) (inside n p j some no_end) sp e = absurd cc
row_goes f l s t (rows.Entry x) (inside n p j some no_end) sp e = to_state f l t (Inside n p (j ++ x ∷ [])) (Ok t) refl e (entry_goes f l n p j x sp some no_end)
row_goes f l s t (rows.End k) (inside n p j some no_end) sp e = by_number f l n p j t k (k == length j) refl sp some no_end e
row_goes f l s t r (after n p j some end) sp e = absurd cc

goes : (f : List (List ℕ)) (l : List ℕ) (s t : State) → Stands f s → Takes s l (Ok t) → Goes f l t
goes f l s t (before n none no_end) (inl p) = to_state f l t (Before (n + length l)) (Ok t) refl p.is (plain_goes f l n p.plain none no_end)
goes f l s t (inside n q j some no_end) (inl p) = let e = p.is in absurd cc
goes f l s t (after n q j some end) (inl p) = let e = p.is in absurd cc
goes f l s t h (inr (inl p)) = row_goes f l s t p.row h p.spelled p.is
goes f l s t h (inr (inr p)) = let e = p.is in absurd cc

-- ---- what isn't taken

order_least : (f : List (List ℕ)) (l : List ℕ) → IsMisplaced f l → (IsNoRow l → ⊥) → IsLeast f l Order
order_least f l h no_end = record { has = h; least = at }
  where
    at : (m : FaultKind) → HasFault f l m → 2 ≤ fault_number m
    at Line g = absurd (no_end g)
    at Order g = omega arith
    at End g = omega arith

line_least : (f : List (List ℕ)) (l : List ℕ) → IsNoRow l → IsLeast f l Line
line_least f l h = record { has = h; least = at }
  where
    at : (m : FaultKind) → HasFault f l m → 1 ≤ fault_number m
    at Line g = omega arith
    at Order g = omega arith
    at End g = omega arith

end_least : (f : List (List ℕ)) (l : List ℕ) → IsOtherEnd f l → (IsNoRow l → ⊥) → (IsMisplaced f l → ⊥) → IsLeast f l End
end_least f l h no_end order = record { has = h; least = at }
  where
    at : (m : FaultKind) → HasFault f l m → 3 ≤ fault_number m
    at Line g = absurd (no_end g)
    at Order g = absurd (order g)
    at End g = omega arith

to_kind : (f : List (List ℕ)) (l : List ℕ) (k m : FaultKind) (a : Result State FaultKind) → a ≡ Err k → a ≡ Err m → IsLeast f l m → IsLeast f l k
to_kind f l k m a d e g = let same : m ≡ k = cc in subst (IsLeast f l) same g

is_row : (l : List ℕ) (r : LogRow) → Spells r l → IsNoRow l → ⊥
is_row l r sp h = h.none r sp

plain_row : (l : List ℕ) → is_marked l ≡ false → IsNoRow l → ⊥
plain_row l h g = not_both l g.begins h

other_number : (f : List (List ℕ)) (l : List ℕ) (n : ℕ) (s : Settings) (j : List Entry) (m : FaultKind) (k : ℕ) (b : Bool) → b ≡ (k == length j) → Spells (rows.End k) l → marked f ≡ length j + 1 → (HasEnd f → ⊥)
    → Err m ≡ (if b then Ok (After n s j) else Err End) → IsLeast f l m
other_number f l n s j m k true h sp some no_end e = absurd cc
other_number f l n s j m k false h sp some no_end e =
    to_kind f l m End (Err m) refl e (end_least f l (record { number = k; spelled = sp; other = λ same. eqb-false k (length j) (sym h) (omega arith) }) (is_row l (rows.End k) sp) (in_place f l k sp (omega arith) no_end))
  where
    in_place : (f : List (List ℕ)) (l : List ℕ) (k : ℕ) → Spells (rows.End k) l → 0 < marked f → (HasEnd f → ⊥) → IsMisplaced f l → ⊥
    in_place f l k sp some no_end (unmarked p q) = not_both l (spelled_marked (rows.End k) l sp) p
    in_place f l k sp some no_end (first r rp other z) = omega arith
    in_place f l k sp some no_end (again t tp q) = head_end t k (one_row (rows.Head t) (rows.End k) l tp sp)
    in_place f l k sp some no_end (past p) = no_end p

row_stops : (f : List (List ℕ)) (l : List ℕ) (s : State) (k : FaultKind) (r : LogRow) → Stands f s → Spells r l → Err k ≡ step s r → IsLeast f l k
row_stops f l s k (rows.Head q) (before n none no_end) sp e = absurd cc
row_stops f l s k (rows.Entry x) (before n none no_end) sp e = to_kind f l k Order (Err k) refl e (order_least f l (first (rows.Entry x) sp (λ q same. head_entry q x (sym same)) none) (is_row l (rows.Entry x) sp))
row_stops f l s k (rows.End m) (before n none no_end) sp e = to_kind f l k Order (Err k) refl e (order_least f l (first (rows.End m) sp (λ q same. head_end q m (sym same)) none) (is_row l (rows.End m) sp))
row_stops f l s k (rows.Head q) (inside n p j some no_end) sp e = to_kind f l k Order (Err k) refl e (order_least f l (again q sp (omega arith)) (is_row l (rows.Head q) sp))
row_stops f l s k (rows.Entry x) (inside n p j some no_end) sp e = absurd cc
row_stops f l s k (rows.End m) (inside n p j some no_end) sp e = other_number f l n p j k m (m == length j) refl sp some no_end e
row_stops f l s k r (after n p j some end) sp e = to_kind f l k Order (Err k) refl e (order_least f l (past end) (is_row l r sp))

stops : (f : List (List ℕ)) (l : List ℕ) (s : State) (k : FaultKind) → Stands f s → Takes s l (Err k) → IsLeast f l k
stops f l s k (before n none no_end) (inl p) = let e = p.is in absurd cc
stops f l s k (inside n q j some no_end) (inl p) = to_kind f l k Order (Err k) refl p.is (order_least f l (unmarked p.plain (omega arith)) (plain_row l p.plain))
stops f l s k (after n q j some end) (inl p) = to_kind f l k Order (Err k) refl p.is (order_least f l (unmarked p.plain some) (plain_row l p.plain))
stops f l s k h (inr (inl p)) = row_stops f l s k p.row h p.spelled p.is
stops f l s k h (inr (inr p)) = to_kind f l k Line (Err k) refl p.is (line_least f l (record { begins = p.marked; none = p.none }))

-- ---- a whole text

faultless_more : (g f : List (List ℕ)) (l : List ℕ) → AreFaultless g f → Faultless (g ++ f) l → AreFaultless g (f ++ l ∷ [])
faultless_more g [] l h k = (subst (λ (x : List (List ℕ)). Faultless x l) (append-nil g) k, tt)
faultless_more g (x ∷ f) l h k = (h.0, faultless_more (g ++ x ∷ []) f l h.1 (subst (λ (y : List (List ℕ)). Faultless y l) (sym (append_assoc g (x ∷ []) f)) k))

fault_kind : (x : LogFault) (k : FaultKind) (n : ℕ) (a : Outcome) → a ≡ Err x → a ≡ fault_at k n → (x.kind ≡ k) × (x.line ≡ n)
fault_kind x k n a d e = let same : x ≡ record { kind = k; line = n } = cc in (ap (λ (y : LogFault). y.kind) same, ap (λ (y : LogFault). y.line) same)

ends_here : (f : List (List ℕ)) (x : LogFault) (n : ℕ) (bytes : List ℕ) → AreFaultless [] f → (HasEnd f → ⊥) → n ≡ length f + 1 → (a : Outcome) → a ≡ Err x → a ≡ fault_at End n → lines bytes ≡ f ++ [] → IsFirstFault bytes x
ends_here f x n bytes clean no_end at a d e all =
    let k = fault_kind x End n a d e in
    record { front = f; faultless = clean; line = k.1 ∙ at; follows = at_end (all ∙ append-nil f) k.0 no_end }

first_from : (ls f : List (List ℕ)) (s : State) (n : ℕ) (x : LogFault) (bytes : List ℕ) → AreFaultless [] f → Stands f s → n ≡ length f + 1 → Judges s n ls (Err x) → lines bytes ≡ f ++ ls → IsFirstFault bytes x
first_from [] f s n x bytes clean (before t none no_end) at e all = ends_here f x n bytes clean no_end at (Err x) refl e all
first_from [] f s n x bytes clean (inside t q j some no_end) at e all = ends_here f x n bytes clean no_end at (Err x) refl e all
first_from [] f s n x bytes clean (after t q j some end) at e all = absurd cc
first_from (l ∷ ls) f s n x bytes clean h at (inl g) all =
    let k = goes f l s g.next h g.takes in
    let m = length-append f (l ∷ []) in
    first_from ls (f ++ l ∷ []) g.next (n + 1) x bytes (faultless_more [] f l clean k.0) k.1 (omega (arith, m)) g.goes (all ∙ sym (append_assoc f (l ∷ []) ls))
first_from (l ∷ ls) f s n x bytes clean h at (inr g) all =
    let k = fault_kind x g.kind n (Err x) refl g.is in
    record { front = f; faultless = clean; line = k.1 ∙ at; follows = at_line l ls all (subst (IsLeast f l) (sym k.0) (stops f l s g.kind h g.takes)) }

none_from : (ls f : List (List ℕ)) (s : State) (n : ℕ) (log : Log) → AreFaultless [] f → Stands f s → Judges s n ls (Ok log) → AreFaultless [] (f ++ ls)
none_from [] f s n log clean h j = subst (AreFaultless []) (sym (append-nil f)) clean
none_from (l ∷ ls) f s n log clean h (inl g) =
    let k = goes f l s g.next h g.takes in
    subst (AreFaultless []) (append_assoc f (l ∷ []) ls) (none_from ls (f ++ l ∷ []) g.next (n + 1) log (faultless_more [] f l clean k.0) k.1 g.goes)
none_from (l ∷ ls) f s n log clean h (inr g) = let e = g.is in absurd cc

nothing_in_front : Stands [] (Before 0)
nothing_in_front = before 0 refl (λ h. h)

pub fault_told : (bytes : List ℕ) (r : Result Log LogReadError) → ReadsLog bytes r → TellsFault bytes r
fault_told bytes (Ok log) h = none_from (lines bytes) [] (Before 0) 1 log tt nothing_in_front h
fault_told bytes (Err errors.NoMemory) h = tt
fault_told bytes (Err (errors.Fault f)) h = first_from (lines bytes) [] (Before 0) 1 f bytes tt nothing_in_front refl h refl
