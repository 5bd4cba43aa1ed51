-- The sequence of an address by its number.
use Rattle.std.proofs.Common.{◌≡◌, ℕ, ◌+◌, ◌-◌, zero, suc, ◌<◌, ◌≤◌, Bool, true, false, List, [], ◌∷◌, ◌++◌, Option, None, Some, length, take, drop, refl, ap, ◌∙◌, sym, subst, arith, cond, append_assoc, append-nil}
use Rattle.std.specs.Prelude.{find, option_and_then, slice_get, slice_range}
use Rattle.std.specs.Option.{option_map, option_map_or}
use Rattle.std.proofs.Math.Seq.{take-add}
use Rattle.std.proofs.lemmas.List.{drop-drop, length-drop, length-take}
use Rattle.address_tables.specs.Tables.{covers as is_there, value_among}
use Rattle.address_tables.specs.declared.entry.AddressRange.{AddressRange}
use Rattle.elf32_read.specs.declared.spans.Span.{Span}
use Rattle.line_rows.specs.RowList.{Sequence}
use Rattle.line_rows.specs.declared.row.Row.{Row}
use Rattle.line_index.specs.Lines.{begins_in, covers, kept, row_among, row_in}
use Rattle.line_index.specs.Ranges.{range_of, ranges_from}

-- what a number tells, where sequences are numbered from one on
pub record Tells (text : List Span) (ss : List Sequence) (pc number k : ℕ) : Type 0 where
  pub place : ℕ
  pub is : k ≡ number + place
  pub one : Sequence
  pub there : slice_get ss place ≡ Some one
  pub found : find (covers pc) (kept text ss) ≡ Some one

abbrev Says : List Span → List Sequence → ℕ → ℕ → Option ℕ → Type 0
Says text ss pc number None = find (covers pc) (kept text ss) ≡ None
Says text ss pc number (Some k) = Tells text ss pc number k

says_more : (text : List Span) (s : Sequence) (ss : List Sequence) (pc number : ℕ) (o : Option ℕ) → find (covers pc) (kept text (s ∷ ss)) ≡ find (covers pc) (kept text ss) → Says text ss pc (number + 1) o → Says text (s ∷ ss) pc number o
says_more text s ss pc number None e h = e ∙ h
says_more text s ss pc number (Some k) e h =
    let far = h.is in
    record { place = suc h.place; is = omega (arith, far); one = h.one; there = h.there; found = e ∙ h.found }

covers_same : (text : List Span) (rows : List Row) (end number pc : ℕ) → (let s : Sequence = record { rows = rows; end = end } in begins_in text s ≡ true)
    → (let s : Sequence = record { rows = rows; end = end } in let r : AddressRange ℕ = record { begin = option_map_or (λ (r : Row). r.address) (slice_get rows 0) 0; end = end; value = number } in is_there pc r ≡ covers pc s)
covers_same text [] end number pc h = cc
covers_same text (r ∷ rows) end number pc h = refl

first_of : (text : List Span) (s : Sequence) (ss : List Sequence) (pc number : ℕ) (rest : List (AddressRange ℕ)) → Says text ss pc (number + 1) (value_among rest pc) → begins_in text s ≡ true
    → (r : AddressRange ℕ) → r.value ≡ number → is_there pc r ≡ covers pc s → (v : Bool) → covers pc s ≡ v → Says text (s ∷ ss) pc number (option_map (λ (r : AddressRange ℕ). r.value) (cond v (Some r) (find (is_there pc) rest)))
first_of text s ss pc number rest h b r value same true e =
    let found : find (covers pc) (kept text (s ∷ ss)) ≡ Some s = rw (b, e) refl in
    record { place = 0; is = omega (arith, value); one = s; there = refl; found = found }
first_of text s ss pc number rest h b r value same false e =
    let passed : find (covers pc) (kept text (s ∷ ss)) ≡ find (covers pc) (kept text ss) = rw (b, e) refl in
    says_more text s ss pc number (value_among rest pc) passed h

says_by : (text : List Span) (s : Sequence) (ss : List Sequence) (pc number : ℕ) → Says text ss pc (number + 1) (value_among (ranges_from text (number + 1) ss) pc) → (b : Bool) → begins_in text s ≡ b
    → Says text (s ∷ ss) pc number (value_among (ranges_from text number (s ∷ ss)) pc)
says_by text s ss pc number h true b =
    let r : AddressRange ℕ = record { begin = option_map_or (λ (r : Row). r.address) (slice_get s.rows 0) 0; end = s.end; value = number } in
    let rest = ranges_from text (number + 1) ss in
    let same : is_there pc r ≡ covers pc s = covers_same text s.rows s.end number pc b in
    let front : ranges_from text number (s ∷ ss) ≡ r ∷ rest = rw b refl in
    subst (λ (l : List (AddressRange ℕ)). Says text (s ∷ ss) pc number (value_among l pc)) (sym front)
    (subst (λ (v : Bool). Says text (s ∷ ss) pc number (option_map (λ (r : AddressRange ℕ). r.value) (cond v (Some r) (find (is_there pc) rest)))) (sym same) (first_of text s ss pc number rest h b r refl same (covers pc s) refl))
says_by text s ss pc number h false b =
    let passed : find (covers pc) (kept text (s ∷ ss)) ≡ find (covers pc) (kept text ss) = rw b refl in
    let front : ranges_from text number (s ∷ ss) ≡ ranges_from text (number + 1) ss = rw b refl in
    subst (λ (l : List (AddressRange ℕ)). Says text (s ∷ ss) pc number (value_among l pc)) (sym front)
    (says_more text s ss pc number (value_among (ranges_from text (number + 1) ss) pc) passed h)

says : (text : List Span) (ss : List Sequence) (pc number : ℕ) → Says text ss pc number (value_among (ranges_from text number ss) pc)
says text [] pc number = refl
says text (s ∷ ss) pc number = says_by text s ss pc number (says text ss pc (number + 1)) (begins_in text s) refl

pub told : (text : List Span) (ss : List Sequence) (pc k : ℕ) → value_among (ranges_from text 0 ss) pc ≡ Some k → Tells text ss pc 0 k
told text ss pc k e = subst (λ (o : Option ℕ). Says text ss pc 0 o) e (says text ss pc 0)

pub none_told : (text : List Span) (ss : List Sequence) (pc : ℕ) → value_among (ranges_from text 0 ss) pc ≡ None → row_among pc (kept text ss) ≡ None
none_told text ss pc e =
    let none : find (covers pc) (kept text ss) ≡ None = subst (λ (o : Option ℕ). Says text ss pc 0 o) e (says text ss pc 0) in
    ap (λ (o : Option Sequence). option_and_then (λ (s : Sequence). row_in pc s.rows) o) none

-- the row of an address in the sequence of a number
pub row_told : (text : List Span) (ss : List Sequence) (pc k : ℕ) (s : Sequence) → value_among (ranges_from text 0 ss) pc ≡ Some k → slice_get ss k ≡ Some s → row_in pc s.rows ≡ row_among pc (kept text ss)
row_told text ss pc k s e at =
    let t = told text ss pc k e in
    let far = t.is in
    let same : k ≡ t.place = omega (arith, far) in
    let one : Some t.one ≡ Some s = sym t.there ∙ ap (slice_get ss) (sym same) ∙ at in
    sym (ap (λ (o : Option Sequence). option_and_then (λ (s : Sequence). row_in pc s.rows) o) (t.found ∙ one))

within : (ss : List Sequence) (k : ℕ) (s : Sequence) → slice_get ss k ≡ Some s → k < length ss
within [] k s h = cc
within (x ∷ xs) zero s h = omega arith
within (x ∷ xs) (suc k) s h = let less = within xs k s h in omega (arith, less)

pub number_within : (text : List Span) (ss : List Sequence) (pc k : ℕ) → value_among (ranges_from text 0 ss) pc ≡ Some k → k < length ss
number_within text ss pc k e =
    let t = told text ss pc k e in
    let far = t.is in
    let less = within ss t.place t.one t.there in
    omega (arith, far, less)

ranges_join : (text : List Span) (ss more : List Sequence) (number : ℕ) → ranges_from text number (ss ++ more) ≡ ranges_from text number ss ++ ranges_from text (number + length ss) more
ranges_join text [] more number = ap (λ (n : ℕ). ranges_from text n more) (let e : number ≡ number + length (let none : List Sequence = [] in none) = omega arith in e)
ranges_join text (x ∷ ss) more number =
    let e : number + 1 + length ss ≡ number + length (x ∷ ss) = omega arith in
    ap (λ (l : List (AddressRange ℕ)). range_of text number x ++ l) (ranges_join text ss more (number + 1) ∙ ap (λ (n : ℕ). ranges_from text (number + 1) ss ++ ranges_from text n more) e)
    ∙ sym (append_assoc (range_of text number x) (ranges_from text (number + 1) ss) (ranges_from text (number + length (x ∷ ss)) more))

part_joined : (ss : List Sequence) (a b c : ℕ) → a ≤ b → b ≤ c → slice_range ss a b ++ slice_range ss b c ≡ slice_range ss a c
part_joined ss a b c h k =
    let from : a + (b - a) ≡ b = omega arith in
    let size : (b - a) + (c - b) ≡ c - a = omega arith in
    ap (λ (l : List Sequence). slice_range ss a b ++ take (c - b) l) (ap (λ (n : ℕ). drop n ss) (sym from) ∙ sym (drop-drop (b - a) a ss))
    ∙ sym (take-add (b - a) (c - b) (drop a ss))
    ∙ ap (λ (n : ℕ). take n (drop a ss)) size

-- the sequences of two parts, one behind the other
pub ranges_joined : (text : List Span) (ss : List Sequence) (a b c : ℕ) → a ≤ b → b ≤ c → c ≤ length ss
    → ranges_from text a (slice_range ss a b) ++ ranges_from text b (slice_range ss b c) ≡ ranges_from text a (slice_range ss a c)
ranges_joined text ss a b c h k less =
    let size : a + length (slice_range ss a b) ≡ b = omega (arith, h, k, less, length-take (b - a) (drop a ss), length-drop a ss) in
    ap (λ (n : ℕ). ranges_from text a (slice_range ss a b) ++ ranges_from text n (slice_range ss b c)) (sym size)
    ∙ sym (ranges_join text (slice_range ss a b) (slice_range ss b c) a)
    ∙ ap (ranges_from text a) (part_joined ss a b c h k)

one_at : (ss : List Sequence) (k : ℕ) (s : Sequence) → slice_get ss k ≡ Some s → take 1 (drop k ss) ≡ s ∷ []
one_at [] k s h = cc
one_at (x ∷ ss) zero s h = let e : x ≡ s = cc in ap (λ (z : Sequence). z ∷ []) e
one_at (x ∷ ss) (suc k) s h = one_at ss k s h

-- one sequence more
pub ranges_more : (text : List Span) (ss : List Sequence) (a k : ℕ) (s : Sequence) → a ≤ k → slice_get ss k ≡ Some s
    → ranges_from text a (slice_range ss a k) ++ range_of text k s ≡ ranges_from text a (slice_range ss a (k + 1))
ranges_more text ss a k s order h =
    let less = within ss k s h in
    let one : k + 1 - k ≡ 1 = omega arith in
    ap (λ (l : List (AddressRange ℕ)). ranges_from text a (slice_range ss a k) ++ l)
    (sym (append-nil (range_of text k s)) ∙ ap (ranges_from text k) (sym (ap (λ (n : ℕ). take n (drop k ss)) one ∙ one_at ss k s h)))
    ∙ ranges_joined text ss a k (k + 1) order (omega arith) (omega (arith, less))
