-- Names that come behind others in texts that grow.
use Rattle.std.proofs.Common.{◌≡◌, Bool, true, false, cond, ℕ, zero, suc, ◌+◌, ◌-◌, ◌<◌, ◌≤◌, List, [], ◌∷◌, ◌++◌, length, drop, refl, ◌∙◌, ap, sym, subst, append_assoc, append-nil, arith, get_or}
use Rattle.std.specs.Prelude.{All, Option, Some, min, IfOk, Result, Ok, Err}
use Rattle.std.specs.List.{take_while}
use Rattle.std.proofs.lemmas.List.{drop-append-le, drop_all, length-append, map-append, length_push}
use Rattle.std.proofs.lemmas.List.Sums.{take_while-cons}
use Rattle.std.proofs.lemmas.List.Elements.{All-head, All-tail, All-cons, All-nil, All-push}
use Rattle.leb_read.specs.Leb.{is_text_byte, text_from}
use Rattle.file_names.specs.Numbers.{names_at}
use Rattle.line_rows.specs.Sections.{Sections}
use Rattle.dwarf_lines.specs.Met.{AreEnded, AreMet, Finds, Hold, Keeps, Meets, Opens, names_met}
use Rattle.dwarf_lines.specs.declared.met.MetNames.{MetNames}

-- what comes behind a zero byte isn't part of a text
ended_by : (x : ℕ) (ys zs : List ℕ) (b : Bool) → take_while is_text_byte ys ≡ take_while is_text_byte zs → cond b (x ∷ take_while is_text_byte ys) [] ≡ cond b (x ∷ take_while is_text_byte zs) []
ended_by x ys zs b e = ap (λ (l : List ℕ). cond b (x ∷ l) []) e

ended_more : (xs more : List ℕ) (last : ℕ) → length xs ≡ suc last → get_or xs last 0 ≡ 0 → take_while is_text_byte (xs ++ more) ≡ take_while is_text_byte xs
ended_more [] more last size e = absurd (cc)
ended_more (x ∷ xs) more zero size e =
    let test : is_text_byte x ≡ false = ap is_text_byte e in
    let front : take_while is_text_byte (x ∷ (xs ++ more)) ≡ [] = take_while-cons is_text_byte x (xs ++ more) ∙ ap (λ (b : Bool). cond b (x ∷ take_while is_text_byte (xs ++ more)) []) test in
    let back : take_while is_text_byte (x ∷ xs) ≡ [] = take_while-cons is_text_byte x xs ∙ ap (λ (b : Bool). cond b (x ∷ take_while is_text_byte xs) []) test in
    front ∙ sym back
ended_more (x ∷ xs) more (suc last) size e =
    take_while-cons is_text_byte x (xs ++ more)
    ∙ ended_by x (xs ++ more) xs (is_text_byte x) (ended_more xs more last (omega (arith, size)) e)
    ∙ sym (take_while-cons is_text_byte x xs)

get_drop : (xs : List ℕ) (n k : ℕ) → get_or (drop n xs) k 0 ≡ get_or xs (n + k) 0
get_drop xs zero k = let e : k ≡ 0 + k = omega arith in ap (λ (m : ℕ). get_or xs m 0) e
get_drop [] (suc n) k = refl
get_drop (x ∷ xs) (suc n) k = let e : suc (n + k) ≡ suc n + k = omega arith in get_drop xs n k ∙ ap (λ (m : ℕ). get_or (x ∷ xs) m 0) e

drop_behind : (xs ys : List ℕ) (n : ℕ) → drop (length xs + n) (xs ++ ys) ≡ drop n ys
drop_behind [] ys n = let e : 0 + n ≡ n = omega arith in ap (λ (k : ℕ). drop k ys) e
drop_behind (x ∷ xs) ys n = let e : suc (length xs) + n ≡ suc (length xs + n) = omega arith in ap (λ (k : ℕ). drop k (x ∷ (xs ++ ys))) e ∙ drop_behind xs ys n

length_left : (xs : List ℕ) (n : ℕ) → length (drop n xs) ≡ length xs - n
length_left xs zero = omega arith
length_left [] (suc n) = omega arith
length_left (x ∷ xs) (suc n) = omega (arith, length_left xs n)

-- texts stay where others come behind
pub text_stays : (old more : List ℕ) (p : ℕ) → AreEnded old → p < length old → text_from (old ++ more) p ≡ text_from old p
text_stays old more p ended within =
    let left : length (drop p old) ≡ suc (length old - 1 - p) = omega (arith, length_left old p, within) in
    let at : p + (length old - 1 - p) ≡ length old - 1 = omega (arith, within) in
    let zero_byte : get_or (drop p old) (length old - 1 - p) 0 ≡ 0 = get_drop old p (length old - 1 - p) ∙ ap (λ (n : ℕ). get_or old n 0) at ∙ ended in
    ap (take_while is_text_byte) (drop-append-le p old more (omega (arith, within))) ∙ ended_more (drop p old) more (length old - 1 - p) left zero_byte

-- a text ends at the zero byte behind it
take_end : (xs : List ℕ) → take_while is_text_byte (xs ++ 0 ∷ []) ≡ take_while is_text_byte xs
take_end [] = take_while-cons is_text_byte 0 []
take_end (x ∷ xs) = take_while-cons is_text_byte x (xs ++ 0 ∷ []) ∙ ended_by x (xs ++ 0 ∷ []) xs (is_text_byte x) (take_end xs) ∙ sym (take_while-cons is_text_byte x xs)

whole_by : (x : ℕ) (xs : List ℕ) (b : Bool) → is_text_byte x ≡ b → take_while is_text_byte (take_while is_text_byte xs) ≡ take_while is_text_byte xs
    → take_while is_text_byte (cond b (x ∷ take_while is_text_byte xs) []) ≡ cond b (x ∷ take_while is_text_byte xs) []
whole_by x xs true is e = take_while-cons is_text_byte x (take_while is_text_byte xs) ∙ rw is (ap (λ (l : List ℕ). x ∷ l) e)
whole_by x xs false is e = refl

whole : (xs : List ℕ) → take_while is_text_byte (take_while is_text_byte xs) ≡ take_while is_text_byte xs
whole [] = refl
whole (x ∷ xs) =
    ap (take_while is_text_byte) (take_while-cons is_text_byte x xs) ∙ whole_by x xs (is_text_byte x) refl (whole xs) ∙ sym (take_while-cons is_text_byte x xs)

last_zero : (xs : List ℕ) (n : ℕ) → n ≡ length xs → get_or (xs ++ 0 ∷ []) n 0 ≡ 0
last_zero [] n e = ap (λ (k : ℕ). get_or (0 ∷ []) k 0) e
last_zero (x ∷ xs) n e = ap (λ (k : ℕ). get_or (x ∷ (xs ++ 0 ∷ [])) k 0) e ∙ last_zero xs (length xs) refl

pub kept_ended : (old new text : List ℕ) (start : ℕ) → Keeps old new text start → AreEnded new
kept_ended old new text start k =
    let same : new ≡ (old ++ text) ++ 0 ∷ [] = k.texts in
    let size : length new - 1 ≡ length (old ++ text) = omega (arith, ap length same, length_push (old ++ text) 0) in
    ap (λ (l : List ℕ). get_or l (length new - 1) 0) same ∙ last_zero (old ++ text) (length new - 1) size

-- what stands in texts that were kept
text_kept : (old new text : List ℕ) (start at : ℕ) → Keeps old new text start → at ≤ length text → text_from new (start + at) ≡ text_from text at
text_kept old new text start at k within =
    let begin : start + at ≡ length old + at = omega (arith, k.start_is) in
    let whole_is : new ≡ old ++ (text ++ 0 ∷ []) = k.texts ∙ append_assoc old text (0 ∷ []) in
    ap (λ (l : List ℕ). take_while is_text_byte (drop (start + at) l)) whole_is
    ∙ ap (λ (n : ℕ). take_while is_text_byte (drop n (old ++ (text ++ 0 ∷ [])))) begin
    ∙ ap (take_while is_text_byte) (drop_behind old (text ++ 0 ∷ []) at ∙ drop-append-le at text (0 ∷ []) within)
    ∙ take_end (drop at text)

long : (old new text : List ℕ) (start : ℕ) → Keeps old new text start → length new ≡ length old + length text + 1
long old new text start k = omega (arith, ap length k.texts, length_push (old ++ text) 0, length-append old text)

stays_kept : (old new text : List ℕ) (start : ℕ) → AreEnded old → Keeps old new text start → (p : ℕ) → p < length old → (p < length new) × (text_from new p ≡ text_from old p)
stays_kept old new text start ended k p within =
    (omega (arith, within, long old new text start k), ap (λ (l : List ℕ). text_from l p) (k.texts ∙ append_assoc old text (0 ∷ [])) ∙ text_stays old (text ++ 0 ∷ []) p ended within)

-- a section that is kept
pub opens_new : (old new section : List ℕ) (start : ℕ) → AreEnded old → Keeps old new section start → Opens old new section start
opens_new old new section start ended k =
    record {
      texts_end = kept_ended old new section start k;
      stays = stays_kept old new section start ended k;
      holds = λ at within. (omega (arith, within, k.start_is, long old new section start k), text_kept old new section start at k within);
    }

pub opens_known : (texts section : List ℕ) (start : ℕ) → AreEnded texts → Hold texts section start → Opens texts texts section start
opens_known texts section start ended holds = record { texts_end = ended; stays = λ p within. (within, refl); holds = holds }

-- what was kept stays where texts grow
abbrev Grow : List ℕ → List ℕ → Type 0
Grow old new = (p : ℕ) → p < length old → (p < length new) × (text_from new p ≡ text_from old p)

names_stay : (old new : List ℕ) (places : List ℕ) → Grow old new → All (λ p. p < length old) places → names_at new places ≡ names_at old places
names_stay old new [] g h = refl
names_stay old new (p ∷ places) g h =
    let here : text_from new p ≡ text_from old p = (g p (All-head (λ q. q < length old) p places h)).1 in
    rw (here, names_stay old new places g (All-tail (λ q. q < length old) p places h)) refl

within_stay : (old new : List ℕ) (places : List ℕ) → Grow old new → All (λ p. p < length old) places → All (λ p. p < length new) places
within_stay old new [] g h = All-nil (λ p. p < length new)
within_stay old new (p ∷ places) g h =
    All-cons (λ q. q < length new) p places (g p (All-head (λ q. q < length old) p places h)).0 (within_stay old new places g (All-tail (λ q. q < length old) p places h))

hold_stays : (old new section : List ℕ) (start : ℕ) → Grow old new → Hold old section start → Hold new section start
hold_stays old new section start g h at within = let was = h at within in let now = g (start + at) was.0 in (now.0, now.1 ∙ was.1)

-- a text more is kept
pub found_kept : (s : Sections) (old new : MetNames) (text name : List ℕ) (place : ℕ) → AreMet s old → Keeps old.texts.items new.texts.items text place → new.places ≡ old.places → new.line_str ≡ old.line_str → new.strs ≡ old.strs
    → take_while is_text_byte text ≡ name → Finds s old new name place
found_kept s old new text name place h k places line_str strs is =
    let g : Grow old.texts.items new.texts.items = stays_kept old.texts.items new.texts.items text place h.texts_end k in
    let size = long old.texts.items new.texts.items text place k in
    let zero_at : place + 0 ≡ place = omega arith in
    record {
      met = record {
        texts_end = kept_ended old.texts.items new.texts.items text place k;
        within = rw places (within_stay old.texts.items new.texts.items old.places.items g h.within);
        in_line_str = λ start e. hold_stays old.texts.items new.texts.items s.line_str start g (h.in_line_str start (sym line_str ∙ e));
        in_strs = λ start e. hold_stays old.texts.items new.texts.items s.strs start g (h.in_strs start (sym strs ∙ e));
      };
      names = rw places (names_stay old.texts.items new.texts.items old.places.items g h.within);
      within = omega (arith, k.start_is, size);
      is = ap (λ (n : ℕ). text_from new.texts.items n) (sym zero_at) ∙ text_kept old.texts.items new.texts.items text place 0 k (omega arith) ∙ is;
    }

pub text_whole : (section : List ℕ) (at : ℕ) → take_while is_text_byte (text_from section at) ≡ text_from section at
text_whole section at = whole (drop at section)

-- the same text stands at a place and, past the end, at the end
at_end : (section : List ℕ) (at : ℕ) → text_from section (min at (length section)) ≡ text_from section at
at_end section at = by (at - length section) refl
  where
    by : (n : ℕ) → at - length section ≡ n → text_from section (min at (length section)) ≡ text_from section at
    by zero e = let same : min at (length section) ≡ at = omega (arith, e) in ap (text_from section) same
    by (suc n) e =
        let same : min at (length section) ≡ length section = omega (arith, e) in
        ap (text_from section) same ∙ ap (take_while is_text_byte) (drop_all (length section) section (omega arith)) ∙ sym (ap (take_while is_text_byte) (drop_all at section (omega (arith, e))))

is_start : (a b : ℕ) (o : Option ℕ) → o ≡ Some a → o ≡ Some b → a ≡ b
is_start a b o e f = let both : Some a ≡ Some b = sym e ∙ f in cc

-- a name in .debug_line_str
pub found_line_str : (s : Sections) (old new : MetNames) (start at place : ℕ) → AreMet s old → Opens old.texts.items new.texts.items s.line_str start → new.places ≡ old.places → new.line_str ≡ Some start → new.strs ≡ old.strs
    → place ≡ start + min at (length s.line_str) → Finds s old new (text_from s.line_str at) place
found_line_str s old new start at place h o places line_str strs is =
    let here = o.holds (min at (length s.line_str)) (omega arith) in
    record {
      met = record {
        texts_end = o.texts_end;
        within = rw places (within_stay old.texts.items new.texts.items old.places.items o.stays h.within);
        in_line_str = λ begin e. subst (λ (n : ℕ). Hold new.texts.items s.line_str n) (is_start start begin new.line_str line_str e) o.holds;
        in_strs = λ begin e. hold_stays old.texts.items new.texts.items s.strs begin o.stays (h.in_strs begin (sym strs ∙ e));
      };
      names = rw places (names_stay old.texts.items new.texts.items old.places.items o.stays h.within);
      within = omega (arith, is, here.0);
      is = ap (text_from new.texts.items) is ∙ here.1 ∙ at_end s.line_str at;
    }

-- a name in .debug_str
pub found_strs : (s : Sections) (old new : MetNames) (start at place : ℕ) → AreMet s old → Opens old.texts.items new.texts.items s.strs start → new.places ≡ old.places → new.line_str ≡ old.line_str → new.strs ≡ Some start
    → place ≡ start + min at (length s.strs) → Finds s old new (text_from s.strs at) place
found_strs s old new start at place h o places line_str strs is =
    let here = o.holds (min at (length s.strs)) (omega arith) in
    record {
      met = record {
        texts_end = o.texts_end;
        within = rw places (within_stay old.texts.items new.texts.items old.places.items o.stays h.within);
        in_line_str = λ begin e. hold_stays old.texts.items new.texts.items s.line_str begin o.stays (h.in_line_str begin (sym line_str ∙ e));
        in_strs = λ begin e. subst (λ (n : ℕ). Hold new.texts.items s.strs n) (is_start start begin new.strs strs e) o.holds;
      };
      names = rw places (names_stay old.texts.items new.texts.items old.places.items o.stays h.within);
      within = omega (arith, is, here.0);
      is = ap (text_from new.texts.items) is ∙ here.1 ∙ at_end s.strs at;
    }

-- a place more
pub met_more : (s : Sections) (old mid new : MetNames) (name : List ℕ) (place : ℕ) → Finds s old mid name place → new.texts ≡ mid.texts → new.places.items ≡ mid.places.items ++ place ∷ [] → new.line_str ≡ mid.line_str → new.strs ≡ mid.strs
    → Meets s old new (name ∷ [])
met_more s old mid new name place f texts places line_str strs =
    let all : All (λ p. p < length mid.texts.items) (mid.places.items ++ place ∷ []) = All-push (λ p. p < length mid.texts.items) mid.places.items place f.met.within f.within in
    record {
      met = record {
        texts_end = rw texts f.met.texts_end;
        within = rw (texts, places) all;
        in_line_str = λ start e. rw texts (f.met.in_line_str start (sym line_str ∙ e));
        in_strs = λ start e. rw texts (f.met.in_strs start (sym strs ∙ e));
      };
      names = rw (texts, places) (map-append (text_from mid.texts.items) mid.places.items (place ∷ []) ∙ ap (λ (l : List (List ℕ)). l ++ text_from mid.texts.items place ∷ []) f.names ∙ ap (λ (n : List ℕ). names_met old ++ n ∷ []) f.is);
    }

pub met_none : (s : Sections) (met : MetNames) → AreMet s met → Meets s met met []
met_none s met h = record { met = h; names = sym (append-nil (names_met met)) }

-- some names, and one more
pub met_both : (s : Sections) (old mid new : MetNames) (names more both : List (List ℕ)) → Meets s old mid names → Meets s mid new more → names ++ more ≡ both → Meets s old new both
met_both s old mid new names more both a b e =
    record { met = b.met; names = b.names ∙ ap (λ (l : List (List ℕ)). l ++ more) a.names ∙ append_assoc (names_met old) names more ∙ ap (λ (l : List (List ℕ)). names_met old ++ l) e }

pub if_ok : {T E : Type 0} {P Q : T → Type 0} (r : Result T E) → ((x : T) → P x → Q x) → IfOk r P → IfOk r Q
if_ok (Ok x) f h = f x h
if_ok (Err e) f h = tt
