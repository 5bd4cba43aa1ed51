-- Lines, written and read.
use Rattle.std.proofs.Common.{◌≡◌, ℕ, ◌+◌, ◌-◌, ◌<◌, List, [], ◌∷◌, ◌++◌, length, take, drop, Bool, true, false, cond, leb, Some, None, Result, Ok, Err, OnOk, is_ok, refl, sym, ap, subst, ◌∙◌, append_assoc, arith, get_or}
use Rattle.std.proofs.lemmas.Bool.{ne_eqb, eqb-true, leb-true, lt-ltb}
use Rattle.std.proofs.lemmas.List.{drop_more, take-append-drop, length-append, length-drop}
use Rattle.std.proofs.Math.Seq.{take-length}
use Rattle.std.proofs.lemmas.List.Quantifiers.{position-Some}
use Rattle.std.proofs.lemmas.Option.{same_Some}
use Rattle.std.specs.Prelude.{position, ◌==◌}
use Rattle.std.specs.List.{list_all, position_or_len}
use Rattle.std.specs.Borrow.{Bor}
use Rattle.std.specs.Global.{Vec}
use Rattle.mi_text.specs.declared.fault.ReadFault.{ReadFault}
use Rattle.mi_text.specs.declared.fault.ReadFault.TheVariants as failures
use Rattle.mi_values.specs.declared.line.Line.{Line}
use Rattle.mi_values.specs.declared.line.Line.TheVariants as lines
use Rattle.mi_values.specs.declared.line.Fields.{Fields as FieldList}
use Rattle.mi_values.specs.declared.sign.NoticeSign.{NoticeSign}
use Rattle.mi_values.specs.declared.sign.NoticeSign.TheVariants.{Exec, Notify}
use Rattle.mi_values.specs.declared.sign.StreamSign.{StreamSign}
use Rattle.mi_values.specs.declared.sign.StreamSign.TheVariants.{Target, Log}
use Rattle.mi_values.specs.declared.value.Value.{Value}
use Rattle.mi_text.specs.CString.{AreBytes, c_string}
use Rattle.mi_values.specs.Name.{is_name, is_name_byte, are_name_bytes}
use Rattle.mi_text.specs.Digits.{is_digit}
use Rattle.mi_text.specs.Token.{is_token}
use Rattle.mi_values.specs.Tree.{Fields, no_field, field, fields_view}
use Rattle.mi_values.specs.Proper.{AreProperFields}
use Rattle.mi_values.specs.Spelling.{value_bytes, fields_from}
use Rattle.mi_values.specs.Reads.{ReadsFields, ReadsWord, StopsName}
use Rattle.mi_values.specs.Record.{LineTree, result, notice, stream, prompt, Record, IsLine, line_bytes, prompt_text, class_bytes, notice_byte, stream_byte}
use Rattle.mi_values.specs.Line.{line_view, Begins, ReadsLine, GivesLine}
use Rattle.mi_values.specs.LineParts.{ReadsTail, ReadsClass, HasClass, ReadsNotice, ReadsStream, ReadsResult}
use Rattle.mi_text.proofs.Texts.{one_c_string}
use Rattle.mi_values.proofs.One.{both, apart, name_bytes, one_fields, no_name}

-- ---- written

pub stream_written : (old a b new text text' total : List ℕ) (s s' : ℕ) → total ≡ s ∷ (c_string text ++ 10 ∷ []) → a ≡ old ++ s' ∷ [] → s' ≡ s → b ≡ a ++ c_string text' → text' ≡ text → new ≡ b ++ 10 ∷ [] → new ≡ old ++ total
stream_written old a b new text text' total s s' t one same two same_text three =
    let spelled = c_string text in
    let b_is : b ≡ (old ++ s ∷ []) ++ spelled = two ∙ ap (λ (l : List ℕ). a ++ c_string l) same_text ∙ ap (λ (l : List ℕ). l ++ spelled) (one ∙ ap (λ (n : ℕ). old ++ n ∷ []) same) in
    three ∙ ap (λ (l : List ℕ). l ++ 10 ∷ []) b_is ∙ append_assoc (old ++ s ∷ []) spelled (10 ∷ []) ∙ append_assoc old (s ∷ []) (spelled ++ 10 ∷ []) ∙ ap (λ (l : List ℕ). old ++ l) (sym t)

pub result_line : (line : Line) (token class : List ℕ) (fields : FieldList) → line ≡ lines.Result token class fields → is_token token ≡ true → is_name class ≡ true → IsLine (line_view line)
result_line line token class fields e t n = let P : Line → Type 0 = λ l. IsLine (line_view l) in subst P (sym e) (t, n, fields.proper)

pub notice_line : (line : Line) (sign : NoticeSign) (class : List ℕ) (fields : FieldList) → line ≡ lines.Notice sign class fields → is_name class ≡ true → IsLine (line_view line)
notice_line line sign class fields e n = let P : Line → Type 0 = λ l. IsLine (line_view l) in subst P (sym e) (n, fields.proper)

pub stream_line : (line : Line) (sign : StreamSign) (bytes : Vec ℕ) (text : List ℕ) → line ≡ lines.Stream sign bytes → text ≡ bytes.items → AreBytes text → IsLine (line_view line)
stream_line line sign bytes text e same h = let P : Line → Type 0 = λ l. IsLine (line_view l) in subst P (sym e) (subst AreBytes same h)

pub result_bytes : (line : Line) (token class : List ℕ) (fields : FieldList) → line ≡ lines.Result token class fields → line_bytes (line_view line) ≡ token ++ (94 ∷ class_bytes class (fields_view fields.items.items))
unfolding line_bytes
result_bytes line token class fields e = ap (λ (l : Line). line_bytes (line_view l)) e

pub notice_bytes : (line : Line) (sign : NoticeSign) (class : List ℕ) (fields : FieldList) (s : ℕ) → line ≡ lines.Notice sign class fields
    → s ≡ notice_byte sign → line_bytes (line_view line) ≡ s ∷ class_bytes class (fields_view fields.items.items)
unfolding line_bytes
notice_bytes line sign class fields s e same = ap (λ (l : Line). line_bytes (line_view l)) e ∙ ap (λ (n : ℕ). n ∷ class_bytes class (fields_view fields.items.items)) (sym same)

pub stream_bytes : (line : Line) (sign : StreamSign) (bytes : Vec ℕ) → line ≡ lines.Stream sign bytes → line_bytes (line_view line) ≡ stream_byte sign ∷ (c_string bytes.items ++ 10 ∷ [])
unfolding line_bytes
stream_bytes line sign bytes e = ap (λ (l : Line). line_bytes (line_view l)) e

pub prompt_bytes : (line : Line) → line ≡ lines.Prompt → line_bytes (line_view line) ≡ prompt_text
unfolding line_bytes
prompt_bytes line e = ap (λ (l : Line). line_bytes (line_view l)) e

pub prompt_written : {A E : Type 0} (r : Result A E) (old new total : List ℕ) → total ≡ prompt_text → new ≡ cond (is_ok r) (old ++ prompt_text) old → OnOk r (new ≡ old ++ total)
prompt_written (Ok x) old new total t e = e ∙ ap (λ (l : List ℕ). old ++ l) (sym t)
prompt_written (Err x) old new total t e = tt

-- ---- the tail of a line

pub tail_stops : (fs : Fields) (r : List ℕ) → StopsName (fields_from 10 true fs ++ r)
unfolding value_bytes
tail_stops no_field r b x e = ap is_name_byte (let heads : b ≡ 10 = cc in heads)
tail_stops (field n v fs) r b x e = ap is_name_byte (let heads : b ≡ 44 = cc in heads)

pub tail_empty : (bytes rest : List ℕ) (fs : List (List ℕ × Value)) → fs ≡ [] → bytes ≡ 10 ∷ rest → (bytes ≡ fields_from 10 true (fields_view fs) ++ rest) × AreProperFields (fields_view fs) 16
unfolding value_bytes
tail_empty bytes rest fs none e = subst (λ (l : List (List ℕ × Value)). (bytes ≡ fields_from 10 true (fields_view l) ++ rest) × AreProperFields (fields_view l) 16) (sym none) (e, tt)

pub tail_neither : (bytes : List ℕ) → ((x : List ℕ) → bytes ≡ 10 ∷ x → ⊥) → ((x : List ℕ) → bytes ≡ 44 ∷ x → ⊥) → (fs : Fields) (rest : List ℕ) → AreProperFields fs 16 → bytes ≡ fields_from 10 true fs ++ rest → ⊥
unfolding value_bytes
tail_neither bytes end comma no_field rest h e = end rest e
tail_neither bytes end comma (field n v fs) rest h e = comma _ e

-- a comma that no field follows
pub tail_bare : (bytes inner x : List ℕ) → bytes ≡ 44 ∷ inner → inner ≡ 10 ∷ x → (fs : Fields) (rest : List ℕ) → AreProperFields fs 16 → bytes ≡ fields_from 10 true fs ++ rest → ⊥
unfolding value_bytes
tail_bare bytes inner x c e no_field rest h f = apart 44 10 _ _ (sym c ∙ f) refl
tail_bare bytes inner x c e (field n v fs) rest h f =
    let g : 44 ∷ inner ≡ 44 ∷ ((n ++ (61 ∷ (value_bytes v ++ fields_from 10 true fs))) ++ rest) = sym c ∙ f in
    let tails : inner ≡ (n ++ (61 ∷ (value_bytes v ++ fields_from 10 true fs))) ++ rest = cc in
    no_name n _ x 10 h.0 refl (sym (append_assoc n (61 ∷ (value_bytes v ++ fields_from 10 true fs)) rest) ∙ sym tails ∙ e)

with_comma : (fs : Fields) (bytes inner rest : List ℕ) → bytes ≡ 44 ∷ inner → ((x : List ℕ) → inner ≡ 10 ∷ x → ⊥) → inner ≡ fields_from 10 false fs ++ rest → bytes ≡ fields_from 10 true fs ++ rest
unfolding value_bytes
with_comma no_field bytes inner rest c end e = absurd (end rest e)
with_comma (field n v fs) bytes inner rest c end e = c ∙ ap (λ (l : List ℕ). 44 ∷ l) e

without_comma : (fs : Fields) (bytes inner rest : List ℕ) → bytes ≡ 44 ∷ inner → bytes ≡ fields_from 10 true fs ++ rest → inner ≡ fields_from 10 false fs ++ rest
unfolding value_bytes
without_comma no_field bytes inner rest c e = absurd (apart 44 10 _ _ (sym c ∙ e) refl)
without_comma (field n v fs) bytes inner rest c e =
    let g : 44 ∷ inner ≡ 44 ∷ ((n ++ (61 ∷ (value_bytes v ++ fields_from 10 true fs))) ++ rest) = sym c ∙ e in cc

pub tail_read : (bytes inner : List ℕ) (r : Result (Vec (List ℕ × Value) × Bor (List ℕ)) ReadFault) → bytes ≡ 44 ∷ inner → ((x : List ℕ) → inner ≡ 10 ∷ x → ⊥) → ReadsFields 10 inner 16 r → ReadsTail bytes r
tail_read bytes inner (Ok p) c end h = (with_comma (fields_view p.0.items) bytes inner p.1.now c end h.0, h.1)
tail_read bytes inner (Err failures.NoMemory) c end h = tt
tail_read bytes inner (Err failures.Text) c end h = λ fs rest p e. h fs rest p (without_comma fs bytes inner rest c e)

-- ---- the class and its fields

-- a longest name is the only one
one_word : (a b x y : List ℕ) → are_name_bytes a ≡ true → are_name_bytes b ≡ true → StopsName x → StopsName y → a ++ x ≡ b ++ y → (a ≡ b) × (x ≡ y)
one_word [] [] x y ha hb sx sy e = (refl, e)
one_word [] (c ∷ b) x y ha hb sx sy e = let p = both (is_name_byte c) (are_name_bytes b) hb in let f = sx c (b ++ y) e in absurd cc
one_word (c ∷ a) [] x y ha hb sx sy e = let p = both (is_name_byte c) (are_name_bytes a) ha in let f = sy c (a ++ x) (sym e) in absurd cc
one_word (c ∷ a) (d ∷ b) x y ha hb sx sy e =
    let p = both (is_name_byte c) (are_name_bytes a) ha in
    let q = both (is_name_byte d) (are_name_bytes b) hb in
    let ih = one_word a b x y p.1 q.1 sx sy cc in
    let heads : c ≡ d = cc in let tails : a ≡ b = ih.0 in (cc, ih.1)

class_split : (class : List ℕ) (fs : Fields) (rest : List ℕ) → class_bytes class fs ++ rest ≡ class ++ (fields_from 10 true fs ++ rest)
class_split class fs rest = append_assoc class (fields_from 10 true fs) rest

pub class_read : (bytes name rest end : List ℕ) (fs : Fields) → bytes ≡ name ++ rest → is_name name ≡ true → rest ≡ fields_from 10 true fs ++ end → AreProperFields fs 16 → HasClass bytes name fs
class_read bytes name rest end fs e n f p = (end, e ∙ ap (λ (l : List ℕ). name ++ l) f ∙ sym (class_split name fs end), n, p)

no_class : (bytes : List ℕ) → StopsName bytes → (class : List ℕ) (fs : Fields) → HasClass bytes class fs → ⊥
no_class bytes stop [] fs h = let named = h.2 in cc
no_class bytes stop (c ∷ class) fs h =
    let p = both (is_name_byte c) (are_name_bytes class) h.2 in
    let f = stop c (class ++ (fields_from 10 true fs ++ h.0)) (h.1 ∙ class_split (c ∷ class) fs h.0) in absurd cc

pub class_no_word : (bytes : List ℕ) (f : ReadFault) → ReadsWord bytes (Err f) → ReadsClass bytes (Err f)
class_no_word bytes failures.NoMemory h = tt
class_no_word bytes failures.Text h = no_class bytes h

pub class_no_tail : (bytes name rest : List ℕ) (f : ReadFault) → bytes ≡ name ++ rest → is_name name ≡ true → StopsName rest → ReadsTail rest (Err f) → ReadsClass bytes (Err f)
class_no_tail bytes name rest failures.NoMemory e n stop h = tt
class_no_tail bytes name rest failures.Text e n stop h = λ class fs has.
    let o = one_word name class rest (fields_from 10 true fs ++ has.0) (name_bytes name n) (name_bytes class has.2) stop (tail_stops fs has.0) (sym e ∙ has.1 ∙ class_split class fs has.0) in
    h fs has.0 has.3 o.1

pub one_class : (bytes c d : List ℕ) (fs gs : Fields) → HasClass bytes c fs → HasClass bytes d gs → (c ≡ d) × (fs ≡ gs)
one_class bytes c d fs gs h g =
    let o = one_word c d (fields_from 10 true fs ++ h.0) (fields_from 10 true gs ++ g.0) (name_bytes c h.2) (name_bytes d g.2) (tail_stops fs h.0) (tail_stops gs g.0)
    (sym (class_split c fs h.0) ∙ sym h.1 ∙ g.1 ∙ class_split d gs g.0) in
    (o.0, (one_fields fs gs 10 true 16 16 h.0 g.0 refl h.3 g.3 o.1).0)

-- ---- notices and streams

pub notice_read : (sign : NoticeSign) (bytes class : List ℕ) (fields : FieldList) → HasClass bytes class (fields_view fields.items.items) → Begins (notice_byte sign ∷ bytes) (line_view (lines.Notice sign class fields))
unfolding line_bytes
notice_read sign bytes class fields h = record {
  front = notice_byte sign ∷ class_bytes class (fields_view fields.items.items);
  rest = h.0;
  line = record { line = (h.2, h.3); text = refl };
  whole = ap (λ (l : List ℕ). notice_byte sign ∷ l) h.1;
}

pub stream_read : (sign : StreamSign) (bytes rest end : List ℕ) (text : Vec ℕ) → bytes ≡ c_string text.items ++ rest → AreBytes text.items → rest ≡ 10 ∷ end → Begins (stream_byte sign ∷ bytes) (line_view (lines.Stream sign text))
unfolding line_bytes
stream_read sign bytes rest end text e h f = record {
  front = stream_byte sign ∷ (c_string text.items ++ 10 ∷ []);
  rest = end;
  line = record { line = h; text = refl };
  whole = ap (λ (l : List ℕ). stream_byte sign ∷ l) (e ∙ ap (λ (l : List ℕ). c_string text.items ++ l) f ∙ sym (append_assoc (c_string text.items) (10 ∷ []) end));
}

pub stream_no_end : (bytes t rest : List ℕ) → bytes ≡ c_string t ++ rest → AreBytes t → ((x : List ℕ) → rest ≡ 10 ∷ x → ⊥) → (text end : List ℕ) → AreBytes text → bytes ≡ c_string text ++ 10 ∷ end → ⊥
stream_no_end bytes t rest e h none text end b f = none end (one_c_string t text rest (10 ∷ end) h b (sym e ∙ f)).1

-- ---- tokens and results

abbrev pub is_caret : ℕ → Bool
is_caret b = b == 94

no_caret : (d : ℕ) → is_digit d ≡ true → is_caret d ≡ false
no_caret d h = let p = both (leb 48 d) (leb d 57) h in let high = leb-true d 57 p.1 in ne_eqb d 94 (λ e. omega arith)

token_digits : (t : List ℕ) → is_token t ≡ true → list_all is_digit t ≡ true
token_digits t h = (both (leb (length t) 18) (list_all is_digit t) h).1

caret_behind : (t r : List ℕ) → list_all is_digit t ≡ true → position_or_len is_caret (t ++ 94 ∷ r) ≡ length t
caret_behind [] r h = refl
caret_behind (d ∷ t) r h = let p = both (is_digit d) (list_all is_digit t) h in rw (no_caret d p.0) (omega (arith, caret_behind t r p.1))

token_at : (t r : List ℕ) → is_token t ≡ true → position is_caret (t ++ 94 ∷ r) ≡ Some (length t)
token_at t r h =
    let at = caret_behind t r (token_digits t h) in
    let lt : length t < length (t ++ 94 ∷ r) = omega (arith, length-append t (94 ∷ r)) in
    rw (at, lt-ltb (length t) (length (t ++ 94 ∷ r)) lt) refl

pub no_token : (bytes : List ℕ) → None ≡ position is_caret bytes → (t r : List ℕ) → is_token t ≡ true → bytes ≡ t ++ 94 ∷ r → ⊥
no_token bytes none t r h e = let some : position is_caret bytes ≡ Some (length t) = ap (position is_caret) e ∙ token_at t r h in cc

front_of : (t r : List ℕ) → take (length t) (t ++ r) ≡ t
front_of [] r = refl
front_of (b ∷ t) r = ap (λ (l : List ℕ). b ∷ l) (front_of t r)

other_front : (bytes : List ℕ) (k : ℕ) → Some k ≡ position is_caret bytes → is_token (take k bytes) ≡ false → (t r : List ℕ) → is_token t ≡ true → bytes ≡ t ++ 94 ∷ r → ⊥
other_front bytes k some fails t r h e =
    let same : k ≡ length t = same_Some k (length t) (some ∙ ap (position is_caret) e ∙ token_at t r h) in
    let front : take k bytes ≡ t = ap (λ (n : ℕ). take n bytes) same ∙ ap (take (length t)) e ∙ front_of t (94 ∷ r) in
    let f : is_token (take k bytes) ≡ is_token t = ap is_token front in cc

token_split : (bytes : List ℕ) (k : ℕ) → Some k ≡ position is_caret bytes → bytes ≡ take k bytes ++ 94 ∷ drop (k + 1) bytes
token_split bytes k some =
    let p = position-Some is_caret bytes k 0 (sym some) in
    let at : get_or bytes k 0 ≡ 94 = eqb-true (get_or bytes k 0) 94 p.1 in
    sym (take-append-drop k bytes) ∙ ap (λ (l : List ℕ). take k bytes ++ l) (drop_more bytes k 0 p.0 ∙ ap (λ (b : ℕ). b ∷ drop (k + 1) bytes) at)

cut_back : (xs : List ℕ) (n : ℕ) → take (length xs - n) (drop n xs) ≡ drop n xs
cut_back xs n = ap (λ (k : ℕ). take k (drop n xs)) (sym (length-drop n xs)) ∙ take-length (drop n xs)

pub token_taken : (bytes token : List ℕ) (k : ℕ) → Some k ≡ position is_caret bytes → token ≡ take k bytes → true ≡ is_token (take k bytes)
    → (bytes ≡ token ++ 94 ∷ take (length bytes - (k + 1)) (drop (k + 1) bytes)) × (is_token token ≡ true)
token_taken bytes token k some same is =
    (token_split bytes k some ∙ ap (λ (l : List ℕ). l ++ 94 ∷ drop (k + 1) bytes) (sym same) ∙ ap (λ (l : List ℕ). token ++ 94 ∷ l) (sym (cut_back bytes (k + 1))), ap is_token same ∙ sym is)

pub not_token : (bytes : List ℕ) (k : ℕ) → Some k ≡ position is_caret bytes → false ≡ is_token (take k bytes) → (t r : List ℕ) → is_token t ≡ true → bytes ≡ t ++ 94 ∷ r → ⊥
not_token bytes k some fails = other_front bytes k some (sym fails)

one_token : (t u x y : List ℕ) → list_all is_digit t ≡ true → list_all is_digit u ≡ true → t ++ 94 ∷ x ≡ u ++ 94 ∷ y → (t ≡ u) × (x ≡ y)
one_token [] [] x y ht hu e = (refl, cc)
one_token [] (d ∷ u) x y ht hu e =
    let p = both (is_digit d) (list_all is_digit u) hu in
    let heads : d ≡ 94 = cc in let f = no_caret d p.0 in let g : is_caret d ≡ true = ap is_caret heads in absurd cc
one_token (d ∷ t) [] x y ht hu e =
    let p = both (is_digit d) (list_all is_digit t) ht in
    let heads : d ≡ 94 = cc in let f = no_caret d p.0 in let g : is_caret d ≡ true = ap is_caret heads in absurd cc
one_token (c ∷ t) (d ∷ u) x y ht hu e =
    let p = both (is_digit c) (list_all is_digit t) ht in
    let q = both (is_digit d) (list_all is_digit u) hu in
    let ih = one_token t u x y p.1 q.1 cc in
    let heads : c ≡ d = cc in let tails : t ≡ u = ih.0 in (cc, ih.1)

pub result_read : (bytes token rest class : List ℕ) (fields : FieldList) → bytes ≡ token ++ 94 ∷ rest → is_token token ≡ true
    → HasClass rest class (fields_view fields.items.items) → Begins bytes (line_view (lines.Result token class fields))
unfolding line_bytes
result_read bytes token rest class fields e t h =
    let tail = class_bytes class (fields_view fields.items.items) in
    record {
      front = token ++ (94 ∷ tail);
      rest = h.0;
      line = record { line = (t, h.2, h.3); text = refl };
      whole = e ∙ ap (λ (l : List ℕ). token ++ 94 ∷ l) h.1 ∙ sym (append_assoc token (94 ∷ tail) h.0);
    }

pub result_no_class : (bytes t rest : List ℕ) (f : ReadFault) → bytes ≡ t ++ 94 ∷ rest → is_token t ≡ true → ReadsClass rest (Err f) → ReadsResult bytes (Err f)
result_no_class bytes t rest failures.NoMemory e h none = tt
result_no_class bytes t rest failures.Text e h none = λ token class fields other is has f.
    let same = one_token t token rest other (token_digits t h) (token_digits token is) (sym e ∙ f) in
    none class fields (subst (λ (l : List ℕ). HasClass l class fields) (sym same.1) has)

-- ---- the whole line

-- which of the four kinds of line begins with a byte
kind_byte : ℕ → ℕ
kind_byte b = cond (b == 42) 1 (cond (b == 61) 1 (cond (b == 64) 2 (cond (b == 38) 2 (cond (b == 40) 3 0))))

kind_of : LineTree → ℕ
kind_of (result t c f) = 0
kind_of (notice s c f) = 1
kind_of (stream s t) = 2
kind_of prompt = 3

first : List ℕ → ℕ
first [] = 0
first (b ∷ bs) = b

digit_kind : (d : ℕ) → is_digit d ≡ true → kind_byte d ≡ 0
unfolding kind_byte
digit_kind d h =
    let p = both (leb 48 d) (leb d 57) h in
    let low = leb-true 48 d p.0 in
    let high = leb-true d 57 p.1 in
    rw (ne_eqb d 42 (λ e. omega arith), ne_eqb d 61 (λ e. omega arith), ne_eqb d 64 (λ e. omega arith), ne_eqb d 38 (λ e. omega arith), ne_eqb d 40 (λ e. omega arith)) refl

kind_is : (tree : LineTree) (bytes rest : List ℕ) → IsLine tree → bytes ≡ line_bytes tree ++ rest → kind_byte (first bytes) ≡ kind_of tree
unfolding line_bytes kind_byte kind_of first
kind_is (result [] c f) bytes rest h e = ap (λ (l : List ℕ). kind_byte (first l)) e
kind_is (result (d ∷ t) c f) bytes rest h e = ap (λ (l : List ℕ). kind_byte (first l)) e ∙ digit_kind d (both (is_digit d) (list_all is_digit t) (token_digits (d ∷ t) h.0)).0
kind_is (notice Exec c f) bytes rest h e = ap (λ (l : List ℕ). kind_byte (first l)) e
kind_is (notice Notify c f) bytes rest h e = ap (λ (l : List ℕ). kind_byte (first l)) e
kind_is (stream Target t) bytes rest h e = ap (λ (l : List ℕ). kind_byte (first l)) e
kind_is (stream Log t) bytes rest h e = ap (λ (l : List ℕ). kind_byte (first l)) e
kind_is prompt bytes rest h e = ap (λ (l : List ℕ). kind_byte (first l)) e

spelled : (bytes : List ℕ) (tree : LineTree) (b : Begins bytes tree) → bytes ≡ line_bytes tree ++ b.rest
spelled bytes tree b = b.whole ∙ ap (λ (l : List ℕ). l ++ b.rest) b.line.text

kind_begins : (bytes : List ℕ) (tree : LineTree) → Begins bytes tree → kind_byte (first bytes) ≡ kind_of tree
kind_begins bytes tree b = kind_is tree bytes b.rest b.line.line (spelled bytes tree b)

one_classed : (c d : List ℕ) (f g : Fields) (x y : List ℕ) → is_name c ≡ true → is_name d ≡ true → AreProperFields f 16 → AreProperFields g 16 → class_bytes c f ++ x ≡ class_bytes d g ++ y → (c ≡ d) × (f ≡ g)
one_classed c d f g x y hc hd hf hg e = one_class (class_bytes c f ++ x) c d f g (x, refl, hc, hf) (y, e, hd, hg)

one_streamed : (t u x y : List ℕ) → AreBytes t → AreBytes u → (c_string t ++ 10 ∷ []) ++ x ≡ (c_string u ++ 10 ∷ []) ++ y → t ≡ u
one_streamed t u x y ht hu e = (one_c_string t u (10 ∷ x) (10 ∷ y) ht hu (sym (append_assoc (c_string t) (10 ∷ []) x) ∙ e ∙ append_assoc (c_string u) (10 ∷ []) y)).0

one_by : (a b : LineTree) (x y : List ℕ) → IsLine a → IsLine b → kind_of a ≡ kind_of b → line_bytes a ++ x ≡ line_bytes b ++ y → a ≡ b
unfolding line_bytes kind_of
one_by (result t c f) (result u d g) x y ha hb k e =
    let p = one_token t u (class_bytes c f ++ x) (class_bytes d g ++ y) (token_digits t ha.0) (token_digits u hb.0) (sym (append_assoc t (94 ∷ class_bytes c f) x) ∙ e ∙ append_assoc u (94 ∷ class_bytes d g) y) in
    let q = one_classed c d f g x y ha.1 hb.1 ha.2 hb.2 p.1 in
    let tokens : t ≡ u = p.0 in let classes : c ≡ d = q.0 in let fields : f ≡ g = q.1 in cc
one_by (notice Exec c f) (notice Exec d g) x y ha hb k e =
    let q = one_classed c d f g x y ha.0 hb.0 ha.1 hb.1 cc in let classes : c ≡ d = q.0 in let fields : f ≡ g = q.1 in cc
one_by (notice Notify c f) (notice Notify d g) x y ha hb k e =
    let q = one_classed c d f g x y ha.0 hb.0 ha.1 hb.1 cc in let classes : c ≡ d = q.0 in let fields : f ≡ g = q.1 in cc
one_by (stream Target t) (stream Target u) x y ha hb k e = ap (stream Target) (one_streamed t u x y ha hb cc)
one_by (stream Log t) (stream Log u) x y ha hb k e = ap (stream Log) (one_streamed t u x y ha hb cc)
one_by (notice Exec c f) (notice Notify d g) x y ha hb k e = absurd (apart 42 61 _ _ e refl)
one_by (notice Notify c f) (notice Exec d g) x y ha hb k e = absurd (apart 61 42 _ _ e refl)
one_by (stream Target t) (stream Log u) x y ha hb k e = absurd (apart 64 38 _ _ e refl)
one_by (stream Log t) (stream Target u) x y ha hb k e = absurd (apart 38 64 _ _ e refl)
one_by prompt prompt x y ha hb k e = refl
one_by a b x y ha hb k e = absurd (omega arith)

-- no line begins another
pub one_line : (bytes : List ℕ) (a b : LineTree) → Begins bytes a → Begins bytes b → a ≡ b
one_line bytes a b x y =
    one_by a b x.rest y.rest x.line.line y.line.line (sym (kind_begins bytes a x) ∙ kind_begins bytes b y) (sym (spelled bytes a x) ∙ spelled bytes b y)

pub gives_line : (bytes : List ℕ) (r : Result Line ReadFault) → ReadsLine bytes r → (tree : LineTree) (text rest : List ℕ) → Record text tree → bytes ≡ text ++ rest → GivesLine tree r
gives_line bytes (Ok line) h tree text rest is e = one_line bytes (line_view line) tree h (record { front = text; rest = rest; line = is; whole = e })
gives_line bytes (Err failures.NoMemory) h tree text rest is e = tt
gives_line bytes (Err failures.Text) h tree text rest is e = h tree (record { front = text; rest = rest; line = is; whole = e })

-- only a line of this kind begins with this byte
notice_only : (sign : NoticeSign) (bytes : List ℕ) → ((class : List ℕ) (fields : Fields) → HasClass bytes class fields → ⊥)
    → (tree : LineTree) (rest : List ℕ) → IsLine tree → kind_byte (notice_byte sign) ≡ kind_of tree → notice_byte sign ∷ bytes ≡ line_bytes tree ++ rest → ⊥
unfolding line_bytes kind_of kind_byte
notice_only Exec bytes none (notice Exec c f) rest h k e = none c f (rest, cc, h.0, h.1)
notice_only Notify bytes none (notice Notify c f) rest h k e = none c f (rest, cc, h.0, h.1)
notice_only Exec bytes none (notice Notify c f) rest h k e = absurd (apart 42 61 _ _ e refl)
notice_only Notify bytes none (notice Exec c f) rest h k e = absurd (apart 61 42 _ _ e refl)
notice_only sign bytes none tree rest h k e = absurd (omega arith)

stream_only : (sign : StreamSign) (bytes : List ℕ) → ((text end : List ℕ) → AreBytes text → bytes ≡ c_string text ++ 10 ∷ end → ⊥)
    → (tree : LineTree) (rest : List ℕ) → IsLine tree → kind_byte (stream_byte sign) ≡ kind_of tree → stream_byte sign ∷ bytes ≡ line_bytes tree ++ rest → ⊥
unfolding line_bytes kind_of kind_byte
stream_only Target bytes none (stream Target t) rest h k e = let tails : bytes ≡ (c_string t ++ 10 ∷ []) ++ rest = cc in none t rest h (tails ∙ append_assoc (c_string t) (10 ∷ []) rest)
stream_only Log bytes none (stream Log t) rest h k e = let tails : bytes ≡ (c_string t ++ 10 ∷ []) ++ rest = cc in none t rest h (tails ∙ append_assoc (c_string t) (10 ∷ []) rest)
stream_only Target bytes none (stream Log t) rest h k e = absurd (apart 64 38 _ _ e refl)
stream_only Log bytes none (stream Target t) rest h k e = absurd (apart 38 64 _ _ e refl)
stream_only sign bytes none tree rest h k e = absurd (omega arith)

first_byte : (b : ℕ) (bytes : List ℕ) → first (b ∷ bytes) ≡ b
unfolding first
first_byte b bytes = refl

pub notice_whole : (sign : NoticeSign) (bytes rest : List ℕ) (s : ℕ) (r : Result Line ReadFault) → bytes ≡ s ∷ rest → s ≡ notice_byte sign → ReadsNotice sign rest r → ReadsLine bytes r
notice_whole sign bytes rest s (Ok line) e same h = subst (λ (l : List ℕ). Begins l (line_view line)) (sym (e ∙ ap (λ (n : ℕ). n ∷ rest) same)) h
notice_whole sign bytes rest s (Err failures.NoMemory) e same h = tt
notice_whole sign bytes rest s (Err failures.Text) e same h = λ tree b.
    let whole : bytes ≡ notice_byte sign ∷ rest = e ∙ ap (λ (n : ℕ). n ∷ rest) same in
    let kind = ap kind_byte (sym (first_byte (notice_byte sign) rest)) ∙ ap (λ (l : List ℕ). kind_byte (first l)) (sym whole) ∙ kind_begins bytes tree b in
    notice_only sign rest h tree b.rest b.line.line kind (sym whole ∙ spelled bytes tree b)

pub stream_whole : (sign : StreamSign) (bytes rest : List ℕ) (s : ℕ) (r : Result Line ReadFault) → bytes ≡ s ∷ rest → s ≡ stream_byte sign → ReadsStream sign rest r → ReadsLine bytes r
stream_whole sign bytes rest s (Ok line) e same h = subst (λ (l : List ℕ). Begins l (line_view line)) (sym (e ∙ ap (λ (n : ℕ). n ∷ rest) same)) h
stream_whole sign bytes rest s (Err failures.NoMemory) e same h = tt
stream_whole sign bytes rest s (Err failures.Text) e same h = λ tree b.
    let whole : bytes ≡ stream_byte sign ∷ rest = e ∙ ap (λ (n : ℕ). n ∷ rest) same in
    let kind = ap kind_byte (sym (first_byte (stream_byte sign) rest)) ∙ ap (λ (l : List ℕ). kind_byte (first l)) (sym whole) ∙ kind_begins bytes tree b in
    stream_only sign rest h tree b.rest b.line.line kind (sym whole ∙ spelled bytes tree b)

pub prompt_read : (bytes rest : List ℕ) → bytes ≡ prompt_text ++ rest → Begins bytes (line_view lines.Prompt)
unfolding line_bytes
prompt_read bytes rest e = record { front = prompt_text; rest = rest; line = record { line = tt; text = refl }; whole = e }

result_only : (bytes : List ℕ) → ((x : List ℕ) → bytes ≡ 42 ∷ x → ⊥) → ((x : List ℕ) → bytes ≡ 61 ∷ x → ⊥) → ((x : List ℕ) → bytes ≡ 64 ∷ x → ⊥) → ((x : List ℕ) → bytes ≡ 38 ∷ x → ⊥) → ((x : List ℕ) → bytes ≡ prompt_text ++ x → ⊥)
    → ((token class : List ℕ) (fields : Fields) (rest : List ℕ) → is_token token ≡ true → HasClass rest class fields → bytes ≡ token ++ 94 ∷ rest → ⊥)
    → (tree : LineTree) (rest : List ℕ) → IsLine tree → bytes ≡ line_bytes tree ++ rest → ⊥
unfolding line_bytes
result_only bytes n1 n2 n3 n4 n5 none (result t c f) rest h e = none t c f (class_bytes c f ++ rest) h.0 (rest, refl, h.1, h.2) (e ∙ append_assoc t (94 ∷ class_bytes c f) rest)
result_only bytes n1 n2 n3 n4 n5 none (notice Exec c f) rest h e = n1 _ e
result_only bytes n1 n2 n3 n4 n5 none (notice Notify c f) rest h e = n2 _ e
result_only bytes n1 n2 n3 n4 n5 none (stream Target t) rest h e = n3 _ e
result_only bytes n1 n2 n3 n4 n5 none (stream Log t) rest h e = n4 _ e
result_only bytes n1 n2 n3 n4 n5 none prompt rest h e = n5 rest e

pub result_whole : (bytes : List ℕ) (r : Result Line ReadFault) → ((x : List ℕ) → bytes ≡ 42 ∷ x → ⊥) → ((x : List ℕ) → bytes ≡ 61 ∷ x → ⊥)
    → ((x : List ℕ) → bytes ≡ 64 ∷ x → ⊥) → ((x : List ℕ) → bytes ≡ 38 ∷ x → ⊥) → ((x : List ℕ) → bytes ≡ prompt_text ++ x → ⊥)
    → ReadsResult bytes r → ReadsLine bytes r
result_whole bytes (Ok line) n1 n2 n3 n4 n5 h = h
result_whole bytes (Err failures.NoMemory) n1 n2 n3 n4 n5 h = tt
result_whole bytes (Err failures.Text) n1 n2 n3 n4 n5 h = λ tree b. result_only bytes n1 n2 n3 n4 n5 h tree b.rest b.line.line (spelled bytes tree b)
