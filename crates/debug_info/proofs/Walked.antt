-- The marks of a unit in place of its entries: a list of them is walked, and what is read again is what was there.
use Rattle.debug_info.proofs.Words.{◌≡◌, ◌<◌, ◌≤◌, ◌+◌, ◌++◌, ℕ, zero, suc, Bool, true, false, List, [], ◌∷◌, length, map, filter, take, drop, get_or, Option, None, Some, refl, arith, sym, ◌∙◌, ap, subst, append-nil, append_assoc, find}
use Rattle.debug_info.proofs.Words.{option_and_then, ◌==◌, ◌&&◌, if◌then◌else◌, get_or-map, length-map, map-append, take_more, filter-append, entry_list, AreReread, all_reread, is_entered_mark, is_own_mark}
use Rattle.debug_info.proofs.Words.{mark_of, reread_in, inner, is_block, is_entered, is_open, is_own, is_within, own_among, own_entries, is_below, shut_by, Entry, Mark}
use Rattle.debug_info.specs.declared.entry.Kind.TheVariants as kind
use Rattle.debug_info.specs.declared.entry.Tag.TheVariants as tag
use Rattle.debug_info.specs.declared.expression.Base.TheVariants as base
use Rattle.debug_info.specs.declared.expression.Place.TheVariants as place
use Rattle.debug_info.specs.declared.mark.Unit.{Unit as Looked}
use Rattle.debug_info.proofs.Opened.{Opened, ended, hidden_at, opened_start, over_at, seen_at}

abbrev blank : Entry
blank = record { offset = 0; level = 0; has_children = false; tag = tag.Parameter; name = None; range = None; place = place.Absent; base = base.Cfa; basic = kind.Signed 0; type_of = None }

abbrev pub AreAgain : Looked → List Entry → Type 0
AreAgain u es = AreReread u.source.abbrevs.now u.source.strs.now u.source.info.now u.table.now.at u.at es

again_at : (u : Looked) (es : List Entry) (k : ℕ) → AreAgain u es → k < length es → reread_in u (mark_of (get_or es k blank)) ≡ Some (get_or es k blank)
again_at u [] k all h = absurd (omega arith)
again_at u (e ∷ es) zero all h = all.0
again_at u (e ∷ es) (suc k) all h = again_at u es k all.1 (omega arith)

pub again_drop : (u : Looked) (n : ℕ) (es : List Entry) → AreAgain u es → AreAgain u (drop n es)
again_drop u zero es all = all
again_drop u (suc n) [] all = tt
again_drop u (suc n) (e ∷ es) all = again_drop u n es all.1

again_take : (u : Looked) (n : ℕ) (es : List Entry) → AreAgain u es → AreAgain u (take n es)
again_take u zero es all = tt
again_take u (suc n) [] all = tt
again_take u (suc n) (e ∷ es) all = (all.0, again_take u n es all.1)

again_one : (u : Looked) (c : Bool) (e : Entry) (rest : List Entry) → reread_in u (mark_of e) ≡ Some e → AreAgain u rest → AreAgain u (filter (λ (x : Entry). c) (e ∷ []) ++ rest)
again_one u true e rest is all = (is, all)
again_one u false e rest is all = all

again_own : (u : Looked) (pc : ℕ) (before es : List Entry) → AreAgain u es → AreAgain u (own_among pc before es)
again_own u pc before [] all = tt
again_own u pc before (e ∷ es) all = again_one u (is_open pc before e.level && is_own pc e) e (own_among pc (e ∷ before) es) all.0 (again_own u pc (e ∷ before) es all.1)

pub own_again : (u : Looked) (pc function : ℕ) (behind : List Entry) → AreAgain u behind → AreAgain u (own_entries pc function behind)
own_again u pc function behind all = again_own u pc [] (inner function behind) (again_take u _ behind all)

-- ---- the walk over what stands behind a function

pub record Walked (pc function : ℕ) (whole : List Entry) (marks : List Mark) (shut : Option ℕ) (left : List Entry) : Type 0 where
  pub entries : List Entry
  pub kept : marks ≡ map mark_of entries
  pub opened : Opened pc function whole entries shut left

pub walked_start : (pc function : ℕ) (behind : List Entry) (marks : List Mark) → marks ≡ [] → Walked pc function (own_entries pc function behind) marks None behind
walked_start pc function behind marks none = record { entries = []; kept = none; opened = opened_start pc function behind }

within : (behind : List Mark) (es : List Entry) (k : ℕ) → behind ≡ map mark_of es → k < length behind → k < length es
within behind es k same h = (let n : length behind ≡ length es = ap length same ∙ length-map es mark_of in omega arith)

here : (behind : List Mark) (es : List Entry) (k : ℕ) (d : Mark) → behind ≡ map mark_of es → k < length behind → get_or behind k d ≡ mark_of (get_or es k blank)
here behind es k d same h = ap (λ (ms : List Mark). get_or ms k d) same ∙ get_or-map mark_of es k blank d (within behind es k same h)

pub walked_over : (pc function : ℕ) (whole : List Entry) (marks : List Mark) (shut : Option ℕ) (behind : List Mark) (es : List Entry) (k : ℕ) (d : Mark) → behind ≡ map mark_of es → k < length behind
    → (get_or behind k d).level ≤ function → Walked pc function whole marks shut (drop k es) → marks ≡ map mark_of whole
walked_over pc function whole marks shut behind es k d same h past w =
    let past_entry : (get_or es k blank).level ≤ function = subst (λ (m : Mark). m.level ≤ function) (here behind es k d same h) past in
    w.kept ∙ ap (λ (xs : List Entry). map mark_of xs) (over_at pc function whole w.entries shut es k blank (within behind es k same h) past_entry w.opened)

pub walked_end : (pc function : ℕ) (whole : List Entry) (marks : List Mark) (shut : Option ℕ) (behind : List Mark) (es : List Entry) (k : ℕ) → behind ≡ map mark_of es → length behind ≤ k
    → Walked pc function whole marks shut (drop k es) → marks ≡ map mark_of whole
walked_end pc function whole marks shut behind es k same h w =
    let past : length es ≤ k = (let n : length behind ≡ length es = ap length same ∙ length-map es mark_of in omega arith) in
    w.kept ∙ ap (λ (xs : List Entry). map mark_of xs) (ended pc function whole w.entries shut es k past w.opened)

pub walked_hidden : (pc function : ℕ) (whole : List Entry) (marks : List Mark) (shut : Option ℕ) (behind : List Mark) (es : List Entry) (k : ℕ) (d : Mark) → behind ≡ map mark_of es → k < length behind
    → function < (get_or behind k d).level → is_below shut (get_or behind k d).level ≡ true → Walked pc function whole marks shut (drop k es) → Walked pc function whole marks shut (drop (k + 1) es)
walked_hidden pc function whole marks shut behind es k d same h deep below w =
    let is = here behind es k d same h in
    let deep_entry : function < (get_or es k blank).level = subst (λ (m : Mark). function < m.level) is deep in
    let below_entry : is_below shut (get_or es k blank).level ≡ true = subst (λ (m : Mark). is_below shut m.level ≡ true) is below in
    record { entries = w.entries; kept = w.kept; opened = hidden_at pc function whole w.entries shut es k blank (within behind es k same h) deep_entry below_entry w.opened }

one_own : (c : Bool) (e : Entry) → filter (λ (m : Mark). c) (mark_of e ∷ []) ≡ map mark_of (filter (λ (x : Entry). c) (e ∷ []))
one_own true e = refl
one_own false e = refl

entered_mark : (u : Looked) (pc : ℕ) (e : Entry) → reread_in u (mark_of e) ≡ Some e → is_entered_mark u pc (mark_of e) ≡ is_entered pc e
entered_mark u pc e again = ap (λ (o : Option Entry). is_block e.tag && is_within pc (option_and_then (λ (x : Entry). x.range) o)) again

pub walked_seen : (u : Looked) (pc function : ℕ) (whole : List Entry) (marks pushed : List Mark) (shut next : Option ℕ) (entered : Bool) (behind : List Mark) (es : List Entry) (k : ℕ) (d : Mark)
    → behind ≡ map mark_of es → AreAgain u es → k < length behind → function < (get_or behind k d).level → is_below shut (get_or behind k d).level ≡ false
    → entered ≡ is_entered_mark u pc (get_or behind k d) → next ≡ (if entered then None else Some (get_or behind k d).level) → pushed ≡ marks ++ filter (is_own_mark entered) (get_or behind k d ∷ [])
    → Walked pc function whole marks shut (drop k es) → Walked pc function whole pushed next (drop (k + 1) es)
walked_seen u pc function whole marks pushed shut next entered behind es k d same all h deep far known shuts push w =
    let e = get_or es k blank in
    let is : get_or behind k d ≡ mark_of e = here behind es k d same h in
    let deep_entry : function < e.level = subst (λ (m : Mark). function < m.level) is deep in
    let far_entry : is_below shut e.level ≡ false = subst (λ (m : Mark). is_below shut m.level ≡ false) is far in
    let enters : entered ≡ is_entered pc e = known ∙ ap (is_entered_mark u pc) is ∙ entered_mark u pc e (again_at u es k all (within behind es k same h)) in
    let closed : next ≡ shut_by pc e = shuts ∙ ap (λ (m : Mark). if entered then None else Some m.level) is ∙ ap (λ (b : Bool). if b then None else Some e.level) enters in
    let one : filter (is_own_mark entered) (get_or behind k d ∷ []) ≡ map mark_of (filter (is_own pc) (e ∷ [])) =
    ap (λ (m : Mark). filter (is_own_mark entered) (m ∷ [])) is ∙ ap (λ (b : Bool). filter (is_own_mark b) (mark_of e ∷ [])) enters ∙ one_own (is_own pc e) e in
    record {
      entries = w.entries ++ filter (is_own pc) (e ∷ []);
      kept = push ∙ ap (λ (ms : List Mark). ms ++ filter (is_own_mark entered) (get_or behind k d ∷ [])) w.kept ∙ ap (λ (ms : List Mark). map mark_of w.entries ++ ms) one
          ∙ sym (map-append mark_of w.entries (filter (is_own pc) (e ∷ [])));
      opened = subst (λ (o : Option ℕ). Opened pc function whole (w.entries ++ filter (is_own pc) (e ∷ [])) o (drop (k + 1) es)) (sym closed)
          (seen_at pc function whole w.entries (w.entries ++ filter (is_own pc) (e ∷ [])) shut es k blank (within behind es k same h) deep_entry far_entry refl w.opened);
    }

-- ---- what is read again of a list of marks

abbrev pub Both : {V : Type 0} (F : List Entry → List V) → Type 0
Both {V} F = (xs ys : List Entry) → F (xs ++ ys) ≡ F xs ++ F ys

reread_more : {V : Type 0} (F : List Entry → List V) (u : Looked) (p : Mark → Bool) (ms : List Mark) (m : Mark) → Both F → F [] ≡ []
    → F (all_reread u (filter p (ms ++ m ∷ []))) ≡ F (all_reread u (filter p ms)) ++ (if p m then F (entry_list (reread_in u m)) else [])
reread_more {V} F u p [] m both none =
    elim (p m) as (λ b. F (all_reread u (if b then m ∷ [] else [])) ≡ F [] ++ (if b then F (entry_list (reread_in u m)) else [])) [
      | true ↦ ap F (append-nil (entry_list (reread_in u m))) ∙ ap (λ (vs : List V). vs ++ F (entry_list (reread_in u m))) (sym none)
      | false ↦ sym (append-nil (F []))
    ]
reread_more {V} F u p (x ∷ ms) m both none =
    let rest = reread_more F u p ms m both none in
    elim (p x) as (λ b. F (all_reread u (if b then x ∷ filter p (ms ++ m ∷ []) else filter p (ms ++ m ∷ []))) ≡ F (all_reread u (if b then x ∷ filter p ms else filter p ms)) ++ (if p m then F (entry_list (reread_in u m)) else [])) [
      | true ↦ both (entry_list (reread_in u x)) (all_reread u (filter p (ms ++ m ∷ [])))
          ∙ ap (λ (vs : List V). F (entry_list (reread_in u x)) ++ vs) rest
          ∙ sym (append_assoc (F (entry_list (reread_in u x))) (F (all_reread u (filter p ms))) (if p m then F (entry_list (reread_in u m)) else []))
          ∙ ap (λ (vs : List V). vs ++ (if p m then F (entry_list (reread_in u m)) else [])) (sym (both (entry_list (reread_in u x)) (all_reread u (filter p ms))))
      | false ↦ rest
    ]

-- a step of a loop over marks, of which it takes some
pub taken_step : {V : Type 0} (F : List Entry → List V) (u : Looked) (p : Mark → Bool) (ms : List Mark) (k : ℕ) (d : Mark) (first old new : List V) → Both F → F [] ≡ [] → k < length ms → p (get_or ms k d) ≡ true
    → old ≡ first ++ F (all_reread u (filter p (take k ms))) → new ≡ old ++ F (entry_list (reread_in u (get_or ms k d))) → new ≡ first ++ F (all_reread u (filter p (take (k + 1) ms)))
taken_step {V} F u p ms k d first old new both none h takes was is =
    is
    ∙ ap (λ (vs : List V). vs ++ F (entry_list (reread_in u (get_or ms k d)))) was
    ∙ append_assoc first (F (all_reread u (filter p (take k ms)))) (F (entry_list (reread_in u (get_or ms k d))))
    ∙ ap (λ (vs : List V). first ++ vs) (
    ap (λ (b : Bool). F (all_reread u (filter p (take k ms))) ++ (if b then F (entry_list (reread_in u (get_or ms k d))) else [])) (sym takes)
    ∙ sym (reread_more F u p (take k ms) (get_or ms k d) both none)
    ∙ ap (λ (xs : List Mark). F (all_reread u (filter p xs))) (sym (take_more ms k d h)))

pub passed_step : {V : Type 0} (F : List Entry → List V) (u : Looked) (p : Mark → Bool) (ms : List Mark) (k : ℕ) (d : Mark) (first old : List V) → Both F → F [] ≡ [] → k < length ms → p (get_or ms k d) ≡ false
    → old ≡ first ++ F (all_reread u (filter p (take k ms))) → old ≡ first ++ F (all_reread u (filter p (take (k + 1) ms)))
passed_step {V} F u p ms k d first old both none h takes was =
    was
    ∙ ap (λ (vs : List V). first ++ vs) (
    sym (append-nil (F (all_reread u (filter p (take k ms)))))
    ∙ ap (λ (b : Bool). F (all_reread u (filter p (take k ms))) ++ (if b then F (entry_list (reread_in u (get_or ms k d))) else [])) (sym takes)
    ∙ sym (reread_more F u p (take k ms) (get_or ms k d) both none)
    ∙ ap (λ (xs : List Mark). F (all_reread u (filter p xs))) (sym (take_more ms k d h)))

pub chosen_both : {V : Type 0} (f : Entry → V) (q : Entry → Bool) → Both (λ (es : List Entry). map f (filter q es))
chosen_both {V} f q xs ys = ap (map f) (filter-append q xs ys) ∙ map-append f (filter q xs) (filter q ys)

pub level_same : (u : Looked) (level : ℕ) (es : List Entry) → AreAgain u es → all_reread u (filter (λ m. m.level == level) (map mark_of es)) ≡ filter (λ e. e.level == level) es
level_same u level [] all = refl
level_same u level (e ∷ es) all =
    elim (e.level == level) as
    (λ b. all_reread u (if b then mark_of e ∷ filter (λ m. m.level == level) (map mark_of es) else filter (λ m. m.level == level) (map mark_of es)) ≡ (if b then e ∷ filter (λ x. x.level == level)
    es else filter (λ x. x.level == level) es)) [
      | true ↦ ap (λ (o : Option Entry). entry_list o ++ all_reread u (filter (λ m. m.level == level) (map mark_of es))) all.0 ∙ ap (λ (xs : List Entry). e ∷ xs) (level_same u level es all.1)
      | false ↦ level_same u level es all.1
    ]

-- ---- one mark

pub find_again : (u : Looked) (offset : ℕ) (es : List Entry) → AreAgain u es → option_and_then (reread_in u) (find (λ m. m.offset == offset) (map mark_of es)) ≡ find (λ e. e.offset == offset) es
find_again u offset [] all = refl
find_again u offset (e ∷ es) all =
    elim (e.offset == offset) as (λ b. option_and_then (reread_in u) (if b then Some (mark_of e) else find (λ m. m.offset == offset) (map mark_of es)) ≡ (if b then Some e else find (λ x. x.offset == offset) es)) [
      | true ↦ all.0
      | false ↦ find_again u offset es all.1
    ]

pub record SplitAt (u : Looked) (es : List Entry) (number : ℕ) (mark : Mark) : Type 0 where
  pub entry : Entry
  pub same : drop number es ≡ entry ∷ drop (suc number) es
  pub again : reread_in u mark ≡ Some entry

pub split_at : (u : Looked) (es : List Entry) (number : ℕ) (mark : Mark) (behind : List Mark) → AreAgain u es → drop number (map mark_of es) ≡ mark ∷ behind → SplitAt u es number mark
split_at u [] zero mark behind all h = absurd (cc)
split_at u (e ∷ es) zero mark behind all h = (let is : mark_of e ≡ mark = cc in record { entry = e; same = refl; again = subst (λ (m : Mark). reread_in u m ≡ Some e) is all.0 })
split_at u [] (suc n) mark behind all h = absurd (cc)
split_at u (e ∷ es) (suc n) mark behind all h = (let s = split_at u es n mark behind all.1 h in record { entry = s.entry; same = s.same; again = s.again })
