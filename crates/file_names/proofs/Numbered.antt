-- The numbers of names by their homes.
use Rattle.std.proofs.Common.{◌≡◌, ℕ, zero, suc, ◌+◌, ◌-◌, ◌≤◌, ◌<◌, Bool, true, false, List, [], ◌∷◌, ◌++◌, Option, None, Some, length, map, take, replicate, refl, arith, inl, inr, ◌∙◌, ap, sym, subst, get_or}
use Rattle.std.specs.Prelude.{slice_set, slice_range}
use Rattle.std.specs.Str.{bytes_eq}
use Rattle.std.specs.Cmp.Lexicographic.{bytes_decides, nat_list_eq_equiv}
use Rattle.std.proofs.lemmas.Grind.{same_number_lists}
use Rattle.std.proofs.lemmas.List.{get_or-map, get_or-set_same, get_or_append_left, get_or_push, length-map, length-set, length_push, map_more, take_all}
use Rattle.std.proofs.lemmas.List.Sums.{fold-append}
use Rattle.line_rows.specs.RowList.{NameList}
use Rattle.file_names.specs.Homes.{AreHomes, size_at}
use Rattle.file_names.specs.Numbers.{Numbers, distinct, names_at, number_of, with_name}
use Rattle.leb_read.specs.Leb.{text_from}
use Rattle.file_names.proofs.Known.{get_set_other, known_name, known_push, new_name, new_push, other_push, place_of}
use Rattle.file_names.proofs.Texts.{text_range}

-- what is there when so many names have their numbers
pub record AreNumbered (texts places homes : List ℕ) (known : List (Option ℕ)) (names : NameList) (numbers : List ℕ) (done : ℕ) : Type 0 where
  pub texts_are : names.texts ≡ texts
  pub slots : length known ≡ length texts + 1
  pub once : names.names ≡ distinct (names_at texts (take done places))
  pub known_are : (p : ℕ) → p ≤ length texts → get_or known (get_or homes p 0) None ≡ place_of names.names (text_from texts p)
  pub count : length numbers ≡ done
  pub each : (k : ℕ) → k < done → place_of names.names (text_from texts (get_or places k 0)) ≡ Some (get_or numbers k 0)

-- one name more among those that are there once
once_more : (texts places : List ℕ) (done : ℕ) (names : List (List ℕ)) → done < length places → names ≡ distinct (names_at texts (take done places))
    → distinct (names_at texts (take (done + 1) places)) ≡ with_name names (text_from texts (get_or places done 0))
once_more texts places done names below e =
    ap distinct (map_more (text_from texts) places done 0 below)
    ∙ fold-append with_name [] (names_at texts (take done places)) (text_from texts (get_or places done 0) ∷ [])
    ∙ ap (λ (l : List (List ℕ)). with_name l (text_from texts (get_or places done 0))) (sym e)

-- the numbers so far, and one more
numbers_more : (texts places : List ℕ) (names after : List (List ℕ)) (numbers : List ℕ) (done n : ℕ) → length numbers ≡ done
    → ((k : ℕ) → k < done → place_of after (text_from texts (get_or places k 0)) ≡ Some (get_or numbers k 0)) → place_of after (text_from texts (get_or places done 0)) ≡ Some n
    → (k : ℕ) → k < done + 1 → place_of after (text_from texts (get_or places k 0)) ≡ Some (get_or (numbers ++ n ∷ []) k 0)
numbers_more texts places names after numbers done n size each here k below = pick (done - k) refl
  where
    pick : (d : ℕ) → done - k ≡ d → place_of after (text_from texts (get_or places k 0)) ≡ Some (get_or (numbers ++ n ∷ []) k 0)
    pick zero e =
        let same : k ≡ done = omega (arith, e, below) in
        ap (λ (i : ℕ). place_of after (text_from texts (get_or places i 0))) same ∙ here ∙ ap (λ (i : ℕ). Some i) (sym (get_or_push numbers n 0 k (omega (arith, size, same))))
    pick (suc d) e = each k (omega (arith, e)) ∙ ap (λ (i : ℕ). Some i) (sym (get_or_append_left numbers (n ∷ []) 0 k (omega (arith, e, size))))

-- the numbers of homes when a new one has the next number
set_known : (texts homes : List ℕ) (known : List (Option ℕ)) (names : List (List ℕ)) (place : ℕ) → AreHomes texts homes → length known ≡ length texts + 1 → place ≤ length texts
    → ((p : ℕ) → p ≤ length texts → get_or known (get_or homes p 0) None ≡ place_of names (text_from texts p)) → place_of names (text_from texts place) ≡ None
    → (p : ℕ) → p ≤ length texts → (b : Bool) → bytes_eq (text_from texts place) (text_from texts p) ≡ b
    → get_or (slice_set known (get_or homes place 0) (Some (length names))) (get_or homes p 0) None ≡ place_of (names ++ text_from texts place ∷ []) (text_from texts p)
set_known texts homes known names place are slots within known_are absent p low true e =
    let name = text_from texts place in
    let text : name ≡ text_from texts p = (bytes_decides name (text_from texts p)).0 e in
    let home : get_or homes p 0 ≡ get_or homes place 0 = are.one p place low within (sym text) in
    let below : get_or homes place 0 < length known = omega (arith, slots, (are.same place within).0) in
    ap (λ (h : ℕ). get_or (slice_set known (get_or homes place 0) (Some (length names))) h None) home
    ∙ get_or-set_same known (get_or homes place 0) (Some (length names)) None below
    ∙ sym (new_push names name absent)
    ∙ ap (λ (l : List ℕ). place_of (names ++ name ∷ []) l) text
set_known texts homes known names place are slots within known_are absent p low false e =
    let name = text_from texts place in
    let apart : get_or homes p 0 ≡ get_or homes place 0 → ⊥ = λ same.
    let text : name ≡ text_from texts p = sym (are.same place within).1 ∙ ap (text_from texts) (sym same) ∙ (are.same p low).1 in
    let yes : bytes_eq name (text_from texts p) ≡ true = (bytes_decides name (text_from texts p)).1 text in
    absurd (cc) in
    get_set_other known (get_or homes place 0) (get_or homes p 0) (Some (length names)) None apart
    ∙ known_are p low
    ∙ sym (other_push names (text_from texts p) name (nat_list_eq_equiv.symm (text_from texts p) name ∙ e))

pub number_more : (texts places homes : List ℕ) (known after : List (Option ℕ)) (before names : NameList) (numbers more : List ℕ) (done place home past n : ℕ)
    → AreHomes texts homes → AreNumbered texts places homes known before numbers done → done < length places → place ≡ get_or places done 0 → place ≤ length texts → home ≡ get_or homes place 0
    → past ≡ place + size_at texts place → Numbers known after before names home (slice_range before.texts place past) n → more ≡ numbers ++ n ∷ []
    → AreNumbered texts places homes after names more (done + 1)
number_more texts places homes known after before names numbers more done place home past n are h below is low home_is past_is step pushed = pick step
  where
    name_is : slice_range before.texts place past ≡ text_from texts place
    name_is = ap (λ (l : List ℕ). slice_range l place past) h.texts_are ∙ text_range texts place past past_is

    at : text_from texts (get_or places done 0) ≡ text_from texts place
    at = ap (text_from texts) (sym is)

    pick : Numbers known after before names home (slice_range before.texts place past) n → AreNumbered texts places homes after names more (done + 1)
    pick (inl old) =
        let here : place_of before.names (text_from texts place) ≡ Some n = sym (h.known_are place low) ∙ ap (λ (i : ℕ). get_or known i None) (sym home_is) ∙ old.0 in
        let there : place_of before.names (text_from texts (get_or places done 0)) ≡ Some n = ap (place_of before.names) at ∙ here in
        let known_one = known_name before.names (text_from texts (get_or places done 0)) n there in
        let now : AreNumbered texts places homes known before (numbers ++ n ∷ []) (done + 1) =
        record {
          texts_are = h.texts_are;
          slots = h.slots;
          once = sym known_one.1 ∙ sym (once_more texts places done before.names below h.once);
          known_are = h.known_are;
          count = omega (arith, h.count, length_push numbers n);
          each = numbers_more texts places before.names before.names numbers done n h.count h.each there;
        } in
        subst (λ (l : List ℕ). AreNumbered texts places homes after names l (done + 1)) (sym pushed)
        (subst (λ (l : NameList). AreNumbered texts places homes after l (numbers ++ n ∷ []) (done + 1)) (sym old.2)
        (subst (λ (l : List (Option ℕ)). AreNumbered texts places homes l before (numbers ++ n ∷ []) (done + 1)) (sym old.1) now))
    pick (inr new) =
        let name = text_from texts place in
        let absent : place_of before.names name ≡ None = sym (h.known_are place low) ∙ ap (λ (i : ℕ). get_or known i None) (sym home_is) ∙ new.0 in
        let count : n ≡ length before.names = new.1 in
        let made = new_name before.names name absent in
        let here : place_of (before.names ++ name ∷ []) (text_from texts (get_or places done 0)) ≡ Some n = ap (place_of (before.names ++ name ∷ [])) at ∙ new_push before.names name absent ∙ ap (λ (i : ℕ). Some i) (sym count) in
        let known_now : after ≡ slice_set known (get_or homes place 0) (Some (length before.names)) = new.2 ∙ ap (λ (i : ℕ). slice_set known home (Some i)) count ∙ ap (λ (i : ℕ). slice_set known i (Some (length before.names))) home_is in
        let names_now : names ≡ record before { names = before.names ++ name ∷ [] } = new.3 ∙ ap (λ (l : List ℕ). record before { names = before.names ++ l ∷ [] }) name_is in
        let now : AreNumbered texts places homes (slice_set known (get_or homes place 0) (Some (length before.names))) (record before { names = before.names ++ name ∷ [] }) (numbers ++ n ∷ []) (done + 1) =
        record {
          texts_are = h.texts_are;
          slots = length-set known (get_or homes place 0) (Some (length before.names)) ∙ h.slots;
          once = sym made.1 ∙ ap (with_name before.names) (sym at) ∙ sym (once_more texts places done before.names below h.once);
          known_are = λ p within. set_known texts homes known before.names place are h.slots low h.known_are absent p within (bytes_eq name (text_from texts p)) refl;
          count = omega (arith, h.count, length_push numbers n);
          each = numbers_more texts places before.names (before.names ++ name ∷ []) numbers done n h.count (λ k lower. known_push before.names (text_from texts (get_or places k 0)) name (get_or numbers k 0) (h.each k lower)) here;
        } in
        subst (λ (l : List ℕ). AreNumbered texts places homes after names l (done + 1)) (sym pushed)
        (subst (λ (l : NameList). AreNumbered texts places homes after l (numbers ++ n ∷ []) (done + 1)) (sym names_now)
        (subst (λ (l : List (Option ℕ)). AreNumbered texts places homes l (record before { names = before.names ++ name ∷ [] }) (numbers ++ n ∷ []) (done + 1)) (sym known_now) now))

-- when all have their numbers
pub once_all : (texts places homes : List ℕ) (known : List (Option ℕ)) (names : NameList) (numbers : List ℕ) (done : ℕ) → length places ≤ done
    → AreNumbered texts places homes known names numbers done → names.names ≡ distinct (names_at texts places)
once_all texts places homes known names numbers done most h = h.once ∙ ap (λ (l : List ℕ). distinct (names_at texts l)) (take_all done places most)

pub numbers_all : (texts places homes : List ℕ) (known : List (Option ℕ)) (names : NameList) (numbers : List ℕ) (done : ℕ) → length places ≤ done → done ≤ length places → AreNumbered texts places homes known names numbers done
    → numbers ≡ map (number_of (distinct (names_at texts places))) (names_at texts places)
numbers_all texts places homes known names numbers done most least h =
    same_number_lists numbers (map (number_of names.names) (names_at texts places)) (omega (arith, h.count, most, least, size, size_of))
    (λ k below.
    let low : k < length places = omega (arith, below, h.count, least) in
    (known_name names.names (text_from texts (get_or places k 0)) (get_or numbers k 0) (h.each k (omega (arith, below, h.count)))).0
    ∙ sym (get_or-map (number_of names.names) (names_at texts places) k [] 0 (omega (arith, low, size)) ∙ ap (number_of names.names) (get_or-map (text_from texts) places k 0 [] low)))
    ∙ ap (λ (l : List (List ℕ)). map (number_of l) (names_at texts places)) (once_all texts places homes known names numbers done most h)
  where
    size : length (names_at texts places) ≡ length places
    size = length-map places (text_from texts)

    size_of : length (map (number_of names.names) (names_at texts places)) ≡ length (names_at texts places)
    size_of = length-map (names_at texts places) (number_of names.names)

-- before the first
pub none_numbered : (texts places homes : List ℕ) (known : List (Option ℕ)) (names : NameList) → length known ≡ length texts + 1 → ((i : ℕ) → get_or known i None ≡ None) → names ≡ record { texts = texts; names = [] }
    → AreNumbered texts places homes known names [] 0
none_numbered texts places homes known names slots none e =
    subst (λ (l : NameList). AreNumbered texts places homes known l [] 0) (sym e)
    (record {
      texts_are = refl;
      slots = slots;
      once = refl;
      known_are = λ p within. none (get_or homes p 0);
      count = refl;
      each = λ k below. absurd (omega (arith, below));
    })

pub replicate_none : (n i : ℕ) (o : Option ℕ) → o ≡ None → get_or (replicate n o) i None ≡ None
replicate_none zero i o e = refl
replicate_none (suc n) zero o e = e
replicate_none (suc n) (suc i) o e = replicate_none n i o e
