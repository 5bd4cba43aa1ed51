-- The text that was made so far, and the names that are left.
use Rattle.std.proofs.Common.{◌≡◌, ℕ, ◌+◌, ◌-◌, ◌≤◌, List, [], ◌∷◌, ◌++◌, length, take, drop, Option, None, Some, Result, true, false, refl, sym, ap, ◌∙◌, subst, append_assoc, arith, length-append, length-drop}
use Rattle.std.proofs.lemmas.List.{length-take-le}
use Rattle.std.specs.Global.{Vec}
use Rattle.std.specs.Prelude.{◌||◌, not, if◌then◌else◌}
use Rattle.std.specs.List.{cons_option, list_any}
use Rattle.std.specs.Option.{option_map}
use Rattle.cond_expr.specs.declared.bare.BareName.{BareName}
use Rattle.cond_expr.specs.Bare.{IsRow}
use Rattle.cond_expr.specs.Term.{Term}
use Rattle.cond_expr.specs.declared.fault.ExprFault.{ExprFault}
use Rattle.var_expr.specs.declared.expanded.Expanded.{Expanded}
use Rattle.var_expr.specs.declared.expanded.Replaced.{Replaced}
use Rattle.var_expr.specs.Expanded.{Replacement, has_names, is_open, is_outside, names_in, places_from, replaced_from, replacement, replacements, with_text}
use Rattle.var_expr.specs.Parsed.{IsWithoutNames, parsed_by}
use Rattle.var_expr.specs.Places.{length_of, names_of, text_of}
use Rattle.var_expr.specs.Stands.{bytes_of}

pub record IsReplacing (standing : List ℕ → Option (List ℕ)) (given : List ℕ) (names rest : List BareName) (from : ℕ) (e : Expanded) : Type 0 where
  pub row : IsRow from (length given) rest
  pub text : text_of e ++ replaced_from given from (replacements standing given rest) ≡ replaced_from given 0 (replacements standing given names)
  pub places : names_of e ++ places_from from (length (text_of e)) (replacements standing given rest) ≡ places_from 0 0 (replacements standing given names)
  pub length : length_of e ≡ length given

pub row_within : (from end : ℕ) (names : List BareName) → IsRow from end names → from ≤ end
row_within from end [] h = h
row_within from end (n ∷ names) h = let behind = row_within (n.at + n.length) end names h.1 in let first = h.0 in omega arith

row_earlier : (from later end : ℕ) (names : List BareName) → from ≤ later → IsRow later end names → IsRow from end names
row_earlier from later end [] le h = omega arith
row_earlier from later end (n ∷ names) le h = (let first = h.0 in omega arith, h.1)

-- where no name stands outside of braces none is replaced
none_replaced : (standing : List ℕ → Option (List ℕ)) (given : List ℕ) (names : List BareName) → list_any (is_outside given) names ≡ false → replacements standing given names ≡ []
none_replaced standing given [] none = refl
none_replaced standing given (n ∷ names) none =
    elim (is_open (take n.at given)) as (λ b. (not b || list_any (is_outside given) names) ≡ false → cons_option (if b then None else option_map (with_text n) (standing (take n.length (drop n.at given)))) (replacements standing given names) ≡ []) [
      | true ↦ λ others. none_replaced standing given names others
      | false ↦ λ one. absurd (cc)
    ] none

pub without_names : (text : List ℕ) → has_names text ≡ false → IsWithoutNames text
without_names text none symbols some other =
    let read : List Replacement → Result Term ExprFault = λ rs. parsed_by symbols (length text) (places_from 0 0 rs) (replaced_from text 0 rs) in
    ap read (none_replaced some text (names_in text) none) ∙ sym (ap read (none_replaced other text (names_in text) none))

module _ (standing : List ℕ → Option (List ℕ)) (given : List ℕ) (names : List BareName) (n : BareName) (rest others : List BareName) (from : ℕ) (e : Expanded) where
  left_out : replacement standing given n ≡ None → replacements standing given (n ∷ others) ≡ replacements standing given others
  left_out h = rw h refl

  taken : (t : List ℕ) → replacement standing given n ≡ Some (with_text n t) → replacements standing given (n ∷ others) ≡ with_text n t ∷ replacements standing given others
  taken t h = rw h refl

  pub stays : rest ≡ n ∷ others → replacement standing given n ≡ None → IsReplacing standing given names rest from e → IsReplacing standing given names others from e
  stays is h r =
      let row : IsRow from (length given) (n ∷ others) = subst (IsRow from (length given)) is r.row in
      let left : replacements standing given rest ≡ replacements standing given others = ap (replacements standing given) is ∙ left_out h in
      record {
        row = row_earlier from (n.at + n.length) (length given) others (let first = row.0 in omega arith) row.1;
        text = ap (λ rs. text_of e ++ replaced_from given from rs) (sym left) ∙ r.text;
        places = ap (λ rs. names_of e ++ places_from from (length (text_of e)) rs) (sym left) ∙ r.places;
        length = r.length;
      }

  pub is_replaced : (t : List ℕ) (new : Expanded) → rest ≡ n ∷ others → replacement standing given n ≡ Some (with_text n t)
      → text_of new ≡ (text_of e ++ take (n.at - from) (drop from given)) ++ t
      → names_of new ≡ names_of e ++ record { at = n.at; length = n.length; new_at = length (text_of e) + (n.at - from); new_length = length t } ∷ []
      → length_of new ≡ length_of e → IsReplacing standing given names rest from e → IsReplacing standing given names others (n.at + n.length) new
  is_replaced t new is h text_is names_is length_is r =
      let row : IsRow from (length given) (n ∷ others) = subst (IsRow from (length given)) is r.row in
      let within : n.at + n.length ≤ length given = row_within (n.at + n.length) (length given) others row.1 in
      let left : replacements standing given rest ≡ with_text n t ∷ replacements standing given others = ap (replacements standing given) is ∙ taken t h in
      let rs : List Replacement = replacements standing given others in
      let gap : List ℕ = take (n.at - from) (drop from given) in
      let gap_length : length gap ≡ n.at - from = length-take-le (n.at - from) (drop from given) (let first = row.0 in omega (arith, length-drop from given)) in
      let new_length : length (text_of new) ≡ length (text_of e) + (n.at - from) + length t =
      ap length text_is ∙ omega (arith, length-append (text_of e ++ gap) t, length-append (text_of e) gap, gap_length) in
      record {
        row = row.1;
        text =
            ap (λ (x : List ℕ). x ++ replaced_from given (n.at + n.length) rs) text_is ∙ (simp append_assoc)
            ∙ ap (λ rs. text_of e ++ replaced_from given from rs) (sym left) ∙ r.text;
        places =
            ap (λ (x : ℕ). names_of new ++ places_from (n.at + n.length) x rs) new_length
            ∙ ap (λ (x : List Replaced). x ++ places_from (n.at + n.length) (length (text_of e) + (n.at - from) + length t) rs) names_is ∙ (simp append_assoc)
            ∙ ap (λ rs. names_of e ++ places_from from (length (text_of e)) rs) (sym left) ∙ r.places;
        length = length_is ∙ r.length;
      }

pub left_open : (standing : List ℕ → Option (List ℕ)) (given : List ℕ) (n : BareName) → true ≡ is_open (take n.at given) → replacement standing given n ≡ None
left_open standing given n h = rw (sym h) refl

pub left_none : (standing : List ℕ → Option (List ℕ)) (given name : List ℕ) (n : BareName) (o : Option (Vec ℕ)) → false ≡ is_open (take n.at given) → name ≡ take n.length (drop n.at given)
    → option_map bytes_of o ≡ standing name → o ≡ None → replacement standing given n ≡ None
left_none standing given name n o h is stands none =
    let here : standing name ≡ None = sym stands ∙ ap (λ (x : Option (Vec ℕ)). option_map bytes_of x) none in
    rw (sym h, sym is, here) refl

pub found_text : (standing : List ℕ → Option (List ℕ)) (given name t : List ℕ) (n : BareName) (o : Option (Vec ℕ)) (v : Vec ℕ) → false ≡ is_open (take n.at given) → name ≡ take n.length (drop n.at given)
    → option_map bytes_of o ≡ standing name → o ≡ Some v → t ≡ v.items → replacement standing given n ≡ Some (with_text n t)
found_text standing given name t n o v h is stands some same =
    let here : standing name ≡ Some t = sym stands ∙ ap (λ (x : Option (Vec ℕ)). option_map bytes_of x) some ∙ ap (λ (x : List ℕ). Some x) (sym same) in
    rw (sym h, sym is, here) refl

pub next_row : (standing : List ℕ → Option (List ℕ)) (given : List ℕ) (names : List BareName) (n : BareName) (rest others : List BareName) (from : ℕ) (e : Expanded) → rest ≡ n ∷ others
    → IsReplacing standing given names rest from e → (from ≤ n.at) × (n.at + n.length ≤ length given)
next_row standing given names n rest others from e is r =
    let row : IsRow from (length given) (n ∷ others) = subst (IsRow from (length given)) is r.row in
    (row.0, row_within (n.at + n.length) (length given) others row.1)
