-- The entries of a function and of its blocks that cover pc: one entry more.
use Rattle.debug_info.proofs.Words.{◌≡◌, ◌<◌, ◌≤◌, ◌+◌, ◌++◌, ℕ, suc, Bool, true, false, List, [], ◌∷◌, filter, take, drop, get_or, length, add-one, subst, cond, Option, None, Some, refl, arith, sym, ◌∙◌, ap, append-nil, append_assoc}
use Rattle.debug_info.proofs.Words.{prefix_len, and-false, drop-cons, drop_all, nat_lt, not, ◌&&◌, if◌then◌else◌, nat_tests, inner, is_entered, is_open, is_own, own_among, is_below, shut_by, Entry}

-- of the entries before, the nearest first, the code knows which levels are open
abbrev pub Knows : ℕ → List Entry → Option ℕ → Type 0
Knows pc before shut = (level : ℕ) → is_open pc before level ≡ not (is_below shut level)

-- what was found, and what is found behind
pub record Opened (pc function : ℕ) (whole found : List Entry) (shut : Option ℕ) (left : List Entry) : Type 0 where
  pub before : List Entry
  pub knows : Knows pc before shut
  pub same : whole ≡ found ++ own_among pc before (inner function left)

pub opened_start : (pc function : ℕ) (behind : List Entry) → Opened pc function (own_among pc [] (inner function behind)) [] None behind
opened_start pc function behind = record { before = []; knows = λ level. refl; same = refl }

-- at the end, or at an entry that isn't the function's
pub opened_over : (pc function : ℕ) (whole found : List Entry) (shut : Option ℕ) (e : Entry) (es : List Entry) → e.level ≤ function → Opened pc function whole found shut (e ∷ es) → found ≡ whole
opened_over pc function whole found shut e es past o =
    let test : nat_lt function e.level ≡ false = grind (arith, nat_tests) in
    sym (o.same ∙ ap (λ (b : Bool). found ++ own_among pc o.before (take (cond b (1 + prefix_len (λ (x : Entry). nat_lt function x.level) es) 0) (e ∷ es))) test ∙ append-nil found)

pub opened_end : (pc function : ℕ) (whole found : List Entry) (shut : Option ℕ) → Opened pc function whole found shut [] → found ≡ whole
opened_end pc function whole found shut o = sym (o.same ∙ append-nil found)

hidden_level : (o : ℕ → Bool) (shut here level : ℕ) (entered : Bool) → nat_lt shut here ≡ true → o here ≡ not (nat_lt shut here) → o level ≡ not (nat_lt shut level)
    → (if nat_lt here level then entered && o here else o level) ≡ not (nat_lt shut level)
hidden_level o shut here level entered below known is =
    elim (nat_lt here level) as (λ b. nat_lt here level ≡ b → (if b then entered && o here else o level) ≡ not (nat_lt shut level)) [
      | true ↦ λ e. (
          let closed : o here ≡ false = known ∙ ap not below in
          let far : nat_lt shut level ≡ true = grind (arith, nat_tests) in
          ap (λ (b : Bool). entered && b) closed ∙ and-false entered ∙ sym (ap not far))
      | false ↦ λ e. is
    ] refl

above : (shut : Option ℕ) (here level : ℕ) → is_below shut here ≡ false → nat_lt here level ≡ false → is_below shut level ≡ false
above None here level far e = refl
above (Some shut) here level far e = grind (arith, nat_tests)

entered_level : (entered : Bool) (here level : ℕ) → nat_lt here level ≡ true → (entered && true) ≡ not (is_below (if entered then None else Some here) level)
entered_level true here level e = refl
entered_level false here level e = sym (ap not e)

level_not_below : (entered : Bool) (here level : ℕ) → nat_lt here level ≡ false → true ≡ not (is_below (if entered then None else Some here) level)
level_not_below true here level e = refl
level_not_below false here level e = sym (ap not e)

seen_level : (o : ℕ → Bool) (shut : Option ℕ) (here level : ℕ) (entered : Bool) → is_below shut here ≡ false → o here ≡ not (is_below shut here) → o level ≡ not (is_below shut level)
    → (if nat_lt here level then entered && o here else o level) ≡ not (is_below (if entered then None else Some here) level)
seen_level o shut here level entered far known is =
    elim (nat_lt here level) as (λ b. nat_lt here level ≡ b → (if b then entered && o here else o level) ≡ not (is_below (if entered then None else Some here) level)) [
      | true ↦ λ e. (let open_here : o here ≡ true = known ∙ ap not far in ap (λ (b : Bool). entered && b) open_here ∙ entered_level entered here level e)
      | false ↦ λ e. (is ∙ ap not (above shut here level far e) ∙ level_not_below entered here level e)
    ] refl

hidden_knows : (pc : ℕ) (before : List Entry) (e : Entry) (shut : Option ℕ) → is_below shut e.level ≡ true → Knows pc before shut → Knows pc (e ∷ before) shut
hidden_knows pc before e None below known level = absurd (cc)
hidden_knows pc before e (Some shut) below known level = hidden_level (is_open pc before) shut e.level level (is_entered pc e) below (known e.level) (known level)

among_step : (pc : ℕ) (found before : List Entry) (e : Entry) (es : List Entry) (b : Bool) → is_open pc before e.level ≡ b
    → found ++ own_among pc before (e ∷ es) ≡ (found ++ filter (λ x. b && is_own pc x) (e ∷ [])) ++ own_among pc (e ∷ before) es
among_step pc found before e es b is =
    ap (λ (t : Bool). found ++ (filter (λ x. t && is_own pc x) (e ∷ []) ++ own_among pc (e ∷ before) es)) is
    ∙ sym (append_assoc found (filter (λ x. b && is_own pc x) (e ∷ [])) (own_among pc (e ∷ before) es))

inner_step : (function : ℕ) (e : Entry) (es : List Entry) → function < e.level → inner function (e ∷ es) ≡ e ∷ inner function es
inner_step function e es h = let test : nat_lt function e.level ≡ true = grind (arith, nat_tests) in ap (λ (b : Bool). take (cond b (1 + prefix_len (λ (x : Entry). nat_lt function x.level) es) 0) (e ∷ es)) test
    ∙ ap (λ (n : ℕ). take n (e ∷ es)) (let one : 1 + prefix_len (λ (x : Entry). nat_lt function x.level) es ≡ suc (prefix_len (λ (x : Entry). nat_lt function x.level) es) = omega arith in one)

-- an entry in one that isn't entered
pub opened_hidden : (pc function : ℕ) (whole found : List Entry) (shut : Option ℕ) (e : Entry) (es : List Entry) → function < e.level → is_below shut e.level ≡ true
    → Opened pc function whole found shut (e ∷ es) → Opened pc function whole found shut es
opened_hidden pc function whole found shut e es h below o =
    let closed : is_open pc o.before e.level ≡ false = o.knows e.level ∙ ap not below in
    record {
      before = e ∷ o.before;
      knows = hidden_knows pc o.before e shut below o.knows;
      same = o.same
          ∙ ap (λ (xs : List Entry). found ++ own_among pc o.before xs) (inner_step function e es h)
          ∙ among_step pc found o.before e (inner function es) false closed
          ∙ ap (λ (xs : List Entry). xs ++ own_among pc (e ∷ o.before) (inner function es)) (append-nil found);
    }

-- an entry of the function, or of a block that is entered
pub opened_seen : (pc function : ℕ) (whole found pushed : List Entry) (shut : Option ℕ) (e : Entry) (es : List Entry) → function < e.level → is_below shut e.level ≡ false
    → pushed ≡ found ++ filter (is_own pc) (e ∷ []) → Opened pc function whole found shut (e ∷ es) → Opened pc function whole pushed (shut_by pc e) es
opened_seen pc function whole found pushed shut e es h far push o =
    let opened : is_open pc o.before e.level ≡ true = o.knows e.level ∙ ap not far in
    record {
      before = e ∷ o.before;
      knows = λ level. seen_level (is_open pc o.before) shut e.level level (is_entered pc e) far (o.knows e.level) (o.knows level);
      same = o.same
          ∙ ap (λ (xs : List Entry). found ++ own_among pc o.before xs) (inner_step function e es h)
          ∙ among_step pc found o.before e (inner function es) true opened
          ∙ ap (λ (xs : List Entry). xs ++ own_among pc (e ∷ o.before) (inner function es)) (sym push);
    }

at_entry : (pc function : ℕ) (whole found : List Entry) (shut : Option ℕ) (behind : List Entry) (k : ℕ) (d : Entry) → k < length behind
    → Opened pc function whole found shut (drop k behind) → Opened pc function whole found shut (get_or behind k d ∷ drop (suc k) behind)
at_entry pc function whole found shut behind k d h o = subst (λ (es : List Entry). Opened pc function whole found shut es) (drop-cons behind k d h) o

further : (pc function : ℕ) (whole found : List Entry) (shut : Option ℕ) (behind : List Entry) (k : ℕ) → Opened pc function whole found shut (drop (suc k) behind) → Opened pc function whole found shut (drop (k + 1) behind)
further pc function whole found shut behind k o = rw add-one o

pub hidden_at : (pc function : ℕ) (whole found : List Entry) (shut : Option ℕ) (behind : List Entry) (k : ℕ) (d : Entry) → k < length behind → function < (get_or behind k d).level → is_below shut (get_or behind k d).level ≡ true
    → Opened pc function whole found shut (drop k behind) → Opened pc function whole found shut (drop (k + 1) behind)
hidden_at pc function whole found shut behind k d h deep below o =
    further pc function whole found shut behind k (opened_hidden pc function whole found shut (get_or behind k d) (drop (suc k) behind) deep below (at_entry pc function whole found shut behind k d h o))

pub seen_at : (pc function : ℕ) (whole found pushed : List Entry) (shut : Option ℕ) (behind : List Entry) (k : ℕ) (d : Entry) → k < length behind → function < (get_or behind k d).level → is_below shut (get_or behind k d).level ≡ false
    → pushed ≡ found ++ filter (is_own pc) (get_or behind k d ∷ []) → Opened pc function whole found shut (drop k behind) → Opened pc function whole pushed (shut_by pc (get_or behind k d)) (drop (k + 1) behind)
seen_at pc function whole found pushed shut behind k d h deep far push o =
    further pc function whole pushed (shut_by pc (get_or behind k d)) behind k (opened_seen pc function whole found pushed shut (get_or behind k d) (drop (suc k) behind) deep far push (at_entry pc function whole found shut behind k d h o))

pub over_at : (pc function : ℕ) (whole found : List Entry) (shut : Option ℕ) (behind : List Entry) (k : ℕ) (d : Entry) → k < length behind → (get_or behind k d).level ≤ function
    → Opened pc function whole found shut (drop k behind) → found ≡ whole
over_at pc function whole found shut behind k d h past o = opened_over pc function whole found shut (get_or behind k d) (drop (suc k) behind) past (at_entry pc function whole found shut behind k d h o)

pub ended : (pc function : ℕ) (whole found : List Entry) (shut : Option ℕ) (behind : List Entry) (k : ℕ) → length behind ≤ k → Opened pc function whole found shut (drop k behind) → found ≡ whole
ended pc function whole found shut behind k h o = opened_end pc function whole found shut (subst (λ (es : List Entry). Opened pc function whole found shut es) (drop_all k behind h) o)
