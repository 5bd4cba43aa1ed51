-- One turn of looking for bare names.
use Rattle.std.proofs.Common.{◌≡◌, ℕ, zero, suc, ◌+◌, ◌-◌, ◌≤◌, List, [], ◌∷◌, ◌++◌, length, Bool, true, false, refl, sym, ap, ◌∙◌, append_assoc, arith, if◌then◌else◌}
use Rattle.std.proofs.lemmas.List.{append-nil}
use Rattle.cond_expr.specs.declared.bare.BareName.{BareName}
use Rattle.cond_expr.specs.Token.{wants_behind}
use Rattle.cond_expr.specs.Lex.{is_blank, is_name_start, spot_at}
use Rattle.cond_expr.specs.Bare.{bare_at, bare_from, name_of, no_names, IsRow}

blank_turn : (end : ℕ) (wants : Bool) (n c : ℕ) (rest : List ℕ) → is_blank c ≡ true → bare_from end wants (suc n) (c ∷ rest) ≡ bare_from end wants n rest
unfolding bare_from
blank_turn end wants n c rest h = rw h refl

abbrev go_on : ℕ → ℕ → ℕ → List ℕ → Bool → List ℕ → List BareName
go_on end n c rest wants behind = bare_at c (name_of end c rest behind) ++ bare_from end wants n behind

token_turn : (end : ℕ) (wants : Bool) (n c : ℕ) (rest : List ℕ) → is_blank c ≡ false
    → bare_from end wants (suc n) (c ∷ rest) ≡ go_on end n c rest (wants_behind (spot_at no_names end wants c rest).0.token) (spot_at no_names end wants c rest).1
unfolding bare_from
token_turn end wants n c rest h = rw h refl

ended : (end : ℕ) (wants : Bool) (n : ℕ) → bare_from end wants n [] ≡ []
unfolding bare_from
ended end wants zero = refl
ended end wants (suc n) = refl

pub blank_goes_on : (end : ℕ) (wants : Bool) (n c : ℕ) (found total : List BareName) (bytes rest : List ℕ) → bytes ≡ c ∷ rest → length bytes ≤ n → is_blank c ≡ true
    → found ++ bare_from end wants n bytes ≡ total → found ++ bare_from end wants (n - 1) rest ≡ total
blank_goes_on end wants n c found total bytes rest e le h so_far =
    let k : n ≡ suc (n - 1) = omega (arith, ap length e) in
    ap (λ (l : List BareName). found ++ l)
    (sym (blank_turn end wants (n - 1) c rest h) ∙ ap (bare_from end wants (suc (n - 1))) (sym e) ∙ ap (λ (m : ℕ). bare_from end wants m bytes) (sym k))
    ∙ so_far

pub token_goes_on : (end : ℕ) (wants next_wants : Bool) (n c : ℕ) (found found' total : List BareName) (bytes rest behind : List ℕ) → bytes ≡ c ∷ rest → length bytes ≤ n → is_blank c ≡ false
    → next_wants ≡ wants_behind (spot_at no_names end wants c rest).0.token → behind ≡ (spot_at no_names end wants c rest).1
    → found' ≡ found ++ bare_at c (record { at = end - length bytes; length = length bytes - length behind }) → found ++ bare_from end wants n bytes ≡ total
    → found' ++ bare_from end next_wants (n - 1) behind ≡ total
token_goes_on end wants next_wants n c found found' total bytes rest behind e le h next seen pushed so_far =
    let k : n ≡ suc (n - 1) = omega (arith, ap length e) in
    let named : List ℕ → List BareName = λ (b : List ℕ). bare_at c (record { at = end - length b; length = length b - length behind }) in
    let one : bare_from end wants n bytes ≡ named bytes ++ bare_from end next_wants (n - 1) behind =
    ap (λ (m : ℕ). bare_from end wants m bytes) k ∙ ap (bare_from end wants (suc (n - 1))) e ∙ token_turn end wants (n - 1) c rest h
    ∙ ap (λ (w : Bool). go_on end (n - 1) c rest w (spot_at no_names end wants c rest).1) (sym next) ∙ ap (go_on end (n - 1) c rest next_wants) (sym seen)
    ∙ ap (λ (l : List BareName). l ++ bare_from end next_wants (n - 1) behind) (ap named (sym e)) in
    ap (λ (l : List BareName). l ++ bare_from end next_wants (n - 1) behind) pushed ∙ append_assoc found (named bytes) (bare_from end next_wants (n - 1) behind)
    ∙ ap (λ (l : List BareName). found ++ l) (sym one) ∙ so_far

pub all_read : (end : ℕ) (wants : Bool) (n : ℕ) (found total : List BareName) (bytes : List ℕ) → bytes ≡ [] → found ++ bare_from end wants n bytes ≡ total → found ≡ total
all_read end wants n found total bytes e so_far =
    sym (append-nil found) ∙ ap (λ (l : List BareName). found ++ l) (sym (ended end wants n) ∙ ap (bare_from end wants n) (sym e)) ∙ so_far

pub row_longer : (start mid end : ℕ) (names : List BareName) → mid ≤ end → IsRow start mid names → IsRow start end names
row_longer start mid end [] le h = omega arith
row_longer start mid end (name ∷ names) le h = (h.0, row_longer (name.at + name.length) mid end names le h.1)

row_appended : (start mid end : ℕ) (name : BareName) (names : List BareName) → mid ≤ name.at → name.at + name.length ≤ end → IsRow start mid names → IsRow start end (names ++ name ∷ [])
row_appended start mid end name [] le within h = (omega arith, within)
row_appended start mid end name (other ∷ names) le within h = (h.0, row_appended (other.at + other.length) mid end name names le within h.1)

bare_row : (b : Bool) (start mid end : ℕ) (name : BareName) (names : List BareName) → mid ≤ name.at → name.at + name.length ≤ end → mid ≤ end → IsRow start mid names
    → IsRow start end (names ++ (if b then name ∷ [] else []))
bare_row true start mid end name names le within more h = row_appended start mid end name names le within h
bare_row false start mid end name names le within more h = row_longer start mid end (names ++ []) more (rw (append-nil names) h)

pub row_goes_on : (start mid end first : ℕ) (name : BareName) (names : List BareName) → mid ≤ name.at → name.at + name.length ≤ end → mid ≤ end → IsRow start mid names
    → IsRow start end (names ++ bare_at first name)
row_goes_on start mid end first name names le within more h = bare_row (is_name_start first) start mid end name names le within more h
