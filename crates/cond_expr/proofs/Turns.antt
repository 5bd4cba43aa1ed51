-- One turn of reading tokens, and the end of a number.
use Rattle.std.proofs.Common.{◌≡◌, ℕ, zero, suc, ◌+◌, ◌-◌, ◌*◌, ◌^◌, ◌<◌, ◌≤◌, min, ⊎_elim, mul_comm, mul-le-mul_right, List, [], ◌∷◌, ◌++◌, length, Bool, true, false, refl, sym, ap, ◌∙◌, append_assoc, arith}
use Rattle.std.proofs.lemmas.List.{append-nil}
use Rattle.std.proofs.lemmas.List.Sums.{take_while-cons}
use Rattle.std.proofs.lemmas.Bool.{lt-ltb, le-ltb, ltb-true, cases_lt}
use Rattle.elf_symbols.specs.Names.{Names}
use Rattle.cond_expr.specs.declared.token.Spot.{Spot}
use Rattle.cond_expr.specs.declared.token.Token.TheVariants.{Leaf, Large}
use Rattle.cond_expr.specs.declared.token.Leaf.TheVariants.{Number}
use Rattle.cond_expr.specs.Token.{wants_behind}
use Rattle.cond_expr.specs.Lex.{is_blank, is_digit_of, digit_value, number_token, number_behind, spot_at, tokens_from}

blank_turn : (names : Names) (end : ℕ) (wants : Bool) (n c : ℕ) (rest : List ℕ) → is_blank c ≡ true → tokens_from names end wants (suc n) (c ∷ rest) ≡ tokens_from names end wants n rest
unfolding tokens_from
blank_turn names end wants n c rest h = rw h refl

abbrev go_on : Names → ℕ → ℕ → Spot × List ℕ → List Spot
go_on names end n p = p.0 ∷ tokens_from names end (wants_behind p.0.token) n p.1

token_turn : (names : Names) (end : ℕ) (wants : Bool) (n c : ℕ) (rest : List ℕ) → is_blank c ≡ false → tokens_from names end wants (suc n) (c ∷ rest) ≡ go_on names end n (spot_at names end wants c rest)
unfolding tokens_from
token_turn names end wants n c rest h = rw h refl

ended : (names : Names) (end : ℕ) (wants : Bool) (n : ℕ) → tokens_from names end wants n [] ≡ []
unfolding tokens_from
ended names end wants zero = refl
ended names end wants (suc n) = refl

pub blank_goes_on : (names : Names) (end : ℕ) (wants : Bool) (n c : ℕ) (found total : List Spot) (bytes rest : List ℕ) → bytes ≡ c ∷ rest → length bytes ≤ n → is_blank c ≡ true
    → found ++ tokens_from names end wants n bytes ≡ total → found ++ tokens_from names end wants (n - 1) rest ≡ total
blank_goes_on names end wants n c found total bytes rest e le h so_far =
    let k : n ≡ suc (n - 1) = omega (arith, ap length e) in
    ap (λ (l : List Spot). found ++ l)
    (sym (blank_turn names end wants (n - 1) c rest h) ∙ ap (tokens_from names end wants (suc (n - 1))) (sym e) ∙ ap (λ (m : ℕ). tokens_from names end wants m bytes) (sym k))
    ∙ so_far

pub token_goes_on : (names : Names) (end : ℕ) (wants wants' : Bool) (n c : ℕ) (s : Spot) (found found' total : List Spot) (bytes rest after : List ℕ) → bytes ≡ c ∷ rest → length bytes ≤ n → is_blank c ≡ false
    → spot_at names end wants c rest ≡ (s, after) → wants' ≡ wants_behind s.token → found' ≡ found ++ s ∷ [] → found ++ tokens_from names end wants n bytes ≡ total
    → found' ++ tokens_from names end wants' (n - 1) after ≡ total
token_goes_on names end wants wants' n c s found found' total bytes rest after e le h seen next pushed so_far =
    let k : n ≡ suc (n - 1) = omega (arith, ap length e) in
    let one : tokens_from names end wants n bytes ≡ s ∷ tokens_from names end wants' (n - 1) after =
    ap (λ (m : ℕ). tokens_from names end wants m bytes) k ∙ ap (tokens_from names end wants (suc (n - 1))) e ∙ token_turn names end wants (n - 1) c rest h
    ∙ ap (go_on names end (n - 1)) seen ∙ ap (λ (w : Bool). s ∷ tokens_from names end w (n - 1) after) (sym next) in
    ap (λ (l : List Spot). l ++ tokens_from names end wants' (n - 1) after) pushed ∙ append_assoc found (s ∷ []) (tokens_from names end wants' (n - 1) after)
    ∙ ap (λ (l : List Spot). found ++ l) (sym one) ∙ so_far

pub all_read : (names : Names) (end : ℕ) (wants : Bool) (n : ℕ) (found total : List Spot) (bytes : List ℕ) → bytes ≡ [] → found ++ tokens_from names end wants n bytes ≡ total → found ≡ total
all_read names end wants n found total bytes e so_far =
    sym (append-nil found) ∙ ap (λ (l : List Spot). found ++ l) (sym (ended names end wants n) ∙ ap (tokens_from names end wants n) (sym e)) ∙ so_far

-- a value that is the number up to 2 ^ 32, and stays there
abbrev pub IsKeptOf : ℕ → ℕ → Type 0
IsKeptOf n value = value ≡ min n (2 ^ 32)

-- one more digit, where f is the base and g what the digit counts
pub kept_on : (base b n value next f g : ℕ) → is_digit_of base b ≡ true → IsKeptOf n value → next ≡ min (f * value + g) (2 ^ 32) → f ≡ base → g ≡ digit_value b
    → IsKeptOf (n * base + digit_value b) next
kept_on base b n value next f g is h e p q =
    let some : digit_value b < base = ltb-true (digit_value b) base is in
    ⊎_elim
    (λ (small : n < 2 ^ 32).
    let v : value ≡ n = omega (arith, h) in
    omega (arith, e, q, ap (λ (x : ℕ). f * x) v, ap (λ (x : ℕ). x * n) p, mul_comm base n))
    (λ (large : 2 ^ 32 ≤ n).
    let v : value ≡ 2 ^ 32 = omega (arith, h) in
    let k : 1 * n ≤ base * n = mul-le-mul_right n (omega (arith, some)) in
    omega (arith, e, p, ap (λ (x : ℕ). f * x) v, k, mul_comm base n, some))
    (cases_lt n (2 ^ 32))

-- a digit more of a number
pub digit_goes_on : (base b n : ℕ) (bytes rest : List ℕ) → bytes ≡ b ∷ rest → is_digit_of base b ≡ true
    → number_behind base n bytes ≡ number_behind base (n * base + digit_value b) rest
unfolding number_behind
digit_goes_on base b n bytes rest e h = rw e (rw (take_while-cons (is_digit_of base) b rest, h) refl)

number_ends : (base n : ℕ) (rest : List ℕ) → ((b : ℕ) (r : List ℕ) → rest ≡ b ∷ r → is_digit_of base b ≡ false) → number_behind base n rest ≡ (number_token n, rest)
unfolding number_behind
number_ends base n [] h = refl
number_ends base n (b ∷ r) h = rw (take_while-cons (is_digit_of base) b r, h b r refl) refl

pub small_number : (base : ℕ) (bytes rest : List ℕ) (so_far n value k : ℕ) → number_behind base n rest ≡ number_behind base so_far bytes
    → ((b : ℕ) (r : List ℕ) → rest ≡ b ∷ r → is_digit_of base b ≡ false) → IsKeptOf n value → value < 2 ^ 32 → k ≡ value → number_behind base so_far bytes ≡ (Leaf (Number k), rest)
small_number base bytes rest so_far n value k e h kept lt same =
    let exact : k ≡ n = omega (arith, kept, same) in
    let small : n < 2 ^ 32 = omega (arith, kept) in
    sym e ∙ number_ends base n rest h ∙ rw (lt-ltb n (2 ^ 32) small, exact) refl

pub large_number : (base : ℕ) (bytes rest : List ℕ) (so_far n value : ℕ) → number_behind base n rest ≡ number_behind base so_far bytes
    → ((b : ℕ) (r : List ℕ) → rest ≡ b ∷ r → is_digit_of base b ≡ false) → IsKeptOf n value → 2 ^ 32 ≤ value → number_behind base so_far bytes ≡ (Large, rest)
large_number base bytes rest so_far n value e h kept le =
    let large : 2 ^ 32 ≤ n = omega (arith, kept) in
    sym e ∙ number_ends base n rest h ∙ rw (le-ltb n (2 ^ 32) large) refl
