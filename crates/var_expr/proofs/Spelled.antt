-- Each text that stands for a variable spells an expression, whatever symbols there are.
use Rattle.std.proofs.Common.{◌≡◌, ◌<◌, ◌-◌, ◌^◌, ◌++◌, ℕ, suc, true, false, List, [], ◌∷◌, length, map, drop, refl, arith, ◌∙◌, ap, subst}
use Rattle.std.specs.Prelude.{nat_lt, take_while}
use Rattle.std.specs.Int.Digits.{AllBelowBase, number_from_digits, number_from_digits_after}
use Rattle.std.proofs.Math.Seq.{drop-append_seam}
use Rattle.std.proofs.lemmas.Bool.Decides.{nat_tests}
use Rattle.std.proofs.lemmas.Int.Digits.{number_lt}
use Rattle.std.proofs.lemmas.List.Sums.{take_while-cons}
use Rattle.elf_symbols.specs.Names.{Names}
use Rattle.cond_expr.specs.declared.token.Leaf.TheVariants.{Number}
use Rattle.cond_expr.specs.declared.token.Token.{Token}
use Rattle.cond_expr.specs.declared.token.Token.TheVariants.{Leaf}
use Rattle.cond_expr.specs.Lex.{digit_value, is_digit_of, number_at, number_behind, number_token, spot, tokens_from}
use Rattle.cond_expr.specs.Token.{wants_behind}

-- hexadecimal digits
abbrev pub AreHex : List ℕ → Type 0
AreHex [] = Unit {0}
AreHex (d ∷ ds) = (is_digit_of 16 d ≡ true) × AreHex ds

digits_in_front : (ds : List ℕ) (b : ℕ) (rest : List ℕ) → AreHex ds → is_digit_of 16 b ≡ false → take_while (is_digit_of 16) (ds ++ b ∷ rest) ≡ ds
digits_in_front [] b rest h other = take_while-cons (is_digit_of 16) b rest ∙ rw other refl
digits_in_front (d ∷ ds) b rest h other =
    take_while-cons (is_digit_of 16) d (ds ++ b ∷ rest) ∙ rw h.0 (ap (λ (xs : List ℕ). d ∷ xs) (digits_in_front ds b rest h.1 other))

values_below : (ds : List ℕ) → AreHex ds → AllBelowBase 16 (map digit_value ds)
values_below [] h = tt
values_below (d ∷ ds) h = (let test = h.0 in let less : digit_value d < 16 = grind (arith, nat_tests) in less, values_below ds h.1)

map_length : (ds : List ℕ) → length (map digit_value ds) ≡ length ds
map_length [] = refl
map_length (d ∷ ds) = ap suc (map_length ds)

abbrev pub value_of : List ℕ → ℕ
value_of ds = number_from_digits 16 (map digit_value ds)

number_fits : (ds : List ℕ) → AreHex ds → length ds ≡ 8 → number_token (value_of ds) ≡ Leaf (Number (value_of ds))
number_fits ds h eight =
    let below = number_lt 16 (map digit_value ds) (values_below ds h) in
    let size : length (map digit_value ds) ≡ 8 = map_length ds ∙ eight in
    let fits : value_of ds < 16 ^ 8 = subst (λ n. value_of ds < 16 ^ n) size below in
    let test : nat_lt (value_of ds) (2 ^ 32) ≡ true = grind (arith, nat_tests) in
    rw test refl

-- the number that eight digits spell, behind `0x`
hex_number : (ds : List ℕ) (b : ℕ) (rest : List ℕ) → AreHex ds → length ds ≡ 8 → is_digit_of 16 b ≡ false → number_behind 16 0 (ds ++ b ∷ rest) ≡ (Leaf (Number (value_of ds)), b ∷ rest)
unfolding number_behind
hex_number ds b rest h eight other =
    let front = digits_in_front ds b rest h other in
    ap (λ (xs : List ℕ). (number_token (number_from_digits_after 16 0 (map digit_value xs)), drop (length xs) (ds ++ b ∷ rest))) front
    ∙ ap (λ (t : Token). (t, drop (length ds) (ds ++ b ∷ rest))) (number_fits ds h eight)
    ∙ ap (λ (xs : List ℕ). (Leaf (Number (value_of ds)), xs)) (drop-append_seam ds (b ∷ rest))

prefixed : (d : ℕ) (ds : List ℕ) (b : ℕ) (rest : List ℕ) → AreHex (d ∷ ds) → length (d ∷ ds) ≡ 8 → is_digit_of 16 b ≡ false
    → number_at 48 (120 ∷ d ∷ (ds ++ b ∷ rest)) ≡ (Leaf (Number (value_of (d ∷ ds))), b ∷ rest)
prefixed d ds b rest h eight other = rw h.0 (hex_number (d ∷ ds) b rest h eight other)

-- where an operand is wanted
pub number_first : (names : Names) (end n : ℕ) (d : ℕ) (ds : List ℕ) (b : ℕ) (rest : List ℕ) → AreHex (d ∷ ds) → length (d ∷ ds) ≡ 8 → is_digit_of 16 b ≡ false
    → tokens_from names end true (suc n) (48 ∷ 120 ∷ d ∷ (ds ++ b ∷ rest))
    ≡ spot (Leaf (Number (value_of (d ∷ ds)))) (end - length (48 ∷ 120 ∷ d ∷ (ds ++ b ∷ rest))) ∷ tokens_from names end false n (b ∷ rest)
unfolding tokens_from
number_first names end n d ds b rest h eight other =
    ap (λ (r : Token × List ℕ). spot r.0 (end - length (48 ∷ 120 ∷ d ∷ (ds ++ b ∷ rest))) ∷ tokens_from names end (wants_behind r.0) n r.1) (prefixed d ds b rest h eight other)
