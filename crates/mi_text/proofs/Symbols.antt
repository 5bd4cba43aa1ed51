-- One byte's spelling: it is taken off the front, and what is written of a byte is read as this byte.
use Rattle.std.proofs.Common.{◌≡◌, ℕ, ◌+◌, ◌-◌, ◌*◌, ◌/◌, ◌%◌, ◌<◌, ◌≤◌, List, [], ◌∷◌, ◌++◌, length, Bool, true, false, cond, eqb, None, refl, sym, ap, arith, inl, inr}
use Rattle.std.proofs.lemmas.Bool.{cases_eq, cases_lt, ne_eqb, le-leb, lt-leb, lt-ltb}
use Rattle.std.proofs.lemmas.Option.{same_Some}
use Rattle.mi_text.specs.Digits.{is_octal}
use Rattle.mi_text.specs.CString.{escaped, is_plain}
use Rattle.mi_text.specs.Escape.{Symbol, symbol, byte_of, third_digit, second_digit, octal_at, escape_at, symbol_at}

if_shorter : (t : Bool) (o p : Symbol) (k b : ℕ) (more : List ℕ) → cond t o p ≡ symbol b more → (o ≡ symbol b more → length more < k) → (p ≡ symbol b more → length more < k) → length more < k
if_shorter true o p k b more e f g = f e
if_shorter false o p k b more e f g = g e

same_length : (a b : ℕ) (xs ys : List ℕ) → symbol a xs ≡ symbol b ys → length ys ≡ length xs
same_length a b xs ys e = ap (λ (p : ℕ × List ℕ). length p.1) (sym (same_Some (a, xs) (b, ys) e))

at_front : (a b k : ℕ) (xs ys : List ℕ) → length xs < k → symbol a xs ≡ symbol b ys → length ys < k
at_front a b k xs ys lt e = let same = same_length a b xs ys e in omega arith

none_shorter : (b k : ℕ) (more : List ℕ) → None ≡ symbol b more → length more < k
none_shorter b k more e = absurd cc

byte_shorter : (n b k : ℕ) (rest more : List ℕ) → length rest < k → byte_of n rest ≡ symbol b more → length more < k
byte_shorter n b k rest more lt e = if_shorter _ (symbol n rest) None k b more e (at_front n b k rest more lt) (none_shorter b k more)

third_shorter : (n b k : ℕ) (bytes more : List ℕ) → length bytes < k → third_digit n bytes ≡ symbol b more → length more < k
third_shorter n b k [] more lt e = at_front n b k [] more lt e
third_shorter n b k (c ∷ cs) more lt e =
    if_shorter (is_octal c) (byte_of (8 * n + (c - 48)) cs) (symbol n (c ∷ cs)) k b more e (byte_shorter _ b k cs more (omega arith)) (at_front n b k (c ∷ cs) more lt)

second_shorter : (n b k : ℕ) (bytes more : List ℕ) → length bytes < k → second_digit n bytes ≡ symbol b more → length more < k
second_shorter n b k [] more lt e = at_front n b k [] more lt e
second_shorter n b k (c ∷ cs) more lt e =
    if_shorter (is_octal c) (third_digit (8 * n + (c - 48)) cs) (symbol n (c ∷ cs)) k b more e (third_shorter _ b k cs more (omega arith)) (at_front n b k (c ∷ cs) more lt)

escape_shorter : (b k : ℕ) (bytes more : List ℕ) → length bytes < k → escape_at bytes ≡ symbol b more → length more < k
unfolding escape_at
escape_shorter b k [] more lt e = none_shorter b k more e
escape_shorter b k (c ∷ cs) more lt e =
    if_shorter (eqb c 34) (symbol 34 cs) _ k b more e (at_front 34 b k cs more (omega arith))
    (λ e. if_shorter (eqb c 92) (symbol 92 cs) _ k b more e (at_front 92 b k cs more (omega arith))
    (λ e. if_shorter (eqb c 110) (symbol 10 cs) _ k b more e (at_front 10 b k cs more (omega arith))
    (λ e. if_shorter (eqb c 114) (symbol 13 cs) _ k b more e (at_front 13 b k cs more (omega arith))
    (λ e. if_shorter (eqb c 116) (symbol 9 cs) (octal_at (c ∷ cs)) k b more e (at_front 9 b k cs more (omega arith))
    (λ e. if_shorter (is_octal c) (second_digit (c - 48) cs) None k b more e (second_shorter _ b k cs more (omega arith)) (none_shorter b k more))))))

pub symbol_shorter : (bytes more : List ℕ) (b : ℕ) → symbol_at bytes ≡ symbol b more → length more < length bytes
unfolding symbol_at
symbol_shorter [] more b e = none_shorter b (length {A = ℕ} []) more e
symbol_shorter (c ∷ cs) more b e =
    if_shorter (eqb c 34) None _ (length (c ∷ cs)) b more e (none_shorter b (length (c ∷ cs)) more)
    (λ e. if_shorter (eqb c 92) (escape_at cs) (symbol c cs) (length (c ∷ cs)) b more e (escape_shorter b (length (c ∷ cs)) cs more (omega arith)) (at_front c b (length (c ∷ cs)) cs more (omega arith)))

pub quote_spells_none : (rest : List ℕ) → symbol_at (34 ∷ rest) ≡ None
unfolding symbol_at
quote_spells_none rest = refl

-- a byte that stands for itself
plain_again : (b : ℕ) (rest : List ℕ) → 32 ≤ b → b ≤ 126 → (b ≡ 34 → ⊥) → (b ≡ 92 → ⊥) → symbol_at (escaped b ++ rest) ≡ symbol b rest
unfolding escaped symbol_at
plain_again b rest low high n34 n92 =
    rw (ne_eqb b 34 n34, ne_eqb b 92 n92, ne_eqb b 10 (λ e. omega arith), ne_eqb b 13 (λ e. omega arith), ne_eqb b 9 (λ e. omega arith), le-leb 32 b low, le-leb b 126 high)
    (rw (ne_eqb b 92 n92, ne_eqb b 34 n34) refl)

-- three digits
octal_again : (x y z b : ℕ) (rest : List ℕ) → 48 ≤ x → x < 56 → 48 ≤ y → y < 56 → 48 ≤ z → z < 56 → 8 * (8 * (x - 48) + (y - 48)) + (z - 48) ≡ b → b < 256 → escape_at (x ∷ y ∷ z ∷ rest) ≡ symbol b rest
unfolding escape_at
octal_again x y z b rest x1 x2 y1 y2 z1 z2 sum small =
    rw (ne_eqb x 34 (λ e. omega arith), ne_eqb x 92 (λ e. omega arith), ne_eqb x 110 (λ e. omega arith), ne_eqb x 114 (λ e. omega arith), ne_eqb x 116 (λ e. omega arith))
    (rw (le-leb 48 x x1, lt-ltb x 56 x2, le-leb 48 y y1, lt-ltb y 56 y2, le-leb 48 z z1, lt-ltb z 56 z2)
    (rw sum (rw (lt-ltb b 256 small) refl)))

plain_not : (b : ℕ) → (32 ≤ b → b ≤ 126 → ⊥) → is_plain b ≡ false
plain_not b h = elim (cases_lt b 32) [
  | inl lt ↦ rw (lt-leb 32 b lt) refl
  | inr le ↦ rw (le-leb 32 b le) (lt-leb b 126 (elim (cases_lt 126 b) [ inl lt ↦ lt | inr le2 ↦ absurd (h le le2) ]))
]

other_again : (b : ℕ) (rest : List ℕ) → b < 256 → (32 ≤ b → b ≤ 126 → ⊥) → (b ≡ 10 → ⊥) → (b ≡ 13 → ⊥) → (b ≡ 9 → ⊥) → symbol_at (escaped b ++ rest) ≡ symbol b rest
unfolding escaped symbol_at
other_again b rest small h n10 n13 n9 =
    let n34 : b ≡ 34 → ⊥ = λ e. h (omega arith) (omega arith) in
    let n92 : b ≡ 92 → ⊥ = λ e. h (omega arith) (omega arith) in
    let plain : is_plain b ≡ false = plain_not b h in
    rw (ne_eqb b 34 n34, ne_eqb b 92 n92, ne_eqb b 10 n10, ne_eqb b 13 n13, ne_eqb b 9 n9, plain)
    (octal_again (48 + b / 64) (48 + b / 8 % 8) (48 + b % 8) b rest (omega arith) (omega arith) (omega arith) (omega arith) (omega arith) (omega arith) (omega arith) small)

pub symbol_again : (b : ℕ) (rest : List ℕ) → b < 256 → symbol_at (escaped b ++ rest) ≡ symbol b rest
unfolding escaped symbol_at escape_at
symbol_again b rest small =
    elim (cases_eq b 34) [
      | inl e ↦ rw e refl
      | inr n34 ↦ elim (cases_eq b 92) [
        | inl e ↦ rw e refl
        | inr n92 ↦ elim (cases_eq b 10) [
          | inl e ↦ rw e refl
          | inr n10 ↦ elim (cases_eq b 13) [
            | inl e ↦ rw e refl
            | inr n13 ↦ elim (cases_eq b 9) [
              | inl e ↦ rw e refl
              | inr n9 ↦ elim (cases_lt b 32) [
                | inl lt ↦ other_again b rest small (λ low high. omega arith) n10 n13 n9
                | inr low ↦ elim (cases_lt 126 b) [
                  | inl lt ↦ other_again b rest small (λ low high. omega arith) n10 n13 n9
                  | inr high ↦ plain_again b rest low high n34 n92
                ]
              ]
            ]
          ]
        ]
      ]
    ]
