-- Lists that grew at their end, one piece after the other.
use Rattle.std.proofs.Common.{◌≡◌, ℕ, List, ◌++◌, ap, ◌∙◌, append_assoc}

pub joined_twice : (x y z p m n q : List ℕ) → x ≡ p → m ≡ n → y ≡ x ++ m → z ≡ y ++ q → z ≡ p ++ (n ++ q)
joined_twice x y z p m n q first same second third =
    let start : y ≡ p ++ n = cc in
    third ∙ ap (λ (l : List ℕ). l ++ q) start ∙ append_assoc p n q

pub joined_five : (o k l m n r a b d e f : List ℕ) → k ≡ o ++ a → l ≡ k ++ b → m ≡ l ++ d → n ≡ m ++ e → r ≡ n ++ f
    → r ≡ o ++ (a ++ (b ++ (d ++ (e ++ f))))
joined_five o k l m n r a b d e f one two three four five =
    let whole : r ≡ (((o ++ a) ++ b) ++ d) ++ e ++ f = cc in
    whole ∙ simp append_assoc
