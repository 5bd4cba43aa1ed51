-- What a word is by itself, as the definition and as clap's lexer say it.
use Rattle.std.proofs.Common.{◌≡◌, ℕ, Bool, true, false, ◌&&◌, List, [], ◌∷◌, Option, Some, None, refl, ap, ◌∙◌}
use Rattle.std.specs.Prelude.{◌==◌, option_and_then, if◌then◌else◌}
use Rattle.std.specs.Str.{bytes_eq}
use Rattle.clap.specs.Lexer.{long_of, long_of_rest, name_and_value, short_of, short_of_rest, strip_byte}
use Rattle.dbg_words.specs.Uses.{Text, ends, unknown, plain, after_hyphen, after_hyphens, named, word_of}

abbrev pub hyphens : Text
hyphens = 45 ∷ 45 ∷ []

pub data Kind (names : List Text) (x : Text) : Type 0 where
  k_ends : bytes_eq x hyphens ≡ true → word_of names x ≡ ends → Kind names x
  k_long : (name : Text) (value : Option Text) → bytes_eq x hyphens ≡ false → long_of x ≡ Some (name, value) → word_of names x ≡ named names name value → Kind names x
  k_short : (flags : Text) → bytes_eq x hyphens ≡ false → long_of x ≡ None → short_of x ≡ Some flags → word_of names x ≡ unknown → Kind names x
  k_plain : bytes_eq x hyphens ≡ false → long_of x ≡ None → short_of x ≡ None → word_of names x ≡ plain → Kind names x

kind_two : (names : List Text) (a b : ℕ) (rest : Text) → (a == 45) ≡ true → (b == 45) ≡ true → Kind names (a ∷ b ∷ rest)
kind_two names a b [] e f = k_ends
    (ap (λ t. t && ((b == 45) && true)) e ∙ ap (λ t. t && true) f)
    (ap (λ t. if t then after_hyphen names (b ∷ []) else plain) e ∙ ap (λ t. if t then after_hyphens names [] else unknown) f)
kind_two names a b (z ∷ zs) e f = k_long (name_and_value (z ∷ zs)).0 (name_and_value (z ∷ zs)).1
    (ap (λ t. t && ((b == 45) && false)) e ∙ ap (λ t. t && false) f)
    (ap (λ t. option_and_then long_of_rest (option_and_then (strip_byte 45) (if t then Some (b ∷ z ∷ zs) else None))) e
    ∙ ap (λ t. option_and_then long_of_rest (if t then Some (z ∷ zs) else None)) f)
    (ap (λ t. if t then after_hyphen names (b ∷ z ∷ zs) else plain) e ∙ ap (λ t. if t then after_hyphens names (z ∷ zs) else unknown) f)

kind_one : (names : List Text) (a b : ℕ) (rest : Text) → (a == 45) ≡ true → (t : Bool) → (b == 45) ≡ t → Kind names (a ∷ b ∷ rest)
kind_one names a b rest e true f = kind_two names a b rest e f
kind_one names a b rest e false f = k_short (b ∷ rest)
    (ap (λ t. t && ((b == 45) && bytes_eq rest [])) e ∙ ap (λ t. t && bytes_eq rest []) f)
    (ap (λ t. option_and_then long_of_rest (option_and_then (strip_byte 45) (if t then Some (b ∷ rest) else None))) e
    ∙ ap (λ t. option_and_then long_of_rest (if t then Some rest else None)) f)
    (ap (λ t. option_and_then short_of_rest (if t then Some (b ∷ rest) else None)) e ∙ ap (λ t. if t then None else Some (b ∷ rest)) f)
    (ap (λ t. if t then after_hyphen names (b ∷ rest) else plain) e ∙ ap (λ t. if t then after_hyphens names rest else unknown) f)

kind_head : (names : List Text) (a : ℕ) (rest : Text) (t : Bool) → (a == 45) ≡ t → Kind names (a ∷ rest)
kind_head names a [] true e = k_plain
    (ap (λ t. t && false) e)
    (ap (λ t. option_and_then long_of_rest (option_and_then (strip_byte 45) (if t then Some [] else None))) e)
    (ap (λ t. option_and_then short_of_rest (if t then Some [] else None)) e)
    (ap (λ t. if t then after_hyphen names [] else plain) e)
kind_head names a (b ∷ rest) true e = kind_one names a b rest e (b == 45) refl
kind_head names a rest false e = k_plain
    (ap (λ t. t && bytes_eq rest (45 ∷ [])) e)
    (ap (λ t. option_and_then long_of_rest (option_and_then (strip_byte 45) (if t then Some rest else None))) e)
    (ap (λ t. option_and_then short_of_rest (if t then Some rest else None)) e)
    (ap (λ t. if t then after_hyphen names rest else plain) e)

pub kind_is : (names : List Text) (x : Text) → Kind names x
kind_is names [] = k_plain refl refl refl refl
kind_is names (a ∷ rest) = kind_head names a rest (a == 45) refl
