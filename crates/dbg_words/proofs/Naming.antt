-- Where the uses' values stand in the words.
use Rattle.std.proofs.Common.{◌≡◌, ℕ, ◌<◌, Bool, true, false, true≢false, not, get_or, ◌+◌, ap₂, ◌||◌, List, [], ◌∷◌, ◌++◌, map, length, codes, Option, Some, None, refl, sym, ap, ◌∙◌, subst, arith}
use Rattle.std.specs.Prelude.{◌==◌, if◌then◌else◌, option_and_then, suc, cond}
use Rattle.std.specs.List.{Contains, list_any, before_first, after_first, prefix_len}
use Rattle.std.specs.Str.{bytes_eq}
use Rattle.std.proofs.lemmas.Bool.{eqb-true}
use Rattle.std.proofs.lemmas.List.Sums.{prefix_len_stops, split_at_first}
use Rattle.dbg_words.specs.Uses.{Text, Use, Word, ends, takes, flag, has, unknown, plain, file, log, set, is_name, named, after_hyphens, after_hyphen, word_of, after, with_word, with_value, read, are_new, option_names, uses_of}
use Rattle.dbg_traits.specs.Names.{IsNamed}
use Rattle.dbg_words.proofs.Known.{AllKnown, Each, Known}
use Rattle.dbg_words.proofs.Rules.{text_same}

contains_here : (w : Text) (ws : List Text) → Contains (w ∷ ws) w
contains_here w ws = (0, omega arith, refl)

contains_there : (w : Text) (ws : List Text) (v : Text) → Contains ws v → Contains (w ∷ ws) v
contains_there w ws v c = (suc c.0, let l = c.1 in omega arith, c.2)

part_there : (w : Text) (ws : List Text) (v : Text) → IsNamed ws v → IsNamed (w ∷ ws) v
part_there w ws v p = (p.0, contains_there w ws (p.0 ++ v) p.1)

known_there : (w : Text) (ws : List Text) (u : Use) → Known ws u → Known (w ∷ ws) u
known_there w ws u k = record {
  is_set = k.is_set;
  is_word = λ e. contains_there w ws u.1 (k.is_word e);
  is_part = λ e. part_there w ws u.1 (k.is_part e);
}

each_there : (w : Text) (ws : List Text) (us : List Use) → Each (Known ws) us → Each (Known (w ∷ ws)) us
each_there w ws [] k = tt
each_there w ws (u ∷ us) k = (known_there w ws u k.0, each_there w ws us k.1)

all_there : (w : Text) (ws : List Text) (o : Option (List Use)) → AllKnown ws o → AllKnown (w ∷ ws) o
all_there w ws None k = tt
all_there w ws (Some us) k = each_there w ws us k

all_after : (ws : List Text) (u : Use) (o : Option (List Use)) → Known ws u → AllKnown ws o → AllKnown ws (after u o)
all_after ws u None k ks = tt
all_after ws u (Some us) k ks = (k, ks)

-- ---- each kind of use

known_file : (w : Text) (ws : List Text) → Known (w ∷ ws) (file, w)
known_file w ws = record {
  is_set = λ e. absurd (true≢false (sym e));
  is_word = λ e. contains_here w ws;
  is_part = λ e. absurd (true≢false (sym e));
}

known_log : (ws : List Text) → Known ws (log, set)
known_log ws = record {
  is_set = λ e. refl;
  is_word = λ e. absurd (true≢false (sym e));
  is_part = λ e. absurd (true≢false (sym e));
}

not_name : (names : List Text) (name other : Text) → is_name names other ≡ false → is_name names name ≡ true → bytes_eq name other ≡ true → ⊥
not_name names name other missing known same = true≢false (sym known ∙ ap (is_name names) (text_same name other same) ∙ missing)

-- no name is that of the flag or of FILE
pub record Apart (names : List Text) : Type 0 where
  pub flags : is_name names log ≡ false
  pub files : is_name names file ≡ false

known_option : (names : List Text) (ws : List Text) (name v : Text) → Apart names → is_name names name ≡ true → (bytes_eq name (codes "check") ≡ true → IsNamed ws v) → Known ws (name, v)
known_option names ws name v apart known part = record {
  is_set = λ e. absurd (not_name names name log apart.flags known e);
  is_word = λ e. absurd (not_name names name file apart.files known e);
  is_part = part;
}

files-known : (ws : List Text) → Each (Known ws) (map (λ f. (file, f)) ws)
files-known [] = tt
files-known (w ∷ ws) = (known_file w ws, each_there w ws (map (λ f. (file, f)) ws) (files-known ws))

-- ---- what a word is by itself

abbrev spelled : Text → Text → Text
spelled name value = 45 ∷ 45 ∷ (name ++ 61 ∷ value)

abbrev Fits : List Text → Text → Word → Type 0
Fits names w ends = Unit {0}
Fits names w (takes name) = is_name names name ≡ true
Fits names w flag = Unit {0}
Fits names w (has name value) = (is_name names name ≡ true) × (w ≡ spelled name value)
Fits names w unknown = Unit {0}
Fits names w plain = Unit {0}

named-fits : (names : List Text) (w name : Text) (v : Option Text) → ((value : Text) → v ≡ Some value → w ≡ spelled name value) → Fits names w (named names name v)
named-fits names w name None is = go (is_name names name) refl (bytes_eq log name)
  where
    go : (b : Bool) → is_name names name ≡ b → (c : Bool) → Fits names w (if b then takes name else (if c then flag else unknown))
    go true e c = e
    go false e true = tt
    go false e false = tt
named-fits names w name (Some value) is = go (is_name names name) refl
  where
    go : (b : Bool) → is_name names name ≡ b → Fits names w (if b then has name value else unknown)
    go true e = (e, is value refl)
    go false e = tt

unwrapped : Text → Option Text → Text
unwrapped d None = d
unwrapped d (Some v) = v

not-false : (b : Bool) → not b ≡ false → b ≡ true
not-false true e = refl
not-false false e = absurd (true≢false e)

any-within : (t : Text) → list_any (λ x. x == 61) t ≡ true → prefix_len (λ x. not (x == 61)) t < length t
any-within [] e = absurd (true≢false (sym e))
any-within (x ∷ xs) e = go (x == 61) e (any-within xs)
  where
    go : (b : Bool) → (b || list_any (λ y. y == 61) xs) ≡ true → (list_any (λ y. y == 61) xs ≡ true → prefix_len (λ y. not (y == 61)) xs < length xs) → cond (not b) (1 + prefix_len (λ y. not (y == 61)) xs) 0 < length (x ∷ xs)
    go true k rest = omega arith
    go false k rest = let l = rest k in omega arith

cut : (b : Bool) (t value : Text) → list_any (λ x. x == 61) t ≡ b → (if b then Some (after_first (λ x. x == 61) t) else None) ≡ Some value → t ≡ before_first (λ x. x == 61) t ++ 61 ∷ value
unfolding unwrapped
cut true t value any is =
    let at : prefix_len (λ x. not (x == 61)) t < length t = any-within t any in
    let sign : get_or t (prefix_len (λ x. not (x == 61)) t) 0 ≡ 61 = eqb-true _ 61 (not-false _ (prefix_len_stops (λ x. not (x == 61)) t 0 at)) in
    let rest : after_first (λ x. x == 61) t ≡ value = ap (unwrapped []) is in
    split_at_first (λ x. x == 61) t 0 at ∙ ap₂ (λ (s : ℕ) (v : Text). before_first (λ x. x == 61) t ++ s ∷ v) sign rest
cut false t value any is = let x : None ≡ Some value = is in absurd cc

two-fits : (names : List Text) (a b : ℕ) (rest : Text) → (a == 45) ≡ true → (b == 45) ≡ true → Fits names (a ∷ b ∷ rest) (after_hyphens names rest)
two-fits names a b [] e f = tt
two-fits names a b (z ∷ zs) e f = named-fits names (a ∷ b ∷ z ∷ zs) _ _ (λ value is.
    let t = cut (list_any (λ x. x == 61) (z ∷ zs)) (z ∷ zs) value refl is in
    λ i. eqb-true a 45 e i ∷ eqb-true b 45 f i ∷ t i)

one-fits : (names : List Text) (a b : ℕ) (rest : Text) → (a == 45) ≡ true → (t : Bool) → (b == 45) ≡ t → Fits names (a ∷ b ∷ rest) (if t then after_hyphens names rest else unknown)
one-fits names a b rest e true f = two-fits names a b rest e f
one-fits names a b rest e false f = tt

head-fits : (names : List Text) (a : ℕ) (rest : Text) (t : Bool) → (a == 45) ≡ t → Fits names (a ∷ rest) (if t then after_hyphen names rest else plain)
head-fits names a [] true e = tt
head-fits names a (b ∷ rest) true e = one-fits names a b rest e (b == 45) refl
head-fits names a rest false e = tt

fits : (names : List Text) (w : Text) → Fits names w (word_of names w)
fits names [] = tt
fits names (a ∷ rest) = head-fits names a rest (a == 45) refl

-- ---- the words

-- `--check=` and a value
check-part : (names : List Text) (w : Text) (ws : List Text) (name value : Text) → w ≡ spelled name value → bytes_eq name (codes "check") ≡ true → IsNamed (w ∷ ws) value
check-part names w ws name value is same =
    let whole : w ≡ codes "--check=" ++ value = is ∙ ap (λ n. spelled n value) (text_same name (codes "check") same) in
    let P : Text → Type 0 = λ t. Contains (w ∷ ws) t in
    (codes "--check=", subst P whole (contains_here w ws))

word-known : (names : List Text) → Apart names → (x : Word) (w : Text) (ws : List Text) (next : Option (List Use)) (wait : Text → Option (List Use))
    → Fits names w x → AllKnown ws next → ((name : Text) → is_name names name ≡ true → AllKnown ws (wait name))
    → AllKnown (w ∷ ws) (with_word x w ws next wait)
word-known names apart ends w ws next wait f k waits = each_there w ws (map (λ f. (file, f)) ws) (files-known ws)
word-known names apart (takes name) w ws next wait f k waits = all_there w ws (wait name) (waits name f)
word-known names apart flag w ws next wait f k waits = all_after (w ∷ ws) (log, set) next (known_log (w ∷ ws)) (all_there w ws next k)
word-known names apart (has name value) w ws next wait f k waits =
    all_after (w ∷ ws) (name, value) next (known_option names (w ∷ ws) name value apart f.0 (check-part names w ws name value f.1)) (all_there w ws next k)
word-known names apart unknown w ws next wait f k waits = tt
word-known names apart plain w ws next wait f k waits = all_after (w ∷ ws) (file, w) next (known_file w ws) (all_there w ws next k)

value-known : (names : List Text) → Apart names → (x : Word) (name w : Text) (ws : List Text) (next : Option (List Use)) → is_name names name ≡ true → AllKnown ws next → AllKnown (w ∷ ws) (with_value x (name, w) next)
value-known names apart ends name w ws next known k = tt
value-known names apart (takes n) name w ws next known k = tt
value-known names apart flag name w ws next known k = tt
value-known names apart (has n v) name w ws next known k = tt
value-known names apart unknown name w ws next known k = tt
value-known names apart plain name w ws next known k =
    all_after (w ∷ ws) (name, w) next (known_option names (w ∷ ws) name w apart known (λ e. ([], contains_here w ws))) (all_there w ws next k)

pub record Reading (names : List Text) (ws : List Text) : Type 0 where
  pub idle : AllKnown ws (read names None ws)
  pub waits : (name : Text) → is_name names name ≡ true → AllKnown ws (read names (Some name) ws)

reading : (names : List Text) → Apart names → (ws : List Text) → Reading names ws
unfolding read
reading names apart [] = record { idle = tt; waits = λ name known. tt }
reading names apart (w ∷ ws) =
    let rec = reading names apart ws in
    record {
      idle = word-known names apart (word_of names w) w ws (read names None ws) (λ name. read names (Some name) ws) (fits names w) rec.idle rec.waits;
      waits = λ name known. value-known names apart (word_of names w) name w ws (read names None ws) known rec.idle;
    }

new-known : (ws : List Text) (o : Option (List Use)) → AllKnown ws o → AllKnown ws (option_and_then (λ us. if are_new [] us then Some us else None) o)
new-known ws None k = tt
new-known ws (Some us) k = go (are_new [] us)
  where
    go : (b : Bool) → AllKnown ws (if b then Some us else None)
    go true = k
    go false = tt

names-apart : Apart option_names
unfolding option_names
names-apart = record { flags = refl; files = refl }

pub uses-known : (words : List Text) → AllKnown words (uses_of option_names words)
uses-known words = new-known words (read option_names None words) (reading option_names names-apart words).idle
