-- What the words ask for, by what was given.
use Rattle.std.proofs.Common.{◌≡◌, Bool, true, false, List, [], ◌∷◌, codes, Option, Some, None, refl, sym, ap, ◌∙◌, subst, ℕ}
use Rattle.std.specs.Prelude.{cond, find, option_map, option_and_then, if◌then◌else◌, IfSome, is_some, ◌||◌}
use Rattle.std.specs.Str.{bytes_eq}
use Rattle.dbg_traits.specs.Names.{IsNamed}
use Rattle.dbg_traits.specs.declared.settings.Settings.{Settings}
use Rattle.dbg_words.specs.Uses.{Text, Use, file, option_names, uses_of}
use Rattle.dbg_words.specs.Number.{number_in, setting_in}
use Rattle.dbg_words.specs.Words.{Asked, Texts, Words, asked_of, checked, generated, generated_of, name_of, one_of, session, session_of, checked_of, settings_of, texts_of, value_in}
use Rattle.dbg_words.specs.Given.{IsGiven, given_texts}
use Rattle.dbg_words.specs.Request.{asked}
use Rattle.dbg_words.specs.declared.request.Request.{Request}
use Rattle.dbg_words.specs.declared.given.Given.{Given}
use Rattle.dbg_words.proofs.Known.{AllKnown, Each, Known}
use Rattle.dbg_words.proofs.Naming.{uses-known}

pub given_words : (words : List Text) (g : Given) → IsGiven (uses_of option_names words) g → asked_of (given_texts g) ≡ Words words
unfolding Words
given_words words g is = ap asked_of is.2 ∙ sym (ap (λ (o : Option (List Use)). option_and_then (λ us. asked_of (texts_of us)) o) is.1)

pub refused_words : (words : List Text) → uses_of option_names words ≡ None → None ≡ Words words
unfolding Words
refused_words words is = sym (ap (λ (o : Option (List Use)). option_and_then (λ us. asked_of (texts_of us)) o) is)

-- ---- names

file-stands : (ws : List Text) (us : List Use) → Each (Known ws) us → IfSome (value_in file us) (IsNamed ws)
file-stands ws [] known = tt
file-stands ws (u ∷ us) known = go (bytes_eq u.0 file) refl (file-stands ws us known.1)
  where
    go : (b : Bool) → bytes_eq u.0 file ≡ b → IfSome (value_in file us) (IsNamed ws) → IfSome (option_map (λ (x : Use). x.1) (cond b (Some u) (find (λ (x : Use). bytes_eq x.0 file) us))) (IsNamed ws)
    go true e rest = ([], known.0.is_word e)
    go false e rest = rest

check-stands : (ws : List Text) (us : List Use) → Each (Known ws) us → IfSome (value_in (codes "check") us) (IsNamed ws)
check-stands ws [] known = tt
check-stands ws (u ∷ us) known = go (bytes_eq u.0 (codes "check")) refl (check-stands ws us known.1)
  where
    go : (b : Bool) → bytes_eq u.0 (codes "check") ≡ b → IfSome (value_in (codes "check") us) (IsNamed ws)
        → IfSome (option_map (λ (x : Use). x.1) (cond b (Some u) (find (λ (x : Use). bytes_eq x.0 (codes "check")) us))) (IsNamed ws)
    go true e rest = known.0.is_part e
    go false e rest = rest

abbrev Named : (Text → Type 0) → Option Asked → Type 0
Named P o = IfSome o (λ a. IfSome (name_of a) P)

session-named : (t : Texts) (name : Text) (P : Text → Type 0) → P name → Named P (session_of t name)
session-named t name P p = first (setting_in 1 16 1 t.harts)
  where
    third : (s : Option Settings) → Named P (option_map (λ s. session name s t.has_log) s)
    third None = tt
    third (Some s) = p

    second : (harts : ℕ) (o : Option ℕ) → Named P (option_and_then (λ workers. option_map (λ s. session name s t.has_log) (settings_of t harts workers)) o)
    second harts None = tt
    second harts (Some workers) = third (settings_of t harts workers)

    first : (o : Option ℕ) → Named P (option_and_then (λ harts. option_and_then (λ workers. option_map (λ s. session name s t.has_log) (settings_of t harts workers)) (setting_in 0 16 2 t.workers)) o)
    first None = tt
    first (Some harts) = second harts (setting_in 0 16 2 t.workers)

generated-named : (t : Texts) (number : Text) (P : Text → Type 0) → Named P (generated_of t number)
generated-named t number P = whole (is_some t.harts || is_some t.workers || t.has_log)
  where
    second : (n : ℕ) (s : Option Settings) → Named P (option_map (generated n) s)
    second n None = tt
    second n (Some s) = tt

    first : (o : Option ℕ) → Named P (option_and_then (λ n. option_map (generated n) (settings_of t 2 0)) o)
    first None = tt
    first (Some n) = second n (settings_of t 2 0)

    whole : (b : Bool) → Named P (if b then None else option_and_then (λ n. option_map (generated n) (settings_of t 2 0)) (number_in 1 1000000 number))
    whole true = tt
    whole false = first (number_in 1 1000000 number)

checked-named : (t : Texts) (name : Text) (P : Text → Type 0) → P name → Named P (checked_of t name)
checked-named t name P p = go (is_some t.harts || is_some t.workers || is_some t.slots || is_some t.budget || is_some t.slice || t.has_log)
  where
    go : (b : Bool) → Named P (if b then None else Some (checked name))
    go true = tt
    go false = p

one-named : (t : Texts) (P : Text → Type 0) (f g c : Option Text) → IfSome f P → IfSome c P → Named P (one_of t f g c)
one-named t P (Some name) None None p q = session-named t name P p
one-named t P None (Some number) None p q = generated-named t number P
one-named t P None None (Some name) p q = checked-named t name P q
one-named t P None None None p q = tt
one-named t P None (Some number) (Some name) p q = tt
one-named t P (Some f) None (Some name) p q = tt
one-named t P (Some f) (Some number) None p q = tt
one-named t P (Some f) (Some number) (Some name) p q = tt

uses-named : (ws : List Text) (o : Option (List Use)) → AllKnown ws o → Named (IsNamed ws) (option_and_then (λ us. asked_of (texts_of us)) o)
uses-named ws None known = tt
uses-named ws (Some us) known = one-named (texts_of us) (IsNamed ws) _ _ _ (file-stands ws us known) (check-stands ws us known)

words-named : (ws : List Text) → Named (IsNamed ws) (Words ws)
unfolding Words
words-named ws = uses-named ws (uses_of option_names ws) (uses-known ws)

-- what is asked has its name among the words
pub asked_named : (ws : List Text) (r : Option Request) → option_map asked r ≡ Words ws → IfSome r (λ request. IfSome (name_of (asked request)) (IsNamed ws))
asked_named ws None is = tt
asked_named ws (Some request) is = let Q : Option Asked → Type 0 = λ o. Named (IsNamed ws) o in subst Q (sym is) (words-named ws)
