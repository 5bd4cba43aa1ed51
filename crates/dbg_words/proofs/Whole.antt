-- What clap makes of the words is what the definition says.
use Rattle.std.proofs.Common.{codes, ◌++◌, ◌≡◌, ℕ, Bool, true, false, true≢false, not, ◌&&◌, ◌||◌, List, [], ◌∷◌, map, Option, Some, None, refl, sym, ap, ap₂, ◌∙◌, subst, arith}
use Rattle.std.specs.Prelude.{◌==◌, if◌then◌else◌, fold, is_some, slice_get, suc, option_and_then}
use Rattle.std.specs.List.{All, list_any}
use Rattle.std.proofs.lemmas.Str.{is_utf8-from_IsUtf8}
use Rattle.std.specs.Str.{IsUtf8, bytes_eq, chars, encode_utf8_all, is_utf8, all_scalars}
use Rattle.std.proofs.lemmas.Bool.{eqb-true}
use Rattle.clap.specs.Lexer.{short_of, short_of_rest}
use Rattle.clap.specs.Walk.{Row, Rule, Walk, default_rows, finished, has_row, idle, more_values, nothing_held, settled, walk, walk_from, with_default}
use Rattle.clap.specs.declared.builder.value_parser.Reading.TheVariants as reading
use Rattle.clap.specs.declared.parser.matches.ValueSource.TheVariants.{DefaultValue}
use Rattle.clap.specs.Simple.{App, argument_words, built, entered, matches_of}
use Rattle.clap.specs.Faults.{built_fault, check_fault, defaults_fault, entered_fault, fault_of, given_default_fault, level_fault, settle_fault, walk_fault}
use Rattle.clap.specs.Kinds.{Kinds, check_kinds, or_else}
use Rattle.clap.specs.Takes.{is_given as is_present}
use Rattle.clap.proofs.OnLiterals.{clap_on_literals}
use Rattle.dbg_words.specs.Command.{rvdbg, clap_faults, clap_rows}
use Rattle.dbg_words.specs.Uses.{Text, Use, file, log, is_given, is_name, option_names, uses_of}
use Rattle.dbg_words.proofs.Rules.{at_row-absent, flag_one, has_row-rows, opt, rows, rules, shape}
use Rattle.dbg_words.proofs.Running.{run-uses}
use Rattle.dbg_words.proofs.Walking.{AllSpelled, Matches, Spelled, at, faults, found}
use Rattle.dbg_words.proofs.Simulating.{Holds}
use Rattle.dbg_words.proofs.Induction.{sim}

abbrev leaf : List Text → App
leaf names = record { top = shape names; subs = [] }

rvdbg-built : built rvdbg ≡ leaf option_names
unfolding rvdbg option_names clap_on_literals
rvdbg-built = refl

rvdbg-words : (words : List Text) → argument_words rvdbg words ≡ words
unfolding rvdbg option_names
rvdbg-words words = refl

names-other : is_name option_names file ≡ false
unfolding option_names
names-other = refl

same_rows : (b : Bool) (rs : List Row) → (if b then rs else rs) ≡ rs
same_rows true rs = refl
same_rows false rs = refl

-- the row of a flag that is not given
abbrev pub clear : Row
clear = record {
  id = log;
  values = codes "false" ∷ [];
  count = None;
  source = Some DefaultValue;
  reading = reading.AsWritten;
}

-- the rows at the end
abbrev pub ended : List Use → List Row
ended us = if is_given log us then rows us else rows us ++ clear ∷ []

with_flag : (us : List Use) → with_default (rows us) flag_one ≡ ended us
with_flag us = go (is_given log us) refl
  where
    go : (b : Bool) → is_given log us ≡ b → with_default (rows us) flag_one ≡ (if b then rows us else rows us ++ clear ∷ [])
    go true e = ap (λ c. if c then rows us else default_rows log reading.AsWritten (codes "false" ∷ []) (rows us)) (has_row-rows log us ∙ e)
    go false e =
        ap (λ c. if c then rows us else default_rows log reading.AsWritten (codes "false" ∷ []) (rows us)) (has_row-rows log us ∙ e)
        ∙ at_row-absent log (more_values DefaultValue (codes "false" ∷ [])) (clear ∷ []) (rows us) (has_row-rows log us ∙ e)

defaults-are : (names : List Text) (us : List Use) → fold with_default (rows us) (rules names) ≡ ended us
defaults-are [] us = same_rows (has_row file (with_default (rows us) flag_one)) (with_default (rows us) flag_one) ∙ with_flag us
defaults-are (n ∷ ns) us = ap (λ r. fold with_default r (rules ns)) (same_rows (has_row n (rows us)) (rows us)) ∙ defaults-are ns us

none_else : (b : Bool) (k : Kinds) → (if b || true then [] else k) ≡ []
none_else true k = refl
none_else false k = refl

none_flag : (b : Bool) → (if b || false then [] else given_default_fault flag_one (codes "false" ∷ [])) ≡ []
none_flag true = refl
none_flag false = refl

defaults-sound : (names : List Text) (rs : List Row) → defaults_fault rs (rules names) ≡ []
unfolding defaults_fault
defaults-sound [] rs = ap₂ or_else (none_flag (has_row log rs)) (ap (λ k. or_else k []) (none_else (has_row file (with_default rs flag_one)) _))
defaults-sound (n ∷ ns) rs =
    ap (λ k. or_else k (defaults_fault (with_default rs (opt n)) (rules ns))) (none_else (has_row n rs) _) ∙ defaults-sound ns (with_default rs (opt n))

none-required : (names : List Text) (rs : List Row) → list_any (λ (a : Rule). a.required && not (is_present a.id rs)) (rules names) ≡ false
none-required [] rs = refl
none-required (n ∷ ns) rs = none-required ns rs

check-sound : (names : List Text) (rs : List Row) → check_fault (shape names) rs false ≡ []
check-sound names rs = ap (check_kinds false false) (none-required names rs)

not_entered : (names : List Text) (stop : Option (Text × List Text)) → is_some (entered (leaf names) stop) ≡ false
not_entered names None = refl
not_entered names (Some p) = refl

entered-sound : (names : List Text) (stop : Option (Text × List Text)) → entered_fault (leaf names) stop ≡ []
entered-sound names None = refl
entered-sound names (Some p) = refl

or_nil : (k : Kinds) → or_else k [] ≡ k
or_nil [] = refl
or_nil (x ∷ xs) = refl

abbrev start : Walk
start = at nothing_held idle 1 false

leaf-faults : (names words : List Text) → built_fault (leaf names) nothing_held words ≡ faults names start words
unfolding faults
leaf-faults names words =
    let s = shape names in
    let c = rules names in
    let w = walk c [] nothing_held words in
    let end = w.held in
    let A = walk_fault s [] (walk_from nothing_held) words in
    let S = settle_fault c false end in
    ap₂ (level_fault s [] nothing_held words) (not_entered names w.stopped) (entered-sound names w.stopped)
    ∙ ap₂ (λ (d k : Kinds). or_else A (or_else S (or_else d k))) (defaults-sound names (settled c end).rows) (check-sound names (finished c end))
    ∙ ap (or_else A) (or_nil S)

leaf-rows : (names words : List Text) → finished (rules names) (walk (rules names) [] nothing_held words).held ≡ fold with_default (found names start words) (rules names)
unfolding found
leaf-rows names words = refl

-- what clap finds at the end of the words
abbrev pub Ends : Kinds → List Row → Option (List Use) → Type 0
Ends k r None = k ≡ [] → ⊥
Ends k r (Some us) = (k ≡ []) × (r ≡ ended us)

ends_of : (names : List Text) (k : Kinds) (r : List Row) (o : Option (List Use)) → Matches k r o → Ends k (fold with_default r (rules names)) o
ends_of names k r None m = m
ends_of names k r (Some us) m = (m.0, ap (λ (l : List Row). fold with_default l (rules names)) m.1 ∙ defaults-are names us)

-- at the beginning nothing is held
starts : (names : List Text) → Holds names nothing_held []
starts names = record { skip = refl; rows_are = refl; sound = refl }

pub whole : (words : List Text) → AllSpelled words → Ends (clap_faults words) (clap_rows words) (uses_of option_names words)
unfolding clap_faults clap_rows
whole words spelled =
    let ran = (sim option_names names-other words spelled).at_idle nothing_held [] (starts option_names) in
    let f : fault_of rvdbg words ≡ faults option_names start words =
    ap₂ (λ a ws. built_fault a nothing_held ws) rvdbg-built (rvdbg-words words) ∙ leaf-faults option_names words in
    let r : matches_of rvdbg words ≡ fold with_default (found option_names start words) (rules option_names) =
    ap₂ (λ (a : App) ws. finished a.top.rules (walk a.top.rules (map (λ s. (s.name, s.aliases)) a.subs) nothing_held ws).held) rvdbg-built (rvdbg-words words) ∙ leaf-rows option_names words in
    let P : Option (List Use) → Type 0 = λ o. Ends (faults option_names start words) (fold with_default (found option_names start words) (rules option_names)) o in
    let Q : Kinds → Type 0 = λ k. Ends k (fold with_default (found option_names start words) (rules option_names)) (uses_of option_names words) in
    let R : List Row → Type 0 = λ l. Ends (fault_of rvdbg words) l (uses_of option_names words) in
    subst R (sym r) (subst Q (sym f) (subst P (run-uses option_names words) (ends_of option_names _ _ _ ran)))

-- ---- a text begins with a character

first_char : (b : ℕ) (bs : Text) → is_utf8 (45 ∷ b ∷ bs) ≡ true → (c : ℕ) × (slice_get (chars (b ∷ bs)) 0 ≡ Some c)
unfolding chars is_utf8 lib.Utf8.encode
first_char b bs h = go (chars (b ∷ bs)) h
  where
    go : (cs : List ℕ) → (all_scalars (45 ∷ cs) && bytes_eq (encode_utf8_all (45 ∷ cs)) (45 ∷ b ∷ bs)) ≡ true → (c : ℕ) × (slice_get cs 0 ≡ Some c)
    go [] e = absurd (true≢false (sym e))
    go (c ∷ cs) e = (c, refl)

tail_of : (o : Option Text) (flags : Text) → o ≡ Some flags → o ≡ None → ⊥
tail_of o flags e n = let x : Some flags ≡ None = sym e ∙ n in cc

spelled_two : (b : ℕ) (bs flags : Text) → is_utf8 (45 ∷ b ∷ bs) ≡ true → (t : Bool) → (if t then None else Some (b ∷ bs)) ≡ Some flags → (c : ℕ) × (slice_get (chars flags) 0 ≡ Some c)
spelled_two b bs flags h true s = let x : None ≡ Some flags = s in absurd cc
spelled_two b bs flags h false s =
    let same : b ∷ bs ≡ flags = some_same s in
    let P : Text → Type 0 = λ f. (c : ℕ) × (slice_get (chars f) 0 ≡ Some c) in
    subst P same (first_char b bs h)
  where
    unwrapped : Text → Option Text → Text
    unwrapped d None = d
    unwrapped d (Some x) = x

    some_same : Some (b ∷ bs) ≡ Some flags → b ∷ bs ≡ flags
    some_same e = ap (unwrapped []) e

spelled_at : (rest flags : Text) → is_utf8 (45 ∷ rest) ≡ true → short_of (45 ∷ rest) ≡ Some flags → (c : ℕ) × (slice_get (chars flags) 0 ≡ Some c)
spelled_at [] flags h s = let x : None ≡ Some flags = s in absurd cc
spelled_at (b ∷ bs) flags h s = spelled_two b bs flags h (b == 45) s

spelled_head : (a : ℕ) (rest flags : Text) → is_utf8 (a ∷ rest) ≡ true → (t : Bool) → (a == 45) ≡ t → short_of (a ∷ rest) ≡ Some flags → (c : ℕ) × (slice_get (chars flags) 0 ≡ Some c)
spelled_head a rest flags h true e s =
    let same : a ≡ 45 = eqb-true a 45 e in
    let P : ℕ → Type 0 = λ x. is_utf8 (x ∷ rest) ≡ true in
    let Q : ℕ → Type 0 = λ x. short_of (x ∷ rest) ≡ Some flags in
    spelled_at rest flags (subst P same h) (subst Q same s)
spelled_head a rest flags h false e s = absurd (tail_of (short_of (a ∷ rest)) flags s (ap (λ (t : Bool). option_and_then short_of_rest (if t then Some rest else None)) e))

pub spelled : (x : Text) → IsUtf8 x → Spelled x
spelled [] h = λ flags s. let x : None ≡ Some flags = s in absurd cc
spelled (a ∷ rest) h = λ flags s. spelled_head a rest flags (is_utf8-from_IsUtf8 (a ∷ rest) h) (a == 45) refl s

pub all_spelled : (ws : List Text) → All IsUtf8 ws → AllSpelled ws
all_spelled [] h = tt
all_spelled (w ∷ ws) h = (spelled w (h 0 [] (omega arith)), all_spelled ws (λ k d l. h (suc k) d (omega arith)))
