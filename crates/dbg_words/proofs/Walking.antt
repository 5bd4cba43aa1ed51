-- One step of clap's walk over the words.
use Rattle.std.proofs.Common.{◌≡◌, ℕ, Bool, true, false, ◌&&◌, ◌||◌, List, [], ◌∷◌, length, Option, Some, None, refl, sym, ap, ◌∙◌, subst}
use Rattle.std.specs.Prelude.{if◌then◌else◌, fold, slice_get, nat_lt, drop, suc, encode_utf8}
use Rattle.std.specs.Option.{option_map_or}
use Rattle.std.specs.Str.{bytes_eq, chars}
use Rattle.clap.specs.Lexer.{long_of, short_of}
use Rattle.clap.specs.Walk.{Held, Row, Rule, Step, Waiting, Walk, after_flag, after_step, arg_by_long, idle, is_pending, long_met, long_or_other}
use Rattle.clap.specs.Walk.{next, option, option_word, plain_word, pushed, reacted, settled, short_or_plain, to_positional, trailing, value, walked}
use Rattle.clap.specs.Faults.{bundle_fault, bundle_step_fault, flag_word_fault, flags_fault, long_fault, positional_fault, short_fault, settle_fault, step_fault, stray_fault, turn_fault, use_fault, walk_fault}
use Rattle.clap.specs.Kinds.{Kinds, or_else}
use Rattle.clap.specs.declared.error.kind.ErrorKind.{ErrorKind}
use Rattle.clap.specs.declared.error.kind.ErrorKind.TheVariants as kind
use Rattle.dbg_words.specs.Uses.{Text, Use, file, log, is_name}
use Rattle.dbg_words.proofs.Rules.{by_first, by_id, by_long, by_second, by_short, file_one, flag_one, long_rule, opt, rows, rules, shape, text_own}
use Rattle.dbg_words.proofs.Kinding.{hyphens}

abbrev pub at : Held → Waiting → ℕ → Bool → Walk
at h waiting position is_trailing = record { held = h; waiting = waiting; position = position; is_trailing = is_trailing; stopped = None }

-- why the words from here on are refused, and the rows at their end
unfoldable pub faults : List Text → Walk → List Text → Kinds
faults names w ws = or_else (walk_fault (shape names) [] w ws) (settle_fault (rules names) false (fold (walked (rules names) []) w ws).held)

unfoldable pub found : List Text → Walk → List Text → List Row
found names w ws = (settled (rules names) (fold (walked (rules names) []) w ws).held).rows

abbrev pub Matches : Kinds → List Row → Option (List Use) → Type 0
Matches k r None = k ≡ [] → ⊥
Matches k r (Some us) = (k ≡ []) × (r ≡ rows us)

abbrev pub Refused : Kinds → Type 0
Refused k = k ≡ [] → ⊥

pub cons_refused : (k : ErrorKind) (ks : Kinds) → Refused (k ∷ ks)
cons_refused k ks e = cc

pub first_refused : (a b : Kinds) → Refused a → Refused (or_else a b)
first_refused [] b h e = h refl
first_refused (k ∷ ks) b h e = h e

pub second_refused : (a b : Kinds) → Refused b → Refused (or_else a b)
second_refused [] b h e = h e
second_refused (k ∷ ks) b h e = cons_refused k ks e

pub refused_at : (a b : Kinds) → a ≡ b → Refused b → Refused a
refused_at a b same h e = h (sym same ∙ e)

-- ---- one turn more

pub step_ok : (names : List Text) (w now : Walk) (x : Text) (xs : List Text) (o : Option (List Use)) → turn_fault (shape names) [] w x ≡ [] → walked (rules names) [] w x ≡ now
    → Matches (faults names now xs) (found names now xs) o → Matches (faults names w (x ∷ xs)) (found names w (x ∷ xs)) o
unfolding faults found walk_fault
step_ok names w now x xs o none is h =
    let s = shape names in
    let c = rules names in
    let S = settle_fault c false (fold (walked c []) (walked c [] w x) xs).held in
    let one : faults names w (x ∷ xs) ≡ faults names (walked c [] w x) xs = ap (λ (t : Kinds). or_else (or_else t (walk_fault s [] (walked c [] w x) xs)) S) none in
    let P : Walk → Type 0 = λ v. Matches (faults names v xs) (found names v xs) o in
    let Q : Kinds → Type 0 = λ k. Matches k (found names (walked c [] w x) xs) o in
    subst Q (sym one) (subst P (sym is) h)

pub step_bad : (names : List Text) (w : Walk) (x : Text) (xs : List Text) → Refused (turn_fault (shape names) [] w x) → Refused (faults names w (x ∷ xs))
unfolding faults walk_fault
step_bad names w x xs h =
    first_refused _ _ (first_refused _ _ h)

pub end_refused : (names : List Text) (w : Walk) → Refused (settle_fault (rules names) false w.held) → Refused (faults names w [])
unfolding faults walk_fault
end_refused names w h = h

-- ---- what a turn does, by what the word is

abbrev met_at : List Text → Held → Waiting → ℕ → Text → Bool → Option (Text × Option Text) → Held × Step
met_at names h waiting position x b long = if b then (h, trailing position) else long_or_other (rules names) waiting x long h

abbrev fault_at : List Text → Held → Waiting → ℕ → Text → Bool → Option (Text × Option Text) → Kinds
fault_at names h waiting position x b long =
    or_else (if b then [] else flag_word_fault (rules names) false long x h)
    (step_fault (shape names) position (met_at names h waiting position x b long).0 (met_at names h waiting position x b long).1)

-- a word may be read where nothing waits, or an option
pub data Reads : Waiting → Type 0 where
  r_idle : Reads idle
  r_option : (id : Text) → Reads (option id)

turn-at : (names : List Text) (h : Held) (waiting : Waiting) (position : ℕ) (x : Text) → Reads waiting → turn_fault (shape names) [] (at h waiting position false) x ≡ fault_at names h waiting position x (bytes_eq x hyphens) (long_of x)
turn-at names h _ position x r_idle = refl
turn-at names h _ position x (r_option id) = refl

walked-at : (names : List Text) (h : Held) (waiting : Waiting) (position : ℕ) (x : Text) → Reads waiting
    → walked (rules names) [] (at h waiting position false) x ≡ after_step (rules names) x (at h waiting position false)
    (met_at names h waiting position x (bytes_eq x hyphens) (long_of x)).0 (met_at names h waiting position x (bytes_eq x hyphens) (long_of x)).1
unfolding walked
walked-at names h _ position x r_idle = refl
walked-at names h _ position x (r_option id) = refl

-- `--`
pub ends_turn : (names : List Text) (h : Held) (waiting : Waiting) (position : ℕ) (x : Text) → Reads waiting → bytes_eq x hyphens ≡ true
    → (turn_fault (shape names) [] (at h waiting position false) x ≡ []) × (walked (rules names) [] (at h waiting position false) x ≡ at h waiting position true)
ends_turn names h waiting position x r e = (
  turn-at names h waiting position x r ∙ ap (λ b. fault_at names h waiting position x b (long_of x)) e,
  walked-at names h waiting position x r ∙ ap (λ b. after_step (rules names) x (at h waiting position false) (met_at names h waiting position x b (long_of x)).0 (met_at names h waiting position x b (long_of x)).1) e,
)

-- `--name` or `--name=value`, where the command has such an option or not
abbrev long_at : List Text → Held → Waiting → Text → Option Text → Option Rule → Held × Step
long_at names h waiting x v o = after_flag (rules names) waiting x (long_met (rules names) o v h).0 (long_met (rules names) o v h).1

abbrev long_fault_at : List Text → Held → Waiting → ℕ → Text → Option Text → Option Rule → Kinds
long_fault_at names h waiting position x v o =
    or_else (long_fault (rules names) false o v h) (step_fault (shape names) position (long_at names h waiting x v o).0 (long_at names h waiting x v o).1)

long_turn : (names : List Text) (h : Held) (waiting : Waiting) (position : ℕ) (x name : Text) (v : Option Text) (o : Option Rule) → Reads waiting → bytes_eq x hyphens ≡ false → long_of x ≡ Some (name, v) → arg_by_long (rules names) name ≡ o
    → (turn_fault (shape names) [] (at h waiting position false) x ≡ long_fault_at names h waiting position x v o)
    × (walked (rules names) [] (at h waiting position false) x ≡ after_step (rules names) x (at h waiting position false) (long_at names h waiting x v o).0 (long_at names h waiting x v o).1)
long_turn names h waiting position x name v o r e l found = (
  turn-at names h waiting position x r ∙ ap (λ b. fault_at names h waiting position x b (long_of x)) e
      ∙ ap (fault_at names h waiting position x false) l
      ∙ ap (long_fault_at names h waiting position x v) found,
  walked-at names h waiting position x r
      ∙ ap (λ b. after_step (rules names) x (at h waiting position false) (met_at names h waiting position x b (long_of x)).0 (met_at names h waiting position x b (long_of x)).1) e
      ∙ ap (λ o. after_step (rules names) x (at h waiting position false) (met_at names h waiting position x false o).0 (met_at names h waiting position x false o).1) l
      ∙ ap (λ o. after_step (rules names) x (at h waiting position false) (long_at names h waiting x v o).0 (long_at names h waiting x v o).1) found,
)

option_is : (names : List Text) (name : Text) → is_name names name ≡ true → arg_by_long (rules names) name ≡ Some (opt name)
option_is names name known = by_long names name ∙ ap (λ t. long_rule name t (bytes_eq log name)) known

flag_is : (names : List Text) (name : Text) (b : Bool) → is_name names name ≡ false → bytes_eq log name ≡ b → arg_by_long (rules names) name ≡ (if b then Some flag_one else None)
flag_is names name b missing e = by_long names name ∙ ap (λ t. long_rule name t (bytes_eq log name)) missing ∙ ap (λ t. long_rule name false t) e

pub unknown_turn : (names : List Text) (h : Held) (waiting : Waiting) (position : ℕ) (x name : Text) (v : Option Text) → Reads waiting
    → bytes_eq x hyphens ≡ false → long_of x ≡ Some (name, v) → is_name names name ≡ false → bytes_eq log name ≡ false
    → Refused (turn_fault (shape names) [] (at h waiting position false) x)
unknown_turn names h waiting position x name v r e l missing other =
    refused_at _ _ (long_turn names h waiting position x name v None r e l (flag_is names name false missing other)).0 (cons_refused kind.UnknownArgument [])

-- `--log=value`
pub flag_value_turn : (names : List Text) (h : Held) (waiting : Waiting) (position : ℕ) (x name v : Text) → Reads waiting → bytes_eq x hyphens ≡ false → long_of x ≡ Some (name, Some v) → is_name names name ≡ false → bytes_eq log name ≡ true
    → Refused (turn_fault (shape names) [] (at h waiting position false) x)
flag_value_turn names h waiting position x name v r e l missing same =
    refused_at _ _ (long_turn names h waiting position x name (Some v) (Some flag_one) r e l (flag_is names name true missing same)).0 (cons_refused kind.TooManyValues [])

-- what `--log` does
pub flag_turn : (names : List Text) (h : Held) (waiting : Waiting) (position : ℕ) (x name : Text) → Reads waiting → bytes_eq x hyphens ≡ false → long_of x ≡ Some (name, None) → is_name names name ≡ false → bytes_eq log name ≡ true
    → (turn_fault (shape names) [] (at h waiting position false) x ≡ or_else (or_else (settle_fault (rules names) false h) (use_fault false flag_one [] (settled (rules names) h).rows)) [])
    × (walked (rules names) [] (at h waiting position false) x ≡ at (reacted (rules names) flag_one [] h) idle position false)
flag_turn names h waiting position x name r e l missing same =
    long_turn names h waiting position x name None (Some flag_one) r e l (flag_is names name true missing same)

-- what `--name=value` does
pub has_turn : (names : List Text) (h : Held) (waiting : Waiting) (position : ℕ) (x name v : Text) → Reads waiting → bytes_eq x hyphens ≡ false → long_of x ≡ Some (name, Some v) → is_name names name ≡ true
    → (turn_fault (shape names) [] (at h waiting position false) x ≡ or_else (or_else (settle_fault (rules names) false h) (use_fault false (opt name) (v ∷ []) (settled (rules names) h).rows)) [])
    × (walked (rules names) [] (at h waiting position false) x ≡ at (reacted (rules names) (opt name) (v ∷ []) h) idle position false)
has_turn names h waiting position x name v r e l known =
    long_turn names h waiting position x name (Some v) (Some (opt name)) r e l (option_is names name known)

-- what `--name` does
pub takes_turn : (names : List Text) (h : Held) (waiting : Waiting) (position : ℕ) (x name : Text) → Reads waiting → bytes_eq x hyphens ≡ false → long_of x ≡ Some (name, None) → is_name names name ≡ true
    → (turn_fault (shape names) [] (at h waiting position false) x ≡ or_else (settle_fault (rules names) false h) [])
    × (walked (rules names) [] (at h waiting position false) x ≡ at (record (settled (rules names) h) { pending = Some (name, []) }) (option name) position false)
takes_turn names h waiting position x name r e l known =
    long_turn names h waiting position x name None (Some (opt name)) r e l (option_is names name known)

-- a word that begins with one hyphen
abbrev pub Spelled : Text → Type 0
Spelled x = (flags : Text) → short_of x ≡ Some flags → (c : ℕ) × (slice_get (chars flags) 0 ≡ Some c)

abbrev pub AllSpelled : List Text → Type 0
AllSpelled [] = Unit {0}
AllSpelled (w ∷ ws) = Spelled w × AllSpelled ws

bundle_refused : (names : List Text) (h : Held) (flags : Text) (c n : ℕ) → slice_get (chars flags) 0 ≡ Some c → h.skip ≡ 0 → length flags ≡ suc n → Refused (bundle_fault (rules names) false flags h)
unfolding flags_fault
bundle_refused names h flags c n first none long =
    let R = rules names in
    let one : bundle_fault R false flags h ≡ flags_fault R false (suc n) flags 0 (record h { skip = 0 }) =
    ap (λ (k : ℕ). flags_fault R false k flags h.skip (record h { skip = 0 })) long ∙ ap (λ (k : ℕ). flags_fault R false (suc n) flags k (record h { skip = 0 })) none in
    refused_at _ _ (one ∙ ap (λ (o : Option ℕ). bundle_step_fault R false o flags 0 (record h { skip = 0 }) (flags_fault R false n)) first
    ∙ ap (λ (o : Option Rule). short_fault R false o (drop (length (encode_utf8 c)) flags) (record h { skip = 0 }) (flags_fault R false n (drop (length (encode_utf8 c)) flags) 0)) (by_short names c))
    (cons_refused kind.UnknownArgument [])

some_refused : (names : List Text) (h : Held) (flags : Text) → (c : ℕ) × (slice_get (chars flags) 0 ≡ Some c) → h.skip ≡ 0 → Refused (bundle_fault (rules names) false flags h)
unfolding chars
some_refused names h [] c none = absurd (no_first c.0 c.1)
  where
    no_first : (c : ℕ) → slice_get {X = ℕ} [] 0 ≡ Some c → ⊥
    no_first c e = cc
some_refused names h (f ∷ fs) c none = bundle_refused names h (f ∷ fs) c.0 (length fs) c.1 none refl

pub short_turn : (names : List Text) (h : Held) (waiting : Waiting) (position : ℕ) (x flags : Text) → Reads waiting → bytes_eq x hyphens ≡ false → long_of x ≡ None → short_of x ≡ Some flags → Spelled x → h.skip ≡ 0
    → Refused (turn_fault (shape names) [] (at h waiting position false) x)
short_turn names h waiting position x flags r e l s spelled none =
    let c = spelled flags s in
    let same = turn-at names h waiting position x r ∙ ap (λ b. fault_at names h waiting position x b (long_of x)) e
    ∙ ap (fault_at names h waiting position x false) l in
    refused_at _ _ same (first_refused _ _
    (refused_at _ _ (ap (λ (o : Option Text). option_map_or (λ f. bundle_fault (rules names) false f h) o []) s) (some_refused names h flags c none)))

-- ---- a value of FILE

and_false : (b : Bool) (k : Kinds) → (if b && false then [] else k) ≡ k
and_false true k = refl
and_false false k = refl

or_nil : (k : Kinds) → or_else k [] ≡ k
or_nil [] = refl
or_nil (x ∷ xs) = refl

keep_or : (b : Bool) (h k : Held) → (if b && false then h else k) ≡ k
keep_or true h k = refl
keep_or false h k = refl

or_false : (b : Bool) → (b || false) ≡ b
or_false true = refl
or_false false = refl

-- the step of a word that goes to a positional
abbrev value_fault : List Text → ℕ → Held → Kinds
value_fault names position h = step_fault (shape names) position h value

abbrev value_walk : List Text → Held → Waiting → ℕ → Bool → Text → Walk
value_walk names h waiting position t x = after_step (rules names) x (at h waiting position t) h value

-- a word where FILE was given
pub second_value : (names : List Text) (h : Held) → Refused (value_fault names 2 h)
second_value names h =
    refused_at _ _ (ap (λ (o : Option Rule). option_map_or (λ a. positional_fault (rules names) false a h) o (stray_fault (shape names))) (by_second names)) (cons_refused kind.UnknownArgument [])

-- a word where FILE was not given
pub first_value_fault : (names : List Text) (h : Held) → value_fault names 1 h ≡ settle_fault (rules names) false h
first_value_fault names h =
    ap (λ (o : Option Rule). option_map_or (λ a. positional_fault (rules names) false a h) o (stray_fault (shape names))) (by_first names)
    ∙ and_false (is_pending file_one h.pending) (settle_fault (rules names) false h)

abbrev pub with_file : List Text → Held → Text → Held
with_file names h x = record (settled (rules names) h) { pending = Some (file, x ∷ []) }

pub first_value_walk : (names : List Text) (h : Held) (waiting : Waiting) (t : Bool) (x : Text) → value_walk names h waiting 1 t x ≡ at (with_file names h x) idle 2 t
first_value_walk names h waiting t x =
    ap (λ (o : Option Rule). to_positional (rules names) o x (at h waiting 1 t) h) (by_first names)
    ∙ ap (λ (k : Held). at (pushed file x k) idle 2 (t || false)) (keep_or (is_pending file_one h.pending) h (settled (rules names) h))
    ∙ ap (λ (b : Bool). at (with_file names h x) idle 2 b) (or_false t)

-- a word that is no flag, where nothing waits, is a value
pub plain_turn : (names : List Text) (h : Held) (position : ℕ) (x : Text) → bytes_eq x hyphens ≡ false → long_of x ≡ None → short_of x ≡ None
    → (turn_fault (shape names) [] (at h idle position false) x ≡ value_fault names position h) × (walked (rules names) [] (at h idle position false) x ≡ value_walk names h idle position false x)
plain_turn names h position x e l s = (
  turn-at names h idle position x r_idle ∙ ap (λ b. fault_at names h idle position x b (long_of x)) e
      ∙ ap (fault_at names h idle position x false) l
      ∙ ap (λ (o : Option Text). or_else (option_map_or (λ f. bundle_fault (rules names) false f h) o []) (step_fault (shape names) position (short_or_plain (rules names) idle x o h).0 (short_or_plain (rules names) idle x o h).1)) s,
  walked-at names h idle position x r_idle
      ∙ ap (λ b. after_step (rules names) x (at h idle position false) (met_at names h idle position x b (long_of x)).0 (met_at names h idle position x b (long_of x)).1) e
      ∙ ap (λ o. after_step (rules names) x (at h idle position false) (met_at names h idle position x false o).0 (met_at names h idle position x false o).1) l
      ∙ ap (λ (o : Option Text). after_step (rules names) x (at h idle position false) (short_or_plain (rules names) idle x o h).0 (short_or_plain (rules names) idle x o h).1) s,
)

-- after `--` each word is a value
pub trailing_turn : (names : List Text) (h : Held) (waiting : Waiting) (position : ℕ) (x : Text)
    → (turn_fault (shape names) [] (at h waiting position true) x ≡ value_fault names position h) × (walked (rules names) [] (at h waiting position true) x ≡ value_walk names h waiting position true x)
unfolding walked
trailing_turn names h waiting position x = (refl, refl)

-- ---- the value of an option

abbrev pub asking : List Use → Text → Held
asking us id = record { rows = rows us; pending = Some (id, []); skip = 0 }

abbrev pub answered : List Use → Text → Text → Held
answered us id x = record { rows = rows us; pending = Some (id, x ∷ []); skip = 0 }

pub value_turn : (names : List Text) (us : List Use) (id : Text) (position : ℕ) (x : Text) → is_name names id ≡ true → bytes_eq x hyphens ≡ false → long_of x ≡ None → short_of x ≡ None
    → (turn_fault (shape names) [] (at (asking us id) (option id) position false) x ≡ []) × (walked (rules names) [] (at (asking us id) (option id) position false) x ≡ at (answered us id x) idle position false)
value_turn names us id position x known e l s =
    let h = asking us id in
    let w = option id in
    let c = rules names in
    let P : Option Rule → Held × Step = λ o. ((option_word o id x h).0, next (option_word o id x h).1) in
    let T : Bool → Held × Step = λ b. (answered us id x, next (if nat_lt (if b then 1 else 0) 1 then w else idle)) in
    let met : plain_word c w x h ≡ T true = ap P (by_id names id known) ∙ ap T (text_own id) in (
      turn-at names h w position x (r_option id) ∙ ap (λ b. fault_at names h w position x b (long_of x)) e
          ∙ ap (fault_at names h w position x false) l
          ∙ ap (λ (o : Option Text). or_else (option_map_or (λ f. bundle_fault c false f h) o []) (step_fault (shape names) position (short_or_plain c w x o h).0 (short_or_plain c w x o h).1)) s
          ∙ ap (λ (m : Held × Step). step_fault (shape names) position m.0 m.1) met,
      walked-at names h w position x (r_option id)
          ∙ ap (λ b. after_step c x (at h w position false) (met_at names h w position x b (long_of x)).0 (met_at names h w position x b (long_of x)).1) e
          ∙ ap (λ o. after_step c x (at h w position false) (met_at names h w position x false o).0 (met_at names h w position x false o).1) l
          ∙ ap (λ (o : Option Text). after_step c x (at h w position false) (short_or_plain c w x o h).0 (short_or_plain c w x o h).1) s
          ∙ ap (λ (m : Held × Step). after_step c x (at h w position false) m.0 m.1) met,
    )
