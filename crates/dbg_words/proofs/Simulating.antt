-- clap's walk gathers the uses that the definition has.
use Rattle.std.proofs.Common.{◌≡◌, ℕ, Bool, true, false, true≢false, ◌||◌, List, [], ◌∷◌, ◌++◌, Option, Some, None, refl, sym, ap, ◌∙◌, subst}
use Rattle.std.specs.Prelude.{if◌then◌else◌}
use Rattle.std.specs.Option.{option_map_or}
use Rattle.std.specs.Str.{bytes_eq}
use Rattle.clap.specs.Lexer.{long_of}
use Rattle.clap.specs.Walk.{Held, Row, Rule, Waiting, Walk, after_step, idle, option, reacted, settled, used, used_by_id, value, walked}
use Rattle.clap.specs.Faults.{settle_fault, step_fault, turn_fault, use_fault, walk_fault}
use Rattle.clap.specs.declared.error.kind.ErrorKind.TheVariants as kind
use Rattle.dbg_words.specs.Uses.{Text, Use, file, log, set, is_given, is_name}
use Rattle.dbg_words.proofs.Rules.{by_file, by_id, file_one, flag_fault-is, flag_one, one, opt, rows, rules, shape, text_same, use_fault-is, used-flag, used-new}
use Rattle.dbg_words.proofs.Running.{add, run, run_files}
use Rattle.dbg_words.proofs.Kinding.{Kind, k_ends, k_long, k_plain, k_short, kind_is}
use Rattle.dbg_words.proofs.Walking.{Matches, Reads, Refused, AllSpelled, answered, asking, at, cons_refused, end_refused, ends_turn, faults, flag_turn, flag_value_turn, first_refused, first_value_fault}
use Rattle.dbg_words.proofs.Walking.{first_value_walk, found, has_turn, plain_turn, r_idle, refused_at, second_value, short_turn, step_bad, step_ok, takes_turn, trailing_turn, unknown_turn, with_file}

-- the place of FILE that is next
abbrev pub place : Bool → ℕ
place given = if given then 2 else 1

-- the uses so far are those that are held, with the one that isn't settled yet
pub record Holds (names : List Text) (h : Held) (us : List Use) : Type 0 where
  pub skip : h.skip ≡ 0
  pub rows_are : (settled (rules names) h).rows ≡ rows us
  pub sound : settle_fault (rules names) false h ≡ []

-- what is held is refused when it is settled
abbrev pub Doomed : List Text → Held → Type 0
Doomed names h = Refused (settle_fault (rules names) false h)

is_given-push : (name : Text) (us : List Use) (u : Use) → is_given name (us ++ u ∷ []) ≡ (is_given name us || bytes_eq u.0 name)
is_given-push name [] u = go (bytes_eq u.0 name)
  where
    go : (b : Bool) → (b || false) ≡ b
    go true = refl
    go false = refl
is_given-push name (x ∷ us) u = ap (λ b. bytes_eq x.0 name || b) (is_given-push name us u) ∙ go (bytes_eq x.0 name) (is_given name us) (bytes_eq u.0 name)
  where
    go : (a b c : Bool) → (a || (b || c)) ≡ ((a || b) || c)
    go true b c = refl
    go false b c = refl

or_true : (b : Bool) → (b || true) ≡ true
or_true true = refl
or_true false = refl

or_false : (b : Bool) → (b || false) ≡ b
or_false true = refl
or_false false = refl

pub given_now : (us : List Use) (v : Text) → is_given file (us ++ (file, v) ∷ []) ≡ true
given_now us v = is_given-push file us (file, v) ∙ or_true (is_given file us)

not_file : (names : List Text) (name : Text) → is_name names file ≡ false → is_name names name ≡ true → bytes_eq name file ≡ false
not_file names name other known = go (bytes_eq name file) refl
  where
    go : (b : Bool) → bytes_eq name file ≡ b → b ≡ false
    go true e = absurd (true≢false (sym known ∙ ap (is_name names) (text_same name file e) ∙ other))
    go false e = refl

pub given_same : (names : List Text) (us : List Use) (name v : Text) → is_name names file ≡ false → is_name names name ≡ true → is_given file (us ++ (name, v) ∷ []) ≡ is_given file us
given_same names us name v other known =
    is_given-push file us (name, v) ∙ ap (λ b. is_given file us || b) (not_file names name other known) ∙ or_false (is_given file us)

pub given_flag : (us : List Use) → is_given file (us ++ (log, set) ∷ []) ≡ is_given file us
given_flag us = is_given-push file us (log, set) ∙ or_false (is_given file us)

-- ---- states

pub fault_new : (us : List Use) (id : Text) (long : Option Text) (index : Option ℕ) (v : Text) → is_given id us ≡ false → use_fault false (one id long index) (v ∷ []) (rows us) ≡ []
fault_new us id long index v new = use_fault-is id long index v us ∙ ap (λ b. if b then kind.ArgumentConflict ∷ [] else []) new

pub fault_again : (us : List Use) (id : Text) (long : Option Text) (index : Option ℕ) (v : Text) → is_given id us ≡ true → Refused (use_fault false (one id long index) (v ∷ []) (rows us))
fault_again us id long index v old =
    refused_at _ _ (use_fault-is id long index v us ∙ ap (λ b. if b then kind.ArgumentConflict ∷ [] else []) old) (cons_refused kind.ArgumentConflict [])

pub flag_again : (us : List Use) → is_given log us ≡ true → Refused (use_fault false flag_one [] (rows us))
flag_again us old =
    refused_at _ _ (flag_fault-is us ∙ ap (λ b. if b then kind.ArgumentConflict ∷ [] else []) old) (cons_refused kind.ArgumentConflict [])

-- after FILE's word
pub holds_file : (names : List Text) (h : Held) (us : List Use) (x : Text) → is_name names file ≡ false → Holds names h us → is_given file us ≡ false → Holds names (with_file names h x) (us ++ (file, x) ∷ [])
holds_file names h us x other k new = record {
  skip = k.skip;
  rows_are =
      ap (λ (o : Option Rule). used_by_id o (x ∷ []) (settled (rules names) h).rows) (by_file names other)
      ∙ ap (λ (r : List Row). used file_one (x ∷ []) r) k.rows_are
      ∙ used-new file None (Some 1) x us new;
  sound =
      ap (λ (o : Option Rule). option_map_or (λ a. use_fault false a (x ∷ []) (settled (rules names) h).rows) o []) (by_file names other)
      ∙ ap (λ (r : List Row). use_fault false file_one (x ∷ []) r) k.rows_are
      ∙ fault_new us file None (Some 1) x new;
}

-- after `--name=value`
pub holds_has : (names : List Text) (h : Held) (us : List Use) (name v : Text) → Holds names h us → is_given name us ≡ false → Holds names (reacted (rules names) (opt name) (v ∷ []) h) (us ++ (name, v) ∷ [])
holds_has names h us name v k new = record {
  skip = k.skip;
  rows_are = ap (λ (r : List Row). used (opt name) (v ∷ []) r) k.rows_are ∙ used-new name (Some name) None v us new;
  sound = refl;
}

-- after `--log`
pub holds_flag : (names : List Text) (h : Held) (us : List Use) → Holds names h us → is_given log us ≡ false → Holds names (reacted (rules names) flag_one [] h) (us ++ (log, set) ∷ [])
holds_flag names h us k new = record {
  skip = k.skip;
  rows_are = ap (λ (r : List Row). used flag_one [] r) k.rows_are ∙ used-flag us new;
  sound = refl;
}

-- after an option's value in a word of its own
pub holds_answered : (names : List Text) (us : List Use) (id x : Text) → is_name names id ≡ true → is_given id us ≡ false → Holds names (answered us id x) (us ++ (id, x) ∷ [])
holds_answered names us id x known new = record {
  skip = refl;
  rows_are = ap (λ (o : Option Rule). used_by_id o (x ∷ []) (rows us)) (by_id names id known) ∙ used-new id (Some id) None x us new;
  sound = ap (λ (o : Option Rule). option_map_or (λ a. use_fault false a (x ∷ []) (rows us)) o []) (by_id names id known) ∙ fault_new us id (Some id) None x new;
}

pub doomed_answered : (names : List Text) (us : List Use) (id x : Text) → is_name names id ≡ true → is_given id us ≡ true → Doomed names (answered us id x)
doomed_answered names us id x known old =
    refused_at _ _ (ap (λ (o : Option Rule). option_map_or (λ a. use_fault false a (x ∷ []) (rows us)) o []) (by_id names id known)) (fault_again us id (Some id) None x old)

-- an option whose value is missing
pub doomed_asking : (names : List Text) (us : List Use) (id : Text) → is_name names id ≡ true → Doomed names (asking us id)
doomed_asking names us id known =
    refused_at _ _ (ap (λ (o : Option Rule). option_map_or (λ a. use_fault false a [] (rows us)) o []) (by_id names id known)) (cons_refused kind.InvalidValue [])

-- ---- what is doomed is refused

doomed_value : (names : List Text) (h : Held) (given : Bool) → Doomed names h → Refused (step_fault (shape names) (place given) h value)
doomed_value names h true d = second_value names h
doomed_value names h false d = refused_at _ _ (first_value_fault names h) d

pub doomed_trailing : (names : List Text) (ws : List Text) (h : Held) (waiting : Waiting) (given : Bool) → Doomed names h → Refused (faults names (at h waiting (place given) true) ws)
doomed_trailing names [] h waiting given d = end_refused names (at h waiting (place given) true) d
doomed_trailing names (x ∷ xs) h waiting given d =
    step_bad names (at h waiting (place given) true) x xs (refused_at _ _ (trailing_turn names h waiting (place given) x).0 (doomed_value names h given d))

-- a long option where what is held is doomed
doomed_other : (names : List Text) (h : Held) (waiting : Waiting) (position : ℕ) (x name : Text) (v : Option Text) (b : Bool) → Reads waiting
    → Doomed names h → bytes_eq x (45 ∷ 45 ∷ []) ≡ false → long_of x ≡ Some (name, v) → is_name names name ≡ false → bytes_eq log name ≡ b
    → Refused (turn_fault (shape names) [] (at h waiting position false) x)
doomed_other names h waiting position x name v false r d e l missing is = unknown_turn names h waiting position x name v r e l missing is
doomed_other names h waiting position x name (Some v) true r d e l missing is = flag_value_turn names h waiting position x name v r e l missing is
doomed_other names h waiting position x name None true r d e l missing is =
    refused_at _ _ (flag_turn names h waiting position x name r e l missing is).0 (first_refused _ _ (first_refused _ _ d))

pub doomed_long : (names : List Text) (h : Held) (waiting : Waiting) (position : ℕ) (x name : Text) (v : Option Text) (b : Bool) → Reads waiting
    → Doomed names h → bytes_eq x (45 ∷ 45 ∷ []) ≡ false → long_of x ≡ Some (name, v) → is_name names name ≡ b
    → Refused (turn_fault (shape names) [] (at h waiting position false) x)
doomed_long names h waiting position x name v false r d e l is = doomed_other names h waiting position x name v (bytes_eq log name) r d e l is refl
doomed_long names h waiting position x name (Some v) true r d e l is =
    refused_at _ _ (has_turn names h waiting position x name v r e l is).0 (first_refused _ _ (first_refused _ _ d))
doomed_long names h waiting position x name None true r d e l is =
    refused_at _ _ (takes_turn names h waiting position x name r e l is).0 (first_refused _ _ d)

pub doomed_idle : (names : List Text) (ws : List Text) (h : Held) (given : Bool) → AllSpelled ws → h.skip ≡ 0 → Doomed names h → Refused (faults names (at h idle (place given) false) ws)
doomed_idle names [] h given spelled none d = end_refused names (at h idle (place given) false) d
doomed_idle names (x ∷ xs) h given spelled none d = go (kind_is names x)
  where
    w : Walk
    w = at h idle (place given) false

    go : Kind names x → Refused (faults names w (x ∷ xs))
    go (k_ends e is) =
        let t = ends_turn names h idle (place given) x r_idle e in
        step_ok names w (at h idle (place given) true) x xs None t.0 t.1 (doomed_trailing names xs h idle given d)
    go (k_long name v e l is) = step_bad names w x xs (doomed_long names h idle (place given) x name v (is_name names name) r_idle d e l refl)
    go (k_short flags e l s is) = step_bad names w x xs (short_turn names h idle (place given) x flags r_idle e l s spelled.0 none)
    go (k_plain e l s is) = step_bad names w x xs (refused_at _ _ (plain_turn names h (place given) x e l s).0 (doomed_value names h given d))

-- ---- what is sound goes on as the definition does

abbrev pub refused_uses : Option (List Use)
refused_uses = None

-- at the end of the words
pub end_sound : (names : List Text) (h : Held) (us : List Use) (waiting : Waiting) (position : ℕ) (t : Bool) → Holds names h us → Matches (faults names (at h waiting position t) []) (found names (at h waiting position t) []) (Some us)
unfolding faults found walk_fault
end_sound names h us waiting position t k = (k.sound, k.rows_are)

-- a word of FILE
pub file_step : (names : List Text) (h : Held) (us : List Use) (t : Bool) (x : Text) (xs : List Text) (next : List Use → Option (List Use)) → Holds names h us
    → (turn_fault (shape names) [] (at h idle (place (is_given file us)) t) x ≡ step_fault (shape names) (place (is_given file us)) h value)
    → (walked (rules names) [] (at h idle (place (is_given file us)) t) x ≡ after_step (rules names) x (at h idle (place (is_given file us)) t) h value)
    → (is_given file us ≡ false → Matches (faults names (at (with_file names h x) idle 2 t) xs) (found names (at (with_file names h x) idle 2 t) xs) (next (us ++ (file, x) ∷ [])))
    → Matches (faults names (at h idle (place (is_given file us)) t) (x ∷ xs)) (found names (at h idle (place (is_given file us)) t) (x ∷ xs)) (add us (file, x) next)
file_step names h us t x xs next k turn walk rest = go (is_given file us) turn walk rest
  where
    go : (b : Bool)
        → (turn_fault (shape names) [] (at h idle (place b) t) x ≡ step_fault (shape names) (place b) h value)
        → (walked (rules names) [] (at h idle (place b) t) x ≡ after_step (rules names) x (at h idle (place b) t) h value)
        → (b ≡ false → Matches (faults names (at (with_file names h x) idle 2 t) xs) (found names (at (with_file names h x) idle 2 t) xs) (next (us ++ (file, x) ∷ [])))
        → Matches (faults names (at h idle (place b) t) (x ∷ xs)) (found names (at h idle (place b) t) (x ∷ xs)) (if b then refused_uses else next (us ++ (file, x) ∷ []))
    go true f w r = step_bad names (at h idle 2 t) x xs (refused_at _ _ f (second_value names h))
    go false f w r =
        step_ok names (at h idle 1 t) (at (with_file names h x) idle 2 t) x xs (next (us ++ (file, x) ∷ []))
        (f ∙ first_value_fault names h ∙ k.sound) (w ∙ first_value_walk names h idle t x) (r refl)

-- a state may be given at any place that is the same
pub moved : (names : List Text) (h : Held) (t : Bool) (p q : ℕ) (xs : List Text) (o : Option (List Use)) → p ≡ q
    → Matches (faults names (at h idle p t) xs) (found names (at h idle p t) xs) o → Matches (faults names (at h idle q t) xs) (found names (at h idle q t) xs) o
moved names h t p q xs o same m = let P : ℕ → Type 0 = λ n. Matches (faults names (at h idle n t) xs) (found names (at h idle n t) xs) o in subst P same m

pub trailing_sim : (names : List Text) → is_name names file ≡ false → (ws : List Text) (h : Held) (us : List Use) → Holds names h us
    → Matches (faults names (at h idle (place (is_given file us)) true) ws) (found names (at h idle (place (is_given file us)) true) ws) (run_files us ws)
trailing_sim names other [] h us k = end_sound names h us idle (place (is_given file us)) true k
trailing_sim names other (x ∷ xs) h us k =
    let t = trailing_turn names h idle (place (is_given file us)) x in
    file_step names h us true x xs (λ now. run_files now xs) k t.0 t.1
    (λ new. moved names (with_file names h x) true (place (is_given file (us ++ (file, x) ∷ []))) 2 xs (run_files (us ++ (file, x) ∷ []) xs) (ap place (given_now us x))
    (trailing_sim names other xs (with_file names h x) (us ++ (file, x) ∷ []) (holds_file names h us x other k new)))

pub record Sim (names : List Text) (ws : List Text) : Type 0 where
  pub at_idle : (h : Held) (us : List Use) → Holds names h us
      → Matches (faults names (at h idle (place (is_given file us)) false) ws) (found names (at h idle (place (is_given file us)) false) ws) (run names us None ws)
  pub at_option : (us : List Use) (id : Text) → is_name names id ≡ true
      → Matches (faults names (at (asking us id) (option id) (place (is_given file us)) false) ws) (found names (at (asking us id) (option id) (place (is_given file us)) false) ws) (run names us (Some id) ws)
