-- clap's walk gathers the uses that the definition has: step by step.
use Rattle.std.proofs.Common.{◌≡◌, ℕ, Bool, true, false, List, [], ◌∷◌, ◌++◌, Option, Some, None, refl, sym, ap, ◌∙◌, subst}
use Rattle.std.specs.Prelude.{if◌then◌else◌}
use Rattle.std.specs.Str.{bytes_eq}
use Rattle.clap.specs.Lexer.{long_of, short_of}
use Rattle.clap.specs.Walk.{Held, Row, idle, option, reacted, settled, value}
use Rattle.clap.specs.Faults.{use_fault}
use Rattle.clap.specs.Kinds.{Kinds, or_else}
use Rattle.clap.specs.declared.error.kind.ErrorKind.TheVariants as kind
use Rattle.dbg_words.specs.Uses.{Text, Use, Word, takes, flag, has, unknown, file, log, set, is_given, is_name, named}
use Rattle.dbg_words.proofs.Rules.{flag_fault-is, flag_one, opt, rows, rules}
use Rattle.dbg_words.proofs.Running.{add, run, run_files, run_value, run_word}
use Rattle.dbg_words.proofs.Kinding.{Kind, k_ends, k_long, k_plain, k_short, kind_is}
use Rattle.dbg_words.proofs.Walking.{Matches, AllSpelled, answered, asking, at, end_refused, ends_turn, faults, flag_turn, flag_value_turn, first_refused, found, has_turn}
use Rattle.dbg_words.proofs.Walking.{plain_turn, r_idle, r_option, refused_at, second_refused, short_turn, step_bad, step_ok, takes_turn, unknown_turn, value_turn, with_file}
use Rattle.dbg_words.proofs.Simulating.{place, Holds, given_now, given_same, given_flag, fault_new, fault_again, flag_again, holds_file, holds_has, holds_flag, holds_answered}
use Rattle.dbg_words.proofs.Simulating.{doomed_answered, doomed_asking, doomed_trailing, doomed_long, doomed_idle, refused_uses, end_sound, file_step, moved, trailing_sim, Sim}

-- ---- the induction

-- a name that is no option's with a value
abbrev other_word : Bool → Option Text → Word
other_word b None = if b then flag else unknown
other_word b (Some v) = unknown

named_takes : (names : List Text) (name : Text) → is_name names name ≡ true → named names name None ≡ takes name
named_takes names name known = ap (λ b. if b then takes name else other_word (bytes_eq log name) None) known

named_has : (names : List Text) (name v : Text) → is_name names name ≡ true → named names name (Some v) ≡ has name v
named_has names name v known = ap (λ b. if b then has name v else unknown) known

named_other : (names : List Text) (name : Text) (v : Option Text) (b : Bool) → is_name names name ≡ false → bytes_eq log name ≡ b → named names name v ≡ other_word b v
named_other names name None b missing is = ap (λ c. if c then takes name else other_word (bytes_eq log name) None) missing ∙ ap (λ c. other_word c None) is
named_other names name (Some v) b missing is = ap (λ c. if c then has name v else unknown) missing

named_value : (names : List Text) (name : Text) (v : Option Text) (next : Option (List Use)) → run_value (named names name v) next ≡ refused_uses
named_value names name None next = go (is_name names name) (bytes_eq log name)
  where
    go : (b c : Bool) → run_value (if b then takes name else (if c then flag else unknown)) next ≡ refused_uses
    go true c = refl
    go false true = refl
    go false false = refl
named_value names name (Some v) next = go (is_name names name)
  where
    go : (b : Bool) → run_value (if b then has name v else unknown) next ≡ refused_uses
    go true = refl
    go false = refl

both_none : (a b : Kinds) → a ≡ [] → b ≡ [] → or_else (or_else a b) [] ≡ []
both_none a b none nothing = ap (λ k. or_else (or_else k b) []) none ∙ ap (λ k. or_else k []) nothing

idle_end : (names : List Text) (h : Held) (us : List Use) → Holds names h us → Matches (faults names (at h idle (place (is_given file us)) false) []) (found names (at h idle (place (is_given file us)) false) []) (run names us None [])
unfolding run
idle_end names h us k = end_sound names h us idle (place (is_given file us)) false k

option_end : (names : List Text) (us : List Use) (id : Text) → is_name names id ≡ true
    → Matches (faults names (at (asking us id) (option id) (place (is_given file us)) false) [])
    (found names (at (asking us id) (option id) (place (is_given file us)) false) []) (run names us (Some id) [])
unfolding run
option_end names us id known = end_refused names (at (asking us id) (option id) (place (is_given file us)) false) (doomed_asking names us id known)

-- `--name=value`
has_step : (names : List Text) → is_name names file ≡ false → (x : Text) (xs : List Text) → Sim names xs → (h : Held) (us : List Use)
    → Holds names h us → (name v : Text) → bytes_eq x (45 ∷ 45 ∷ []) ≡ false → long_of x ≡ Some (name, Some v) → is_name names name ≡ true
    → Matches (faults names (at h idle (place (is_given file us)) false) (x ∷ xs)) (found names (at h idle (place (is_given file us)) false) (x ∷ xs)) (add us (name, v) (λ now. run names now None xs))
has_step names other x xs rec h us k name v e l known = go (is_given name us) refl
  where
    p : ℕ
    p = place (is_given file us)

    go : (b : Bool) → is_given name us ≡ b → Matches (faults names (at h idle (place (is_given file us)) false) (x ∷ xs))
        (found names (at h idle (place (is_given file us)) false) (x ∷ xs)) (if b then refused_uses else run names (us ++ (name, v) ∷ []) None xs)
    go true old = step_bad names (at h idle (place (is_given file us)) false) x xs
        (refused_at _ _ (has_turn names h idle (place (is_given file us)) x name v r_idle e l known).0
        (first_refused _ _ (second_refused _ _ (refused_at _ _ (ap (λ (r : List Row). use_fault false (opt name) (v ∷ []) r) k.rows_are) (fault_again us name (Some name) None v old)))))
    go false new =
        let t = has_turn names h idle (place (is_given file us)) x name v r_idle e l known in
        let now = reacted (rules names) (opt name) (v ∷ []) h in
        step_ok names (at h idle (place (is_given file us)) false) (at now idle (place (is_given file us)) false) x xs (run names (us ++ (name, v) ∷ []) None xs)
        (t.0 ∙ both_none _ _ k.sound (ap (λ (r : List Row). use_fault false (opt name) (v ∷ []) r) k.rows_are ∙ fault_new us name (Some name) None v new))
        t.1
        (moved names now false (place (is_given file (us ++ (name, v) ∷ []))) (place (is_given file us)) xs (run names (us ++ (name, v) ∷ []) None xs) (ap place (given_same names us name v other known))
        (rec.at_idle now (us ++ (name, v) ∷ []) (holds_has names h us name v k new)))

-- `--name`
takes_step : (names : List Text) (x : Text) (xs : List Text) → Sim names xs → (h : Held) (us : List Use) → Holds names h us → (name : Text) → bytes_eq x (45 ∷ 45 ∷ []) ≡ false → long_of x ≡ Some (name, None) → is_name names name ≡ true
    → Matches (faults names (at h idle (place (is_given file us)) false) (x ∷ xs)) (found names (at h idle (place (is_given file us)) false) (x ∷ xs)) (run names us (Some name) xs)
takes_step names x xs rec h us k name e l known =
    let t = takes_turn names h idle (place (is_given file us)) x name r_idle e l known in
    let p = place (is_given file us) in
    let same : at (record (settled (rules names) h) { pending = Some (name, []) }) (option name) p false ≡ at (asking us name) (option name) p false =
    λ i. at (record { rows = k.rows_are i; pending = Some (name, []); skip = k.skip i }) (option name) p false in
    step_ok names (at h idle p false) (at (asking us name) (option name) p false) x xs (run names us (Some name) xs)
    (t.0 ∙ ap (λ r. or_else r []) k.sound) (t.1 ∙ same) (rec.at_option us name known)

-- `--log`
flag_step : (names : List Text) (x : Text) (xs : List Text) → Sim names xs → (h : Held) (us : List Use) → Holds names h us → (name : Text)
    → bytes_eq x (45 ∷ 45 ∷ []) ≡ false → long_of x ≡ Some (name, None) → is_name names name ≡ false → bytes_eq log name ≡ true
    → Matches (faults names (at h idle (place (is_given file us)) false) (x ∷ xs)) (found names (at h idle (place (is_given file us)) false) (x ∷ xs)) (add us (log, set) (λ now. run names now None xs))
flag_step names x xs rec h us k name e l missing same = go (is_given log us) refl
  where
    go : (b : Bool) → is_given log us ≡ b → Matches (faults names (at h idle (place (is_given file us)) false) (x ∷ xs))
        (found names (at h idle (place (is_given file us)) false) (x ∷ xs)) (if b then refused_uses else run names (us ++ (log, set) ∷ []) None xs)
    go true old = step_bad names (at h idle (place (is_given file us)) false) x xs
        (refused_at _ _ (flag_turn names h idle (place (is_given file us)) x name r_idle e l missing same).0
        (first_refused _ _ (second_refused _ _ (refused_at _ _ (ap (λ (r : List Row). use_fault false flag_one [] r) k.rows_are) (flag_again us old)))))
    go false new =
        let t = flag_turn names h idle (place (is_given file us)) x name r_idle e l missing same in
        let now = reacted (rules names) flag_one [] h in
        step_ok names (at h idle (place (is_given file us)) false) (at now idle (place (is_given file us)) false) x xs (run names (us ++ (log, set) ∷ []) None xs)
        (t.0 ∙ both_none _ _ k.sound (ap (λ (r : List Row). use_fault false flag_one [] r) k.rows_are ∙ flag_fault-is us ∙ ap (λ b. if b then kind.ArgumentConflict ∷ [] else []) new))
        t.1
        (moved names now false (place (is_given file (us ++ (log, set) ∷ []))) (place (is_given file us)) xs (run names (us ++ (log, set) ∷ []) None xs) (ap place (given_flag us))
        (rec.at_idle now (us ++ (log, set) ∷ []) (holds_flag names h us k new)))

-- a long option that is no option with a value
other_step : (names : List Text) (x : Text) (xs : List Text) → Sim names xs → (h : Held) (us : List Use) → Holds names h us
    → (name : Text) (v : Option Text) (b : Bool) → bytes_eq x (45 ∷ 45 ∷ []) ≡ false → long_of x ≡ Some (name, v) → is_name names name ≡ false → bytes_eq log name ≡ b
    → Matches (faults names (at h idle (place (is_given file us)) false) (x ∷ xs)) (found names (at h idle (place (is_given file us)) false) (x ∷ xs))
    (run_word (other_word b v) x us (run_files us xs) (λ now. run names now None xs) (λ n. run names us (Some n) xs))
other_step names x xs rec h us k name None true e l missing same = flag_step names x xs rec h us k name e l missing same
other_step names x xs rec h us k name None false e l missing same =
    step_bad names (at h idle (place (is_given file us)) false) x xs (unknown_turn names h idle (place (is_given file us)) x name None r_idle e l missing same)
other_step names x xs rec h us k name (Some v) true e l missing same =
    step_bad names (at h idle (place (is_given file us)) false) x xs (flag_value_turn names h idle (place (is_given file us)) x name v r_idle e l missing same)
other_step names x xs rec h us k name (Some v) false e l missing same =
    step_bad names (at h idle (place (is_given file us)) false) x xs (unknown_turn names h idle (place (is_given file us)) x name (Some v) r_idle e l missing same)

-- any long option
long_step : (names : List Text) → is_name names file ≡ false → (x : Text) (xs : List Text) → Sim names xs → (h : Held) (us : List Use)
    → Holds names h us → (name : Text) (v : Option Text) (b : Bool) → bytes_eq x (45 ∷ 45 ∷ []) ≡ false → long_of x ≡ Some (name, v) → is_name names name ≡ b
    → Matches (faults names (at h idle (place (is_given file us)) false) (x ∷ xs)) (found names (at h idle (place (is_given file us)) false) (x ∷ xs))
    (run_word (named names name v) x us (run_files us xs) (λ now. run names now None xs) (λ n. run names us (Some n) xs))
long_step names other x xs rec h us k name v b e l is =
    go v b l is
  where
    go : (v : Option Text) (b : Bool) → long_of x ≡ Some (name, v) → is_name names name ≡ b
        → Matches (faults names (at h idle (place (is_given file us)) false) (x ∷ xs))
        (found names (at h idle (place (is_given file us)) false) (x ∷ xs))
        (run_word (named names name v) x us (run_files us xs) (λ now. run names now None xs) (λ n. run names us (Some n) xs))
    go v false l is =
        let Q : Word → Type 0 = λ y. Matches (faults names (at h idle (place (is_given file us)) false) (x ∷ xs))
        (found names (at h idle (place (is_given file us)) false) (x ∷ xs))
        (run_word y x us (run_files us xs) (λ now. run names now None xs) (λ n. run names us (Some n) xs)) in
        subst Q (sym (named_other names name v (bytes_eq log name) is refl)) (other_step names x xs rec h us k name v (bytes_eq log name) e l is refl)
    go (Some val) true l is =
        let Q : Word → Type 0 = λ y. Matches (faults names (at h idle (place (is_given file us)) false) (x ∷ xs))
        (found names (at h idle (place (is_given file us)) false) (x ∷ xs))
        (run_word y x us (run_files us xs) (λ now. run names now None xs) (λ n. run names us (Some n) xs)) in
        subst Q (sym (named_has names name val is)) (has_step names other x xs rec h us k name val e l is)
    go None true l is =
        let Q : Word → Type 0 = λ y. Matches (faults names (at h idle (place (is_given file us)) false) (x ∷ xs))
        (found names (at h idle (place (is_given file us)) false) (x ∷ xs))
        (run_word y x us (run_files us xs) (λ now. run names now None xs) (λ n. run names us (Some n) xs)) in
        subst Q (sym (named_takes names name is)) (takes_step names x xs rec h us k name e l is)

idle_step : (names : List Text) → is_name names file ≡ false → (x : Text) (xs : List Text) → AllSpelled (x ∷ xs) → Sim names xs → (h : Held) (us : List Use) → Holds names h us → Kind names x
    → Matches (faults names (at h idle (place (is_given file us)) false) (x ∷ xs)) (found names (at h idle (place (is_given file us)) false) (x ∷ xs)) (run names us None (x ∷ xs))
unfolding run
idle_step names other x xs spelled rec h us k kind =
    elim kind [
      | k_ends e is ↦
          let t = ends_turn names h idle (place (is_given file us)) x r_idle e in
          let Q : Word → Type 0 = λ y. Matches (faults names (at h idle (place (is_given file us)) false) (x ∷ xs))
          (found names (at h idle (place (is_given file us)) false) (x ∷ xs))
          (run_word y x us (run_files us xs) (λ now. run names now None xs) (λ n. run names us (Some n) xs)) in
          subst Q (sym is) (step_ok names (at h idle (place (is_given file us)) false) (at h idle (place (is_given file us)) true) x xs (run_files us xs) t.0 t.1 (trailing_sim names other xs h us k))
      | k_long name v e l is ↦
          let Q : Word → Type 0 = λ y. Matches (faults names (at h idle (place (is_given file us)) false) (x ∷ xs))
          (found names (at h idle (place (is_given file us)) false) (x ∷ xs))
          (run_word y x us (run_files us xs) (λ now. run names now None xs) (λ n. run names us (Some n) xs)) in
          subst Q (sym is) (long_step names other x xs rec h us k name v (is_name names name) e l refl)
      | k_short flags e l s is ↦
          let Q : Word → Type 0 = λ y. Matches (faults names (at h idle (place (is_given file us)) false) (x ∷ xs))
          (found names (at h idle (place (is_given file us)) false) (x ∷ xs))
          (run_word y x us (run_files us xs) (λ now. run names now None xs) (λ n. run names us (Some n) xs)) in
          subst Q (sym is) (step_bad names (at h idle (place (is_given file us)) false) x xs (short_turn names h idle (place (is_given file us)) x flags r_idle e l s spelled.0 k.skip))
      | k_plain e l s is ↦
          let t = plain_turn names h (place (is_given file us)) x e l s in
          let Q : Word → Type 0 = λ y. Matches (faults names (at h idle (place (is_given file us)) false) (x ∷ xs))
          (found names (at h idle (place (is_given file us)) false) (x ∷ xs))
          (run_word y x us (run_files us xs) (λ now. run names now None xs) (λ n. run names us (Some n) xs)) in
          subst Q (sym is) (file_step names h us false x xs (λ now. run names now None xs) k t.0 t.1
          (λ new. moved names (with_file names h x) false (place (is_given file (us ++ (file, x) ∷ []))) 2 xs (run names (us ++ (file, x) ∷ []) None xs) (ap place (given_now us x))
          (rec.at_idle (with_file names h x) (us ++ (file, x) ∷ []) (holds_file names h us x other k new))))
    ]

-- a word that may be the value of an option
answer_step : (names : List Text) → is_name names file ≡ false → (x : Text) (xs : List Text) → AllSpelled xs → Sim names xs
    → (us : List Use) (id : Text) → is_name names id ≡ true → bytes_eq x (45 ∷ 45 ∷ []) ≡ false → long_of x ≡ None → short_of x ≡ None → (b : Bool) → is_given id us ≡ b
    → Matches (faults names (at (asking us id) (option id) (place (is_given file us)) false) (x ∷ xs))
    (found names (at (asking us id) (option id) (place (is_given file us)) false) (x ∷ xs)) (if b then refused_uses else run names (us ++ (id, x) ∷ []) None xs)
answer_step names other x xs spelled rec us id known e l s true old =
    let p = place (is_given file us) in
    let t = value_turn names us id p x known e l s in
    step_ok names (at (asking us id) (option id) p false) (at (answered us id x) idle p false) x xs refused_uses t.0 t.1
    (doomed_idle names xs (answered us id x) (is_given file us) spelled refl (doomed_answered names us id x known old))
answer_step names other x xs spelled rec us id known e l s false new =
    let p = place (is_given file us) in
    let t = value_turn names us id p x known e l s in
    step_ok names (at (asking us id) (option id) p false) (at (answered us id x) idle p false) x xs (run names (us ++ (id, x) ∷ []) None xs) t.0 t.1
    (moved names (answered us id x) false (place (is_given file (us ++ (id, x) ∷ []))) p xs (run names (us ++ (id, x) ∷ []) None xs) (ap place (given_same names us id x other known))
    (rec.at_idle (answered us id x) (us ++ (id, x) ∷ []) (holds_answered names us id x known new)))

option_step : (names : List Text) → is_name names file ≡ false → (x : Text) (xs : List Text) → AllSpelled (x ∷ xs) → Sim names xs → (us : List Use) (id : Text) → is_name names id ≡ true → Kind names x
    → Matches (faults names (at (asking us id) (option id) (place (is_given file us)) false) (x ∷ xs)) (found names (at (asking us id) (option id) (place (is_given file us)) false) (x ∷ xs)) (run names us (Some id) (x ∷ xs))
unfolding run
option_step names other x xs spelled rec us id known kind =
    elim kind [
      | k_ends e is ↦
          let p = place (is_given file us) in
          let t = ends_turn names (asking us id) (option id) p x (r_option id) e in
          let Q : Word → Type 0 = λ y. Matches (faults names (at (asking us id) (option id) (place (is_given file us)) false) (x ∷ xs))
          (found names (at (asking us id) (option id) (place (is_given file us)) false) (x ∷ xs)) (run_value y (add us (id, x) (λ now. run names now None xs))) in
          subst Q (sym is) (step_ok names (at (asking us id) (option id) p false) (at (asking us id) (option id) p true) x xs refused_uses t.0 t.1
          (doomed_trailing names xs (asking us id) (option id) (is_given file us) (doomed_asking names us id known)))
      | k_long name v e l is ↦
          let p = place (is_given file us) in
          let Q : Option (List Use) → Type 0 = λ o. Matches (faults names (at (asking us id) (option id) (place (is_given file us)) false) (x ∷ xs))
          (found names (at (asking us id) (option id) (place (is_given file us)) false) (x ∷ xs)) o in
          subst Q (sym (ap (λ y. run_value y (add us (id, x) (λ now. run names now None xs))) is ∙ named_value names name v (add us (id, x) (λ now. run names now None xs))))
          (step_bad names (at (asking us id) (option id) p false) x xs (doomed_long names (asking us id) (option id) p x name v (is_name names name) (r_option id) (doomed_asking names us id known) e l refl))
      | k_short flags e l s is ↦
          let p = place (is_given file us) in
          let Q : Word → Type 0 = λ y. Matches (faults names (at (asking us id) (option id) (place (is_given file us)) false) (x ∷ xs))
          (found names (at (asking us id) (option id) (place (is_given file us)) false) (x ∷ xs)) (run_value y (add us (id, x) (λ now. run names now None xs))) in
          subst Q (sym is) (step_bad names (at (asking us id) (option id) p false) x xs (short_turn names (asking us id) (option id) p x flags (r_option id) e l s spelled.0 refl))
      | k_plain e l s is ↦
          let Q : Word → Type 0 = λ y. Matches (faults names (at (asking us id) (option id) (place (is_given file us)) false) (x ∷ xs))
          (found names (at (asking us id) (option id) (place (is_given file us)) false) (x ∷ xs)) (run_value y (add us (id, x) (λ now. run names now None xs))) in
          subst Q (sym is) (answer_step names other x xs spelled.1 rec us id known e l s (is_given id us) refl)
    ]

pub sim : (names : List Text) → is_name names file ≡ false → (ws : List Text) → AllSpelled ws → Sim names ws
sim names other [] spelled = record { at_idle = idle_end names; at_option = option_end names }
sim names other (x ∷ xs) spelled =
    let rec = sim names other xs spelled.1 in
    record {
      at_idle = λ h us k. idle_step names other x xs spelled rec h us k (kind_is names x);
      at_option = λ us id known. option_step names other x xs spelled rec us id known (kind_is names x);
    }
