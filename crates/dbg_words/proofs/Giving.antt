-- From clap's rows to what was given.
use Rattle.std.proofs.Common.{codes, ◌≡◌, ◌||◌, ◌++◌, Bool, true, false, true≢false, List, [], ◌∷◌, Option, Some, None, refl, sym, ap, ◌∙◌, subst}
use Rattle.std.specs.Prelude.{cond, find, option_map, option_and_then, slice_get, if◌then◌else◌}
use Rattle.std.specs.Str.{IsUtf8, bytes_eq}
use Rattle.std.specs.List.{All}
use Rattle.clap.specs.Walk.{Row, first_of, one_of, row_text}
use Rattle.clap.specs.Kinds.{Kinds}
use Rattle.dbg_words.specs.Command.{clap_faults, clap_rows}
use Rattle.dbg_words.specs.Uses.{Text, Use, log, set, is_given, option_names, uses_of}
use Rattle.dbg_words.specs.Words.{texts_of, value_in}
use Rattle.dbg_words.specs.Given.{FoundIn, IsFlag, IsGiven, given_texts}
use Rattle.dbg_words.specs.declared.given.Given.{Given}
use Rattle.dbg_words.proofs.Rules.{row, rows}
use Rattle.dbg_words.proofs.Known.{AllKnown, Each, Known}
use Rattle.dbg_words.proofs.Naming.{uses-known}
use Rattle.dbg_words.proofs.Whole.{Ends, all_spelled, clear, ended, whole}

abbrev first_text : Option Row → Option Text
first_text = option_and_then (λ r. slice_get r.values 0)

abbrev second_text : Option Use → Option Text
second_text = option_map (λ u. u.1)

abbrev flag_text : Option Row → Option Text
flag_text = option_and_then row_text

first_of-rows : (id : Text) (us : List Use) → first_of id (rows us) ≡ value_in id us
first_of-rows id [] = refl
first_of-rows id (u ∷ us) = go (bytes_eq u.0 id) (first_of-rows id us)
  where
    go : (b : Bool) → first_of id (rows us) ≡ value_in id us → first_text (cond b (Some (row u)) (find (λ (r : Row). bytes_eq r.id id) (rows us))) ≡ second_text (cond b (Some u) (find (λ (x : Use). bytes_eq x.0 id) us))
    go true r = refl
    go false r = r

first_of-clear : (id : Text) → bytes_eq log id ≡ false → (us : List Use) → first_of id (rows us ++ clear ∷ []) ≡ first_of id (rows us)
first_of-clear id other [] = ap (λ b. first_text (cond b (Some clear) None)) other
first_of-clear id other (u ∷ us) = go (bytes_eq u.0 id) (first_of-clear id other us)
  where
    go : (b : Bool) → first_of id (rows us ++ clear ∷ []) ≡ first_of id (rows us)
        → first_text (cond b (Some (row u)) (find (λ (r : Row). bytes_eq r.id id) (rows us ++ clear ∷ []))) ≡ first_text (cond b (Some (row u)) (find (λ (r : Row). bytes_eq r.id id) (rows us)))
    go true r = refl
    go false r = r

first_of-ended : (id : Text) → bytes_eq log id ≡ false → (us : List Use) → first_of id (ended us) ≡ value_in id us
first_of-ended id other us = go (is_given log us) ∙ first_of-rows id us
  where
    go : (b : Bool) → first_of id (if b then rows us else rows us ++ clear ∷ []) ≡ first_of id (rows us)
    go true = refl
    go false = first_of-clear id other us

flag_there : (ws : List Text) (us : List Use) → Each (Known ws) us → is_given log us ≡ true → one_of log (rows us) ≡ Some set
flag_there ws [] known e = absurd (true≢false (sym e))
flag_there ws (u ∷ us) known e = go (bytes_eq u.0 log) refl e (flag_there ws us known.1)
  where
    go : (b : Bool) → bytes_eq u.0 log ≡ b → (b || is_given log us) ≡ true → (is_given log us ≡ true → one_of log (rows us) ≡ Some set) → flag_text (cond b (Some (row u)) (find (λ (r : Row). bytes_eq r.id log) (rows us))) ≡ Some set
    go true is k rest = ap (λ v. Some v) (known.0.is_set is)
    go false is k rest = rest k

flag_away : (us : List Use) → is_given log us ≡ false → one_of log (rows us ++ clear ∷ []) ≡ Some (codes "false")
flag_away [] e = refl
flag_away (u ∷ us) e = go (bytes_eq u.0 log) e (flag_away us)
  where
    go : (b : Bool) → (b || is_given log us) ≡ false → (is_given log us ≡ false → one_of log (rows us ++ clear ∷ []) ≡ Some (codes "false"))
        → flag_text (cond b (Some (row u)) (find (λ (r : Row). bytes_eq r.id log) (rows us ++ clear ∷ []))) ≡ Some (codes "false")
    go true k rest = absurd (true≢false k)
    go false k rest = rest k

flag-ended : (ws : List Text) (us : List Use) (x b : Bool) → Each (Known ws) us → is_given log us ≡ b → IsFlag (one_of log (if b then rows us else rows us ++ clear ∷ [])) x → x ≡ b
flag-ended ws us x true known e f = f.is_set (flag_there ws us known e)
flag-ended ws us x false known e f = f.is_clear (flag_away us e)

gives : (ws : List Text) (us : List Use) (g : Given) → Each (Known ws) us → FoundIn (ended us) g → given_texts g ≡ texts_of us
gives ws us g known f =
    let harts = f.harts ∙ first_of-ended _ refl us in
    let workers = f.workers ∙ first_of-ended _ refl us in
    let slots = f.slots ∙ first_of-ended _ refl us in
    let budget = f.budget ∙ first_of-ended _ refl us in
    let slice = f.slice ∙ first_of-ended _ refl us in
    let gen = f.gen ∙ first_of-ended _ refl us in
    let check = f.check ∙ first_of-ended _ refl us in
    let name = f.file_is ∙ first_of-ended _ refl us in
    let has_log = flag-ended ws us g.has_log (is_given log us) known refl f.has_log in
    λ i. record {
      harts = harts i;
      workers = workers i;
      slots = slots i;
      budget = budget i;
      slice = slice i;
      gen = gen i;
      check = check i;
      file_is = name i;
      has_log = has_log i;
    }

refused_by : (k : Kinds) (r : List Row) (o : Option (List Use)) → Ends k r o → (k ≡ [] → ⊥) → o ≡ None
refused_by k r None m h = refl
refused_by k r (Some us) m h = absurd (h m.0)

accepted_by : (ws : List Text) (k : Kinds) (r : List Row) (o : Option (List Use)) → AllKnown ws o → Ends k r o → k ≡ [] → (g : Given) → FoundIn r g → IsGiven o g
accepted_by ws k r None known m e g f = absurd (m e)
accepted_by ws k r (Some us) known m e g f = let P : List Row → Type 0 = λ l. FoundIn l g in (us, refl, gives ws us g known (subst P m.1 f))

pub words_refused : (words : List Text) → All IsUtf8 words → (clap_faults words ≡ [] → ⊥) → uses_of option_names words ≡ None
words_refused words text h = refused_by _ _ _ (whole words (all_spelled words text)) h

pub words_accepted : (words : List Text) → All IsUtf8 words → clap_faults words ≡ [] → (r : List Row) → r ≡ clap_rows words → (g : Given) → FoundIn r g → IsGiven (uses_of option_names words) g
words_accepted words text none r is g f =
    let P : List Row → Type 0 = λ l. FoundIn l g in
    accepted_by words _ _ _ (uses-known words) (whole words (all_spelled words text)) none g (subst P is f)
