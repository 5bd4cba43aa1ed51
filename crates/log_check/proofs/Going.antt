-- The instructions of an entry, one by one, and the entries of a journal, one behind another.
use Rattle.std.proofs.Common.{◌≡◌, ℕ, zero, suc, ◌+◌, ◌-◌, ◌≤◌, ◌<◌, Bool, true, false, cond, List, [], ◌∷◌, ◌++◌, length, refl, sym, ap, ◌∙◌, subst, arith, append_assoc, nat_lt, eq-eqb}
use Rattle.std.specs.Prelude.{◌==◌, Option, Some, None, Ok, IsSome, option_and_then, unwrap_or}
use Rattle.std.specs.Option.{option_map}
use Rattle.std.proofs.lemmas.Bool.Decides.{nat_tests}
use mathlib.Core.List.{append-nil}
use Rattle.dbg_model.specs.declared.entry.Entry.{Entry}
use Rattle.dbg_model.specs.declared.entry.Entry.TheVariants.{Ran, Counted, Stopped, Left, Did, Poked}
use Rattle.dbg_model.specs.declared.opening.Opening.{Opening}
use Rattle.dbg_model.specs.declared.shown.Shown.{Shown}
use Rattle.dbg_model.specs.State.{State}
use Rattle.dbg_model.specs.Lawful.{enter, one, ran}
use Rattle.dbg_model.specs.Journals.{Place, come, follows, noted_one, replay, replay_from, first_place}
use Rattle.dbg_model.specs.Shown.{shown_of}
use Rattle.dbg_model.proofs.Options.{guard_some, map_some, same_some}
use Rattle.replay_parts.specs.Further.{lengthen}
use Rattle.dbg_replay.specs.Standing.{Standing, Takes}
use Rattle.log_check.specs.declared.hearing.Hearing.{Hearing}
use Rattle.log_check.specs.declared.verdict.CheckVerdict.{CheckVerdict}
use Rattle.log_check.specs.declared.verdict.CheckVerdict.TheVariants.{Accepted, Unlawful, Differs}
use Rattle.log_check.specs.Speech.{CanShow, Voice, entry_text, instruction_text, is_one, ran_text, speech, text_from}
use Rattle.log_check.specs.Verdict.{Checked, IsFirstUnlawful, IsLawful, Told}
use Rattle.log_check.specs.Agreeing.{Agrees, AgreesBy, GoesOn, Heard, Hears}

-- ---- what was taken

pub can_show : (o : Opening) (s : State) (e : Entry) (old new : Standing) (after : Option Place) (b : Bool) (shown : Shown) → b ≡ true
    → is_one e ≡ true → Takes (Ok b) old new after (shown_of o s e) → new.shown ≡ Some shown → CanShow e shown
can_show o s e old new after true shown is one takes has = record { opening = o; state = s; shows = same_some shown (shown_of o s e) (sym has ∙ takes.1); one = one }
can_show o s e old new after false shown is one takes has = absurd cc

pub is_event : (e : Entry) → noted_one e ≡ 1 → is_one e ≡ true
is_event (Ran h n) is = absurd (omega arith)
is_event (Counted h) is = refl
is_event (Stopped h why) is = refl
is_event (Left h code) is = refl
is_event (Did line) is = refl
is_event (Poked p) is = refl

pub heard_none : (b : Bool) (after : Option Place) (piece : List ℕ) (new : Standing) (h g : Hearing) → b ≡ false → Heard (Ok b) after piece new h g → after ≡ None
heard_none true after piece new h g is heard = absurd cc
heard_none false after piece new h g is heard = heard

pub heard_some : (b : Bool) (after : Option Place) (piece : List ℕ) (new : Standing) (h g : Hearing) → b ≡ true → Heard (Ok b) after piece new h g → (after ≡ Some new.place) × Hears piece h g
heard_some true after piece new h g is heard = heard
heard_some false after piece new h g is heard = absurd cc

-- ---- the instructions of an entry

-- so many instructions of a hart came from a place on
pub record HasRun (o : Opening) (p q : Place) (h n : ℕ) : Type 0 where
  pub follow : follows p.prev (Ran h n) ≡ true
  pub prev : q.prev ≡ Some h
  pub ran : ran o h p.state n ≡ Some q.state

pub same_follow : (prev : Option ℕ) (h m n : ℕ) → follows prev (Ran h m) ≡ follows prev (Ran h n)
same_follow None h m n = refl
same_follow (Some k) h m n = refl

one_come : (o : Opening) (p : Place) (h : ℕ) → come o p (Ran h 1) ≡ cond (follows p.prev (Ran h 1)) (option_map (λ (s : State). let q : Place = record { prev = Some h; state = s } in q) (one o h p.state)) None
unfolding enter
one_come o p h = refl

pub first_run : (o : Opening) (p q : Place) (h : ℕ) → come o p (Ran h 1) ≡ Some q → HasRun o p q h 1
first_run o p q h c =
    let g = guard_some (follows p.prev (Ran h 1)) (option_map (λ (s : State). let q : Place = record { prev = Some h; state = s } in q) (one o h p.state)) q (sym (one_come o p h) ∙ c) in
    let m = map_some (λ (s : State). let q : Place = record { prev = Some h; state = s } in q) (one o h p.state) q g.1 in
    record { follow = g.0; prev = sym (ap (λ (r : Place). r.prev) m.2); ran = m.1 ∙ ap Some (ap (λ (r : Place). r.state) m.2) }

pub ran_more : (o : Opening) (h : ℕ) (s : State) (n : ℕ) → ran o h s (n + 1) ≡ option_and_then (one o h) (ran o h s n)
ran_more o h s n = let is : n + 1 ≡ suc n = omega arith in ap (ran o h s) is

goes_by : (o : Opening) (q : Place) (h : ℕ) → q.prev ≡ Some h → lengthen o q h ≡ option_map (λ (s : State). let r : Place = record { prev = Some h; state = s } in r) (one o h q.state)
goes_by o q h is = let same : h == h ≡ true = eq-eqb h h refl in rw (is, same) refl

pub more_run : (o : Opening) (p q r : Place) (h n : ℕ) → HasRun o p q h n → lengthen o q h ≡ Some r → HasRun o p r h (n + 1)
more_run o p q r h n run l =
    let m = map_some (λ (s : State). let r : Place = record { prev = Some h; state = s } in r) (one o h q.state) r (sym (goes_by o q h run.prev) ∙ l) in
    record {
      follow = same_follow p.prev h (n + 1) n ∙ run.follow;
      prev = sym (ap (λ (x : Place). x.prev) m.2);
      ran = ran_more o h p.state n ∙ ap (option_and_then (one o h)) run.ran ∙ m.1 ∙ ap Some (ap (λ (x : Place). x.state) m.2);
    }

map_none : {A B : Type 0} (f : A → B) (r : Option A) → option_map f r ≡ None → r ≡ None
map_none f None h = refl
map_none f (Some x) h = cc

stays_failed : (o : Opening) (h : ℕ) (s : State) (n k : ℕ) → ran o h s n ≡ None → ran o h s (n + k) ≡ None
stays_failed o h s n zero none = let is : n + 0 ≡ n = omega arith in ap (ran o h s) is ∙ none
stays_failed o h s n (suc k) none =
    let is : n + suc k ≡ (n + k) + 1 = omega arith in
    ap (ran o h s) is ∙ (ran_more o h s (n + k) ∙ ap (option_and_then (one o h)) (stays_failed o h s n k none))

fails_later : (o : Opening) (h : ℕ) (s : State) (n m : ℕ) → n ≤ m → ran o h s n ≡ None → ran o h s m ≡ None
fails_later o h s n m le none = let is : m ≡ n + (m - n) = omega arith in ap (ran o h s) is ∙ stays_failed o h s n (m - n) none

refused : (b c : Bool) (r : Option State) (f : State → Place) → r ≡ None → cond b (option_map f (cond c r None)) None ≡ None
refused true true r f none = ap (option_map f) none
refused true false r f none = refl
refused false c r f none = refl

pub never : (o : Opening) (p : Place) (h n : ℕ) → ran o h p.state n ≡ None → come o p (Ran h n) ≡ None
unfolding enter
never o p h n none = refused (follows p.prev (Ran h n)) (nat_lt 0 n) (ran o h p.state n) (λ (s : State). let q : Place = record { prev = Some h; state = s } in q) none

no_follow : (o : Opening) (p : Place) (h n : ℕ) → follows p.prev (Ran h n) ≡ false → come o p (Ran h n) ≡ None
no_follow o p h n is = rw is refl

fails_by : (o : Opening) (p : Place) (h n : ℕ) (b : Bool) → follows p.prev (Ran h 1) ≡ b → 0 < n → come o p (Ran h 1) ≡ None → come o p (Ran h n) ≡ None
fails_by o p h n false is lt none = no_follow o p h n (same_follow p.prev h n 1 ∙ is)
fails_by o p h n true is lt none =
    let first : option_map (λ (s : State). let q : Place = record { prev = Some h; state = s } in q) (one o h p.state) ≡ None = sym (one_come o p h ∙ rw is refl) ∙ none in
    never o p h n (fails_later o h p.state 1 n (omega arith) (map_none (λ (s : State). let q : Place = record { prev = Some h; state = s } in q) (one o h p.state) first))

-- where the first instruction may not come, no `Ran` of the hart may
pub fails_first : (o : Opening) (p : Place) (h n : ℕ) → 0 < n → come o p (Ran h 1) ≡ None → come o p (Ran h n) ≡ None
fails_first o p h n lt none = fails_by o p h n (follows p.prev (Ran h 1)) refl lt none

-- nor a longer one where a further one may not come
pub fails_more : (o : Opening) (p q : Place) (h n m : ℕ) → HasRun o p q h n → n < m → lengthen o q h ≡ None → come o p (Ran h m) ≡ None
fails_more o p q h n m run lt none =
    let first = map_none (λ (s : State). let r : Place = record { prev = Some h; state = s } in r) (one o h q.state) (sym (goes_by o q h run.prev) ∙ none) in
    never o p h m (fails_later o h p.state (n + 1) m (omega arith) (ran_more o h p.state n ∙ ap (option_and_then (one o h)) run.ran ∙ first))

pub no_run : (o : Opening) (p : Place) (h : ℕ) → come o p (Ran h 0) ≡ None
unfolding enter
no_run o p h = refused (follows p.prev (Ran h 0)) false None (λ (s : State). let q : Place = record { prev = Some h; state = s } in q) refl

pub all_run : (o : Opening) (p q : Place) (h n : ℕ) → 0 < n → HasRun o p q h n → come o p (Ran h n) ≡ Some q
unfolding enter
all_run o p q h n lt run =
    let some : nat_lt 0 n ≡ true = grind (arith, nat_tests) in
    let place : record { prev = Some h; state = q.state } ≡ q = ap (λ (prev : Option ℕ). let r : Place = record { prev = prev; state = q.state } in r) (sym run.prev) in
    rw (run.follow, some, run.ran) (ap Some place)

-- what one more instruction says
pub ran_said : (v : Voice) (o : Opening) (p q : Place) (h n : ℕ) → HasRun o p q h n → ran_text v o h p.state (n + 1) ≡ ran_text v o h p.state n ++ v.entry (Ran h 1) (shown_of o q.state (Ran h 1))
ran_said v o p q h n run =
    let is : n + 1 ≡ suc n = omega arith in
    ap (ran_text v o h p.state) is ∙ ap (λ (r : Option State). ran_text v o h p.state n ++ instruction_text v o h r) run.ran

-- one piece behind another
pub hears_more : (a b : List ℕ) (old mid new : Hearing) → Hears a old mid → Hears b mid new → Hears (a ++ b) old new
hears_more a b old mid new f g = record {
  text = g.text ∙ f.text;
  within = g.within;
  agrees = λ said is. subst (λ (l : List ℕ). Agrees l new) (append_assoc said a b) (g.agrees (said ++ a) (f.agrees said is));
}

-- ---- the entries of a journal

-- these entries came, and what they show was said
pub record Stands (v : Voice) (o : Opening) (front : List Entry) (p : Place) (h : Hearing) : Type 0 where
  pub said : List ℕ
  pub agrees : Agrees (v.opening o ++ said) h
  pub replays : (more : List Entry) → replay_from o (first_place o) (front ++ more) ≡ replay_from o p more
  pub texts : (more : List Entry) → text_from v o (first_place o) (front ++ more) ≡ said ++ text_from v o p more

nothing_said : (h : Hearing) → h.at ≡ 0 → h.same ≡ true → Agrees [] h
nothing_said h at same =
    let goes : GoesOn h.text.now [] h.at = record { rest = h.text.now; text_is = refl; at_is = at } in
    subst (λ (b : Bool). AgreesBy b h.text.now [] h.at) (sym same) goes

pub opened : (v : Voice) (o : Opening) (piece : List ℕ) (h g : Hearing) → h.at ≡ 0 → h.same ≡ true → piece ≡ v.opening o → Hears piece h g → Agrees (v.opening o) g
opened v o piece h g at same is hears = subst (λ (l : List ℕ). Agrees l g) is (hears.agrees [] (nothing_said h at same))

pub stands_first : (v : Voice) (o : Opening) (p : Place) (h : Hearing) → p ≡ first_place o → Agrees (v.opening o) h → Stands v o [] p h
stands_first v o p h is agrees = record {
  said = [];
  agrees = subst (λ (l : List ℕ). Agrees l h) (sym (append-nil (v.opening o))) agrees;
  replays = λ more. ap (λ (q : Place). replay_from o q more) (sym is);
  texts = λ more. ap (λ (q : Place). text_from v o q more) (sym is);
}

pub stands_more : (v : Voice) (o : Opening) (front : List Entry) (e : Entry) (p q : Place) (h g : Hearing) → Stands v o front p h → come o p e ≡ Some q → Hears (entry_text v o p.state e) h g → Stands v o (front ++ e ∷ []) q g
stands_more v o front e p q h g s c hears = record {
  said = s.said ++ entry_text v o p.state e;
  agrees = subst (λ (l : List ℕ). Agrees l g) (append_assoc (v.opening o) s.said (entry_text v o p.state e)) (hears.agrees (v.opening o ++ s.said) s.agrees);
  replays = λ more. ap (replay_from o (first_place o)) (append_assoc front (e ∷ []) more) ∙ s.replays (e ∷ more) ∙ ap (option_and_then (λ r. replay_from o r more)) c;
  texts = λ more.
      ap (text_from v o (first_place o)) (append_assoc front (e ∷ []) more) ∙ s.texts (e ∷ more)
      ∙ ap (λ (r : Option Place). s.said ++ (entry_text v o p.state e ++ unwrap_or (option_map (λ q. text_from v o q more) r) [])) c
      ∙ sym (append_assoc s.said (entry_text v o p.state e) (text_from v o q more));
}

lawful_so_far : (v : Voice) (o : Opening) (front : List Entry) (p : Place) (h : Hearing) → Stands v o front p h → replay o front ≡ Some p
unfolding replay
lawful_so_far v o front p h s = ap (replay_from o (first_place o)) (sym (append-nil front)) ∙ s.replays []

unlawful_here : (v : Voice) (o : Opening) (front : List Entry) (e : Entry) (p : Place) (h : Hearing) → Stands v o front p h → come o p e ≡ None → replay o (front ++ e ∷ []) ≡ None
unfolding replay
unlawful_here v o front e p h s c = s.replays (e ∷ []) ∙ ap (option_and_then (λ r. replay_from o r [])) c

said_is : (v : Voice) (o : Opening) (front : List Entry) (p : Place) (h : Hearing) (s : Stands v o front p h) → v.opening o ++ s.said ≡ speech v o front
unfolding speech
said_is v o front p h s = ap (λ (l : List ℕ). v.opening o ++ l) (sym (ap (text_from v o (first_place o)) (sym (append-nil front)) ∙ s.texts [] ∙ append-nil s.said))

is_some : {A : Type 0} (r : Option A) (x : A) → r ≡ Some x → IsSome r
is_some None x h = cc
is_some (Some y) x h = refl

-- an entry that may not come
pub stops : (v : Voice) (o : Opening) (j front more : List Entry) (e : Entry) (p : Place) (h : Hearing) (n : ℕ) → j ≡ front ++ e ∷ more → n ≡ length front + 1 → Stands v o front p h → come o p e ≡ None → IsFirstUnlawful o j n
stops v o j front more e p h n is count s c = record {
  front = front;
  entry = e;
  more = more;
  journal = is;
  number_is = count;
  lawful = is_some (replay o front) p (lawful_so_far v o front p h s);
  unlawful = unlawful_here v o front e p h s c;
}

-- all entries came
pub all_came : (v : Voice) (o : Opening) (j : List Entry) (p : Place) (h : Hearing) → Stands v o j p h → IsLawful o j × Agrees (speech v o j) h
all_came v o j p h s = (is_some (replay o j) p (lawful_so_far v o j p h s), subst (λ (l : List ℕ). Agrees l h) (said_is v o j p h s) s.agrees)

-- of a lawful journal
pub checked_by : (v : Voice) (o : Opening) (j : List Entry) (text : List ℕ) (r : CheckVerdict) → IsLawful o j → Told text (speech v o j) r → Checked v o j text r
checked_by v o j text Accepted l told = (l, told)
checked_by v o j text (Unlawful n) l told = absurd told
checked_by v o j text (Differs n) l told = (l, told)
