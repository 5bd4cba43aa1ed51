-- Further instructions that were taken at once.
use Rattle.std.proofs.Common.{◌≡◌, ℕ, zero, suc, ◌+◌, ◌-◌, ◌<◌, ◌≤◌, Bool, true, false, List, [], ◌++◌, refl, sym, ap, ◌∙◌, subst, arith, append_assoc}
use Rattle.std.specs.Prelude.{Option, Some, None, Ok, option_and_then}
use Rattle.std.specs.Option.{option_map}
use Rattle.std.proofs.lemmas.Bool.Decides.{nat_tests}
use mathlib.Core.List.{append-nil}
use mir.Val.{bool_byte}
use Rattle.dbg_model.specs.declared.entry.Entry.TheVariants.{Ran}
use Rattle.dbg_model.specs.declared.opening.Opening.{Opening}
use Rattle.dbg_model.specs.declared.shown.Shown.TheVariants.{Nothing}
use Rattle.dbg_model.specs.State.{State}
use Rattle.dbg_model.specs.Breaks.{is_number}
use Rattle.dbg_model.specs.Lawful.{one, ran}
use Rattle.dbg_model.specs.Journals.{Place, follows}
use Rattle.dbg_model.specs.Shown.{shown_of}
use Rattle.dbg_model.proofs.Options.{guard_some, map_some}
use Rattle.replay_parts.specs.Further.{LengthensBy, lengthen}
use Rattle.dbg_replay.specs.Standing.{Standing}
use Rattle.log_check.specs.declared.hearing.Hearing.{Hearing}
use Rattle.log_check.specs.Agreeing.{Agrees, Heard, HeardMore, Hears, IsWithin, repeated}
use Rattle.log_check.specs.Speech.{CanShow, Voice, instruction_text, ran_text}
use Rattle.log_check.proofs.Going.{HasRun, hears_more, same_follow}

-- ---- places

abbrev behind : ℕ → State → Place
behind h s = record { prev = Some h; state = s }

-- what one more leaves
pub one_more : (o : Opening) (p q : Place) (h : ℕ) → lengthen o p h ≡ Some q → (one o h p.state ≡ Some q.state) × (q.prev ≡ Some h)
one_more o p q h l =
    let g = guard_some (is_number p.prev h) (option_map (behind h) (one o h p.state)) q l in
    let m = map_some (behind h) (one o h p.state) q g.1 in
    (m.1 ∙ ap Some (ap (λ (r : Place). r.state) m.2), sym (ap (λ (r : Place). r.prev) m.2))

pub more_ran : (n : ℕ) (o : Opening) (p q : Place) (h : ℕ) → LengthensBy n o h p q → ran o h p.state n ≡ Some q.state
more_ran zero o p q h l = ap (λ (r : Place). Some r.state) (sym l)
more_ran (suc n) o p q h l = ap (option_and_then (one o h)) (more_ran n o p l.place h l.before) ∙ (one_more o l.place q h l.lengthens).0

ran_on : (o : Opening) (h : ℕ) (s : State) (k n : ℕ) → ran o h s (k + n) ≡ option_and_then (λ t. ran o h t n) (ran o h s k)
ran_on o h s k zero = let is : k + 0 ≡ k = omega arith in ap (ran o h s) is ∙ same (ran o h s k)
  where
    same : (r : Option State) → r ≡ option_and_then (λ t. Some t) r
    same None = refl
    same (Some t) = refl
ran_on o h s k (suc n) =
    let is : k + suc n ≡ suc (k + n) = omega arith in
    ap (ran o h s) is ∙ (ap (option_and_then (one o h)) (ran_on o h s k n) ∙ apart (ran o h s k))
  where
    apart : (r : Option State) → option_and_then (one o h) (option_and_then (λ t. ran o h t n) r) ≡ option_and_then (λ t. option_and_then (one o h) (ran o h t n)) r
    apart None = refl
    apart (Some t) = refl

-- a run goes on by n instructions
pub run_on : (o : Opening) (p q r : Place) (h k n : ℕ) → HasRun o p q h k → r.prev ≡ Some h → ran o h q.state n ≡ Some r.state → HasRun o p r h (k + n)
run_on o p q r h k n run prev more = record {
  follow = same_follow p.prev h (k + n) k ∙ run.follow;
  prev = prev;
  ran = ran_on o h p.state k n ∙ (ap (option_and_then (λ t. ran o h t n)) run.ran ∙ more);
}

-- ---- what is said

instruction_said : (v : Voice) (o : Opening) (h : ℕ) (r : Option State) (s : State) → r ≡ Some s → shown_of o s (Ran h 1) ≡ Nothing → instruction_text v o h r ≡ v.entry (Ran h 1) Nothing
instruction_said v o h r s is none = ap (instruction_text v o h) is ∙ ap (v.entry (Ran h 1)) none

pub more_said : (n : ℕ) (v : Voice) (o : Opening) (p q : Place) (h : ℕ) → LengthensBy n o h p q → ran_text v o h p.state n ≡ repeated (v.entry (Ran h 1) Nothing) n
more_said zero v o p q h l = refl
more_said (suc n) v o p q h l =
    ap (λ t. t ++ instruction_text v o h (ran o h p.state n)) (more_said n v o p l.place h l.before)
    ∙ ap (λ t. repeated (v.entry (Ran h 1) Nothing) n ++ t) (instruction_said v o h (ran o h p.state n) l.place.state (more_ran n o p l.place h l.before) l.shows)

text_on : (v : Voice) (o : Opening) (h : ℕ) (s t : State) (k n : ℕ) → ran o h s k ≡ Some t → ran_text v o h s (k + n) ≡ ran_text v o h s k ++ ran_text v o h t n
text_on v o h s t k zero is = let same : k + 0 ≡ k = omega arith in ap (ran_text v o h s) same ∙ sym (append-nil (ran_text v o h s k))
text_on v o h s t k (suc n) is =
    let same : k + suc n ≡ suc (k + n) = omega arith in
    let there : ran o h s (k + n) ≡ ran o h t n = ran_on o h s k n ∙ ap (option_and_then (λ u. ran o h u n)) is in
    ap (ran_text v o h s) same
    ∙ (ap (λ l. l ++ instruction_text v o h (ran o h s (k + n))) (text_on v o h s t k n is)
    ∙ (ap (λ r. (ran_text v o h s k ++ ran_text v o h t n) ++ instruction_text v o h r) there
    ∙ append_assoc (ran_text v o h s k) (ran_text v o h t n) (instruction_text v o h (ran o h t n))))

-- nothing at once, or something that goes on with a run
pub all_heard : (v : Voice) (n : ℕ) (o : Opening) (p q r : Place) (h k : ℕ) (old mid new : Hearing) → 0 < n → HasRun o p q h k → Hears (ran_text v o h p.state k) old mid → HeardMore v (Ok n) o h q r mid new
    → HasRun o p r h (k + n) × Hears (ran_text v o h p.state (k + n)) old new
all_heard v zero o p q r h k old mid new low run hears more = absurd (omega (arith, low))
all_heard v (suc n) o p q r h k old mid new low run hears more = (
  run_on o p q r h k (suc n) run more.0 more.1,
  subst (λ l. Hears l old new) (sym (text_on v o h p.state q.state k (suc n) run.ran)) (hears_more (ran_text v o h p.state k) (ran_text v o h q.state (suc n)) old mid new hears more.2),
)

pub none_heard : (v : Voice) (n : ℕ) (o : Opening) (q r : Place) (h : ℕ) (mid new : Hearing) → n ≡ 0 → HeardMore v (Ok n) o h q r mid new → lengthen o q h ≡ None
none_heard v zero o q r h mid new is more = more
none_heard v (suc n) o q r h mid new is more = absurd (omega (arith, is))

-- those that show nothing
pub quietly_heard : (v : Voice) (n : ℕ) (o : Opening) (p q : Place) (h : ℕ) (old new : Hearing) → 0 < n → LengthensBy n o h p q → Hears (repeated (v.entry (Ran h 1) Nothing) n) old new → HeardMore v (Ok n) o h p q old new
quietly_heard v zero o p q h old new low l hears = absurd (omega (arith, low))
quietly_heard v (suc n) o p q h old new low l hears =
    ((one_more o l.place q h l.lengthens).1, more_ran (suc n) o p q h l, subst (λ t. Hears t old new) (sym (more_said (suc n) v o p q h l)) hears)

-- one that is taken by itself
pub one_heard : (v : Voice) (o : Opening) (p q : Place) (h : ℕ) (old new : Hearing) → lengthen o p h ≡ Some q → Hears (v.entry (Ran h 1) (shown_of o p.state (Ran h 1))) old new → HeardMore v (Ok 1) o h p q old new
one_heard v o p q h old new l hears = let m = one_more o p q h l in (m.1, m.0, hears)

-- what is taken by itself at the place where nothing was taken at once
pub came_heard : (v : Voice) (b : Bool) (n : ℕ) (o : Opening) (p q : Place) (h : ℕ) (new : Standing) (old heard : Hearing) → n ≡ bool_byte b → q ≡ p
    → Heard (Ok b) (lengthen o q h) (v.entry (Ran h 1) (shown_of o q.state (Ran h 1))) new old heard
    → HeardMore v (Ok n) o h p new.place old heard
came_heard v true n o p q h new old heard is same it =
    subst (λ k. HeardMore v (Ok k) o h p new.place old heard) (sym is) (subst (λ (r : Place). HeardMore v (Ok 1) o h r new.place old heard) same (one_heard v o q new.place h old heard it.0 it.1))
came_heard v false n o p q h new old heard is same it =
    subst (λ k. HeardMore v (Ok k) o h p new.place old heard) (sym is) (subst (λ (r : Place). lengthen o r h ≡ None) same it)

-- what is taken of the rest stays within the whole
pub within : (done n count : ℕ) → done < count → n ≤ count - done → done + n ≤ count
within done n count more few = omega (arith, more, few)

pub may_be_quiet : (n : ℕ) (o : Opening) (p q : Place) (h : ℕ) → 0 < n → LengthensBy n o h p q → CanShow (Ran h 1) Nothing
may_be_quiet zero o p q h low l = absurd (omega (arith, low))
may_be_quiet (suc n) o p q h low l = record { opening = o; state = l.place.state; shows = sym l.shows; one = refl }

-- ---- a piece that is said often

pub nothing_more : (h : Hearing) → IsWithin h → Hears [] h h
nothing_more h within = record { text = refl; within = within; agrees = λ said is. subst (λ l. Agrees l h) (sym (append-nil said)) is }

pub silence : (piece : List ℕ) (n : ℕ) → piece ≡ [] → repeated piece n ≡ []
silence piece zero is = refl
silence piece (suc n) is = ap (λ l. repeated piece n ++ l) is ∙ (append-nil (repeated piece n) ∙ silence piece n is)
