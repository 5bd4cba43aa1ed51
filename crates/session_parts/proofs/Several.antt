-- Turns that the engine made in one call are as many moves of the session.
use Rattle.std.proofs.Common.{◌≡◌, ◌<◌, ℕ, zero, suc, ◌+◌, true, false, List, [], refl, sym, ap, ◌∙◌, arith, subst}
use Rattle.std.specs.Prelude.{Option, Some, None}
use mathlib.Core.List.{append-nil}
use Rattle.dbg_traits.specs.Told.{Told, more}
use Rattle.dbg_model.specs.Lawful.{may_go}
use Rattle.dbg_model.specs.Journals.{lengthened, lengthened_by}
use Rattle.engine_parts.specs.Seen.{Engine, seen}
use Rattle.engine_parts.specs.Facts.{Facts}
use Rattle.engine_parts.proofs.Bounding.{below}
use Rattle.engine_parts.specs.declared.moving.Turned.{Turned}
use Rattle.engine_parts.specs.declared.moving.Turned.TheVariants as turned
use Rattle.engine_parts.specs.declared.moving.Move.TheVariants as move
use Rattle.engine_parts.specs.Several.{AllRan, AllTurned, HasRan, IsQuietRow, TurnedBy, is_quiet}
use Rattle.engine_parts.specs.Calls.{Turns as EngineTurns}
use Rattle.engine_parts.proofs.Quiet.{quiet_may}
use Rattle.session_parts.specs.declared.status.Status.{Status}
use Rattle.session_parts.specs.declared.turn.Turn.TheVariants as turn
use Rattle.session_parts.specs.Puts.{with_text}
use Rattle.session_parts.specs.Stage.{Stage, stage_of, work_of}
use Rattle.session_parts.specs.Steps.{IsMove, IsStep, Says}
use Rattle.session_parts.specs.Ties.{IsTied, GoesOn, OverBy, session_work}
use Rattle.session_parts.specs.Round.{Moment, Moved, TurnsOne}
use Rattle.session_parts.proofs.Saying.{Said, quiet_says, made_room}
use Rattle.session_parts.proofs.Firsts.{a_step, quiet_first}
use Rattle.session_parts.proofs.Tying.{turn_put}

-- nothing was put
more_none : {A : Type 0} (o : Option (List A)) → o ≡ more o []
more_none None = refl
more_none (Some xs) = ap Some (sym (append-nil xs))

none_put : (t : Told) → t ≡ with_text t []
none_put t = ap (λ o. record t { written = o }) (more_none t.written)

-- a turn of which nothing is said
silent : (t : Told) (r s : Engine) (h : ℕ) → Said move.Ran r s h → Says t t (stage_of r) (stage_of s) true
silent t r s h d = record { trees = []; said = d.said; grammar = tt; puts = none_put t }

-- a session in which the engine stands here
abbrev pub standing : Moment → Engine → Option Status → Moment
standing p r s = record p { run = stage_of r; status = s }

one_move : (F : Stage → Stage → Type 0) (p : Moment) (r s : Engine) (h : ℕ) (o : Option Status) → Said move.Ran r s h → F (stage_of r) (stage_of s) → OverBy o (stage_of s) p.input.count → TurnsOne F h (standing p r None) (standing p s o)
one_move F p r s h o d fits over =
    record { answer = turn.Moved; told = p.told; run = stage_of s; status = o; opening = d.opening; turns = (silent p.told r s h d, fits); after = over; is = refl }

-- turns of this kind say nothing, and are moves of that kind
pub record Each (h : ℕ) (G : Engine → Turned → Type 0) (F : Stage → Stage → Type 0) : Type 0 where
  pub quiet : (r : Engine) (t : Turned) → G r t → is_quiet t ≡ true
  pub fits : (r s : Engine) (t : Turned) → G r t → EngineTurns t r s h → F (stage_of r) (stage_of s)

-- what is known of a session before and after
pub record Holds (p : Moment) (r : Engine) (o : Option Status) : Type 0 where
  pub tied : IsTied o p.told (stage_of r) p.input

one_holds : (p : Moment) (r s : Engine) (h : ℕ) (o : Option Status) → Facts r → Holds p r None → Said move.Ran r s h → OverBy o (stage_of s) p.input.count → Holds p s o
one_holds p r s h o f k d over = record { tied = turn_put o p.told p.told (stage_of r) (stage_of s) p.input k.tied d.opening f.sound.leaves (silent p.told r s h d) d.goes over }

-- a session goes on before each turn
going : (p : Moment) (r s : Engine) → may_go s.opening (seen s) ≡ true → GoesOn (stage_of r) p.input.count → s.exited ≡ false → GoesOn (stage_of s) p.input.count
going p r s may k open_ = let b = below s may in record { below = record { budget = b.0; history = b.1; input = k.below.input }; open_ = open_ }

abbrev pub left_at : Moment → Engine → Option Status → ℕ
left_at p r o = session_work o (stage_of r) p.input

less_by : (o : Option Status) (p : Moment) (r s : Engine) → work_of (stage_of s) < work_of (stage_of r) → left_at p s o < left_at p r None
less_by None p r s less = omega arith
less_by (Some o) p r s less = omega arith

-- n + 1 turns, behind which the session is over or goes on
pub record Gone (F : Stage → Stage → Type 0) (n : ℕ) (p : Moment) (r s : Engine) (h : ℕ) (o : Option Status) : Type 0 where
  pub moved : Moved F n h (standing p r None) (standing p s o)
  pub holds : Holds p s o
  pub opening : s.opening ≡ r.opening
  pub less : left_at p s o < left_at p r None

pub gone : (G : Engine → Turned → Type 0) (F : Stage → Stage → Type 0) (n : ℕ) (p : Moment) (r s : Engine) (h : ℕ) (o : Option Status) → Each h G F → Facts r → Facts s
    → Holds p r None → TurnedBy G (suc n) r s h → OverBy o (stage_of s) p.input.count → Gone F (suc n) p r s h o
gone G F zero p r s h o each f g k turns over =
    let q = turns.run in
    let P : Engine → Type 0 = λ q. EngineTurns turns.answer q s h in
    let M : Engine → Type 0 = λ q. F (stage_of q) (stage_of s) in
    let d = quiet_says turns.answer r s h (each.quiet q turns.answer turns.fits) f g (subst P turns.before turns.turn) in
    let fits = subst M turns.before (each.fits q s turns.answer turns.fits turns.turn) in
    record { moved = (standing p r None, refl, refl, one_move F p r s h o d fits over); holds = one_holds p r s h o f k d over; opening = d.opening; less = less_by o p r s d.work }
gone G F (suc n) p r s h o each f g k turns over =
    let q = turns.run in
    let quiet = each.quiet q turns.answer turns.fits in
    let may = quiet_may turns.answer q s h quiet turns.turn in
    let ends = k.tied.cause.1 in
    let mid = gone G F n p r q h None each f turns.facts k turns.before (going p r q may.may ends may.going) in
    let d = quiet_says turns.answer q s h quiet turns.facts g turns.turn in
    record {
      moved = (standing p q None, mid.moved, refl, one_move F p q s h o d (each.fits q s turns.answer turns.fits turns.turn) over);
      holds = one_holds p q s h o turns.facts mid.holds d over;
      opening = d.opening ∙ mid.opening;
      less = let a = less_by o p q s d.work in let b = mid.less in omega arith;
    }

-- the same of an engine before its room was made
spared : (F : Stage → Stage → Type 0) (n : ℕ) (p : Moment) (e s : Engine) (k h : ℕ) (o : Option Status) → Gone F n p (record e { spare = k }) s h o → Gone F n p e s h o
spared F n p e s k h o g = record { moved = g.moved; holds = g.holds; opening = g.opening; less = g.less }

some_gone : (G : Engine → Turned → Type 0) (F : Stage → Stage → Type 0) (n : ℕ) (p : Moment) (r s : Engine) (h : ℕ) (o : Option Status) → Each h G F → 0 < n → Facts r → Facts s
    → Holds p r None → TurnedBy G n r s h → OverBy o (stage_of s) p.input.count → Gone F n p r s h o
some_gone G F zero p r s h o each some f g k turns over = absurd (omega arith)
some_gone G F (suc n) p r s h o each some f g k turns over = gone G F n p r s h o each f g k turns over

went_on : (G : Engine → Turned → Type 0) (F : Stage → Stage → Type 0) (n : ℕ) (p : Moment) (e r s : Engine) (h : ℕ) (o : Option Status) → Each h G F → r ≡ record e { spare = r.spare } → 0 < n
    → Facts e → Facts s → Holds p e None → TurnedBy G n r s h → OverBy o (stage_of s) p.input.count → Gone F n p e s h o
went_on G F n p e r s h o each is some f g k turns over =
    let q : Engine = record e { spare = r.spare } in
    let T : Engine → Type 0 = λ u. TurnedBy G n u s h in
    let room : Facts q = subst Facts is (made_room e r is f) in
    spared F n p e s r.spare h o (some_gone G F n p q s h o each some room g (record { tied = k.tied }) (subst T is turns) over)

ran_once : (t : Turned) (r s : Engine) (h : ℕ) → t ≡ turned.Moved move.Ran → EngineTurns t r s h → s.journal ≡ lengthened r.journal h
ran_once t r s h is turn = let P : Turned → Type 0 = λ u. EngineTurns u r s h in (subst P is turn).journal

-- a call of the engine for several turns, in a session that goes on: each is the move of the first row that fits
pub turned_on : (n : ℕ) (p : Moment) (e r s : Engine) (h : ℕ) (o : Option Status) → r ≡ record e { spare = r.spare } → 0 < n → Facts e → Facts s
    → Holds p e None → AllTurned n r s h → OverBy o (stage_of s) p.input.count → Gone (IsMove h) n p e s h o
turned_on n p e r s h o is some f g k turns over =
    went_on (IsQuietRow h) (IsMove h) n p e r s h o
    (record { quiet = λ q t row. row.quiet; fits = λ q u t row turn. quiet_first t q u h row.quiet row.first turn })
    is some f g k turns over

-- or an instruction that wrote nothing
pub ran_on : (n : ℕ) (p : Moment) (e r s : Engine) (h : ℕ) (o : Option Status) → r ≡ record e { spare = r.spare } → 0 < n → Facts e → Facts s
    → Holds p e None → AllRan n r s h → OverBy o (stage_of s) p.input.count → Gone (IsStep h) n p e s h o
ran_on n p e r s h o is some f g k turns over =
    went_on HasRan (IsStep h) n p e r s h o
    (record { quiet = λ q t ran. ap is_quiet ran; fits = λ q u t ran turn. a_step q u h (ran_once t q u h ran turn) })
    is some f g k turns over

-- and for none
pub none_ran : (e r s : Engine) (h : ℕ) → r ≡ record e { spare = r.spare } → s ≡ r → stage_of s ≡ stage_of e
none_ran e r s h is same = ap stage_of same ∙ ap stage_of is

-- instructions that wrote nothing are all that is noted of them
pub ran_noted : (n : ℕ) (r s : Engine) (h : ℕ) → AllRan n r s h → s.journal ≡ lengthened_by n r.journal h
ran_noted zero r s h ran = ap (λ (u : Engine). u.journal) ran
ran_noted (suc n) r s h ran = ran_once ran.answer ran.run s h ran.fits ran.turn ∙ ap (λ j. lengthened j h) (ran_noted n r ran.run h ran.before)

-- moves one after the other
pub moved_more : (F : Stage → Stage → Type 0) (a b : ℕ) (h : ℕ) (p m q : Moment) → Moved F a h p m → Moved F b h m q → Moved F (a + b) h p q
moved_more F a zero h p m q first then =
    let none : a ≡ a + 0 = omega arith in
    subst (λ k. Moved F k h p q) none (subst (λ (u : Moment). Moved F a h p u) (sym then) first)
moved_more F a (suc b) h p m q first then =
    let next : suc (a + b) ≡ a + suc b = omega arith in
    subst (λ k. Moved F k h p q) next (then.0, moved_more F a b h p m then.0 first then.1, then.2, then.3)
