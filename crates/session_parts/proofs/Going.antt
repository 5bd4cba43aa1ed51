-- How the steps of a round follow each other.
use Rattle.std.proofs.Common.{◌≡◌, ◌<◌, ◌≤◌, ℕ, ◌+◌, Bool, true, false, List, [], ◌++◌, length, drop, refl, ap, subst, not}
use Rattle.std.specs.Prelude.{Option, Some, None, ◌&&◌, is_some}
use Rattle.session_parts.specs.declared.status.Status.{Status}
use mathlib.Core.Logic.{inl}
use Rattle.dbg_traits.specs.Told.{Told, more, raised, with_ask}
use Rattle.mi_input.specs.Lines.{lines}
use Rattle.dbg_model.specs.State.{any_runs}
use Rattle.session_parts.specs.declared.line.Done.{Done}
use Rattle.session_parts.specs.declared.input.Input.TheVariants as input
use Rattle.session_parts.specs.Stage.{Stage}
use Rattle.session_parts.specs.Steps.{Does, can_do, with_poll}
use Rattle.session_parts.specs.Taking.{has_line, is_some_line}
use Rattle.session_parts.specs.Ties.{OverBy}
use Rattle.session_parts.specs.Round.{Moment, Takes, TakesBy, Polls, Lines, LinesBy, DoesOne, AfterLine, behind, Moves, Settles, Unless, Then, Round}

-- once the status is set nothing more is done
pub ended : (o : Option Status) (R : Moment → Moment → Type 0) (m : Moment) → is_some o ≡ true → Unless o R m m
ended None R m is = cc
ended (Some s) R m is = refl

pub goes_on : (o : Option Status) (R : Moment → Moment → Type 0) (m q : Moment) → is_some o ≡ false → R m q → Unless o R m q
goes_on None R m q is r = r
goes_on (Some s) R m q is r = cc

pub round_taken : (k : Option ℕ) (p a : Moment) → Takes p a → is_some a.status ≡ true → Round k p a
round_taken k p a t is = (a, t, ended a.status (Then Lines (Then (Moves k) Settles)) a is)

pub round_line : (k : Option ℕ) (p a b : Moment) → Takes p a → is_some a.status ≡ false → Lines a b → is_some b.status ≡ true → Round k p b
round_line k p a b t is l done = (a, t, goes_on a.status (Then Lines (Then (Moves k) Settles)) a b is (b, l, ended b.status (Then (Moves k) Settles) b done))

pub round_move : (k : Option ℕ) (p a b c : Moment) → Takes p a → is_some a.status ≡ false → Lines a b → is_some b.status ≡ false → Moves k b c → is_some c.status ≡ true → Round k p c
round_move k p a b c t is l on m done =
    (a, t, goes_on a.status (Then Lines (Then (Moves k) Settles)) a c is (b, l, goes_on b.status (Then (Moves k) Settles) b c on (c, m, ended c.status Settles c done)))

pub round_whole : (k : Option ℕ) (p a b c d : Moment) → Takes p a → is_some a.status ≡ false → Lines a b → is_some b.status ≡ false → Moves k b c → is_some c.status ≡ false → Settles c d → Round k p d
round_whole k p a b c d t is l on m going e =
    (a, t, goes_on a.status (Then Lines (Then (Moves k) Settles)) a d is (b, l, goes_on b.status (Then (Moves k) Settles) b d on (c, m, goes_on c.status Settles c d going e)))

-- ---- single steps

-- input was asked for
takes_when : (ended has : Bool) (p q : Moment) → ended ≡ false → has ≡ false → Polls p q → TakesBy (not ended && not has) p q
takes_when ended has p q un none polls = rw (un, none) polls

pub took : (p : Moment) (n : ℕ) (bytes : List ℕ) (u : Told) (rest : List ℕ) (s : Option Status) (wait : Bool) → p.input.ended ≡ false
    → lines p.input.rest false ≡ [] → wait ≡ any_runs p.run.state.harts → 0 < n → length bytes ≡ n → n ≤ 4096 → rest ≡ p.input.rest ++ bytes
    → u ≡ record (with_poll p.told) { polled = more p.told.polled bytes; input_length = raised p.told.input_length n; asks = with_ask (not wait) p.told } → OverBy s p.run (p.input.count + n)
    → Takes p (record p { told = u; input = record { rest = rest; count = p.input.count + n; ended = p.input.ended }; status = s })
took p n bytes u rest s wait un none runs some len few behind is over =
    let asked = subst (λ b. u ≡ record (with_poll p.told) { polled = more p.told.polled bytes; input_length = raised p.told.input_length n; asks = with_ask (not b) p.told }) runs is in
    takes_when p.input.ended (has_line false p.input.rest) p (record p { told = u; input = record { rest = rest; count = p.input.count + n; ended = p.input.ended }; status = s }) un (ap is_some_line none)
    (record { answer = input.Took n; told = u; rest = rest; status = s; inputs = (bytes, some, len, few, behind, asked); after = over; is = refl })

-- a line was done
lines_when : (can : Bool) (p q : Moment) → can ≡ true → DoesOne p q → LinesBy can p q
lines_when can p q is does = rw is does

pub does : (p : Moment) (answer : Done) (u : Told) (r : Stage) (s : Option Status) (rest : List ℕ) → can_do p.run p.input.ended p.input.rest ≡ true
    → r.opening ≡ p.run.opening → Does answer p.input.ended p.input.rest p.told u p.run r → AfterLine answer r p.input.count s
    → rest ≡ drop (behind answer) p.input.rest → Lines p (record p { told = u; run = r; input = record p.input { rest = rest }; status = s })
does p answer u r s rest can opening d after same =
    inl (lines_when (can_do p.run p.input.ended p.input.rest) p (record p { told = u; run = r; input = record p.input { rest = rest }; status = s }) can (record {
      answer = answer;
      told = u;
      run = r;
      status = s;
      opening = opening;
      does = d;
      after = after;
      is = ap (λ (xs : List ℕ). let q : Moment = record p { told = u; run = r; input = record p.input { rest = xs }; status = s } in q) same;
    }))

-- a turn that stood left all as it was
pub same_moment : (p : Moment) (u : Told) (r : Stage) → u ≡ p.told → r ≡ p.run → record p { told = u; run = r } ≡ p
same_moment p u r told run = rw (told, run) refl

pub cannot_move : (may moves : Bool) → may ≡ true → (may && moves) ≡ false → moves ≡ false
cannot_move may moves is why = rw is at why
