-- The input, polled piece by piece.
use Rattle.std.proofs.Common.{◌≡◌, ◌≤◌, ◌<◌, ◌+◌, ◌^◌, ℕ, Bool, true, false, List, [], ◌∷◌, ◌++◌, length, refl, sym, ap, ◌∙◌, subst, arith, append_assoc, length-append, min}
use Rattle.std.specs.Prelude.{◌⊎◌, Option, Some, None}
use mathlib.Core.List.{append-nil}
use mathlib.Core.Logic.{inl, inr}
use Rattle.dbg_traits.specs.Told.{Told, Ask, more, raised, with_ask}
use Rattle.dbg_traits.specs.Causes.{Rose}
use Rattle.session_parts.specs.Steps.{Inputs}
use Rattle.session_parts.specs.declared.input.Input.TheVariants as input
use Rattle.session_check.specs.Findings.{most_input}
use Rattle.session_check.specs.Polling.{IsUntouched, Polls, PollsAll, PollsSome}
use Rattle.session_check.specs.declared.input.InputError.TheVariants as error

more_nothing : (o : Option (List ℕ)) → (o ≡ None) ⊎ (o ≡ Some []) → more o [] ≡ o
more_nothing o (inl is) = rw is refl
more_nothing o (inr is) = rw is refl

more_more : (o : Option (List ℕ)) (a b : List ℕ) → more (more o a) b ≡ more o (a ++ b)
more_more None a b = refl
more_more (Some xs) a b = ap Some (append_assoc xs a b)

abbrev with_input : Told → Option (List ℕ) → ℕ → ℕ → Option (List Ask) → Bool → ℕ → Told
with_input t polled length polls asks ended faults = record t { polled = polled; input_length = length; polls = polls; asks = asks; poll_ended = ended; poll_faults = faults }

-- nothing was polled yet
pub polls_none : (t : Told) → IsUntouched t → Polls [] false 0 t t
polls_none t h =
    let none = more t.polled [] in
    record {
      polls = t.polls;
      asks = t.asks;
      told = ap (λ (o : Option (List ℕ)). with_input t o t.input_length t.polls t.asks t.poll_ended t.poll_faults) (sym (more_nothing t.polled h.polled))
          ∙ ap (λ (n : ℕ). with_input t none n t.polls t.asks t.poll_ended t.poll_faults) h.length
          ∙ ap (λ (b : Bool). with_input t none 0 t.polls t.asks b t.poll_faults) h.ended
          ∙ ap (λ (n : ℕ). with_input t none 0 t.polls t.asks false n) h.faults;
    }

-- what was polled, at the world that it is told of
abbrev at : {old : List ℕ} {ended : Bool} {faults : ℕ} {t u : Told} → Polls old ended faults t u → Told
at {old} {ended} {faults} {t} {u} g = with_input t (more t.polled old) (length old) g.polls g.asks ended faults

-- a piece more
pub polls_more : (old new : List ℕ) (n : ℕ) (t u v : Told) → length old ≤ most_input → Polls old false 0 t u → Inputs (input.Took n) true u v old new → Polls new false 0 t v
polls_more old new n t u v le g has =
    let took = subst (λ (x : Told). Inputs (input.Took n) true x v old new) g.told has in
    let bytes = took.0 in
    let asked = with_ask true (at g) in
    let count : raised (length old) n ≡ length new = omega (arith, took.2, took.3, ap length took.4, length-append old bytes) in
    let all : more (more t.polled old) bytes ≡ more t.polled new = more_more t.polled old bytes ∙ ap (more t.polled) (sym took.4) in
    record {
      polls = raised g.polls 1;
      asks = asked;
      told = took.5 ∙ ap (λ (x : Option (List ℕ)). with_input t x (raised (length old) n) (raised g.polls 1) asked false 0) all ∙ ap (λ (k : ℕ). with_input t (more t.polled new) k (raised g.polls 1) asked false 0) count;
    }

-- the end
pub polls_all : (old new : List ℕ) (t u v : Told) → length old ≤ most_input → Polls old false 0 t u → Inputs input.End true u v old new → PollsAll new t v
polls_all old new t u v le g has =
    let took = subst (λ (x : Told). Inputs input.End true x v old new) g.told has in
    let asked = with_ask true (at g) in
    let few : length new ≤ most_input = omega (arith, ap length took.1) in
    let polls : Polls new true 0 t v = record {
      polls = raised g.polls 1;
      asks = asked;
      told = took.0 ∙ ap (λ (l : List ℕ). with_input t (more t.polled l) (length l) (raised g.polls 1) asked true 0) (sym took.1);
    } in
    (true, polls, inl (refl, few))

-- a poll failed
pub polls_failed : (old new : List ℕ) (t u v : Told) → Polls old false 0 t u → Inputs input.Failed true u v old new → PollsSome error.Failed t v
polls_failed old new t u v g has =
    let took = subst (λ (x : Told). Inputs input.Failed true x v old new) g.told has in
    let rose : 0 < took.0 = omega (arith, took.1) in
    let polls : Polls old false took.0 t v = record { polls = raised g.polls 1; asks = g.asks; told = took.2 } in
    (old, took.0, rose, polls)

-- there was no memory for a piece
pub polls_short : (old new : List ℕ) (t u v : Told) → Polls old false 0 t u → Inputs input.NoMemory true u v old new → PollsSome error.NoMemory t v
polls_short old new t u v g has = (old, record { polls = g.polls; asks = g.asks; told = has.0 ∙ g.told })
