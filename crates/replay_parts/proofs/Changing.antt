-- What a line changes, as its answer has it.
use Rattle.std.proofs.Common.{◌≡◌, ◌≤◌, ◌<◌, ◌+◌, ◌-◌, ◌^◌, ℕ, Bool, true, false, cond, List, length, refl, sym, ap, ◌∙◌, subst, arith}
use Rattle.std.specs.Prelude.{not, nat_lt, slice_index}
use Rattle.std.proofs.lemmas.Bool.Decides.{nat_tests}
use Rattle.std.proofs.lemmas.List.{length-map}
use Rattle.break_table.specs.Entry.{asked_of}
use Rattle.break_table.specs.Table.{Table}
use Rattle.break_table.specs.Text.{is_place}
use Rattle.dbg_model.specs.declared.opening.Opening.{Opening}
use Rattle.dbg_model.specs.Limits.{history}
use Rattle.dbg_model.specs.declared.hart.Hart.{Hart}
use Rattle.dbg_model.specs.State.{State, any_leaves, is_off}
use Rattle.dbg_model.specs.Lawful.{may_do, may_go}
use Rattle.dbg_model.specs.Outcome.{Change, stays, resumes, selects, interrupts, displaces, inserts, adds_watch, deletes, enables, conditions, ignores, pokes, exits}
use Rattle.dbg_model.specs.Reply.{answer_of, asked, changed_by, done_by, forgetting, given_after, harts_after, resumed, sets_after}
use Rattle.dbg_model.proofs.Options.{both_true}
use Rattle.dbg_model.proofs.Founding.{IsFounded, change_founded, change_watchable}
use Rattle.dbg_model.proofs.Inserting.{can_insert}
use Rattle.dbg_model.proofs.Naming.{length-on_threads}
use Rattle.dbg_effects.specs.declared.effect.Effect.{Effect}
use Rattle.dbg_effects.specs.declared.effect.Effect.TheVariants as effect
use Rattle.dbg_effects.specs.Effect.{change_of}
use Rattle.dbg_effects.specs.Table.{CanBeMade, CanBeWatched, changed_table}
use Rattle.replay_parts.specs.declared.state.Parts.{Parts}
use Rattle.replay_parts.specs.Parts.{state_of}
use Rattle.replay_parts.specs.Going.{Kept}

-- ---- a line may be done

-- where one may be done there is room for a number more
pub numbers_low : (o : Opening) (p : Parts) (line : List ℕ) → Kept o p → may_do o (state_of p) line ≡ true → p.table.given < 2 ^ 32 - 1
numbers_low o p line kept may =
    let goes = (both_true (may_go o (state_of p)) _ may).0 in
    let behind = (both_true (not (any_leaves p.harts.items)) _ goes).1 in
    let second = (both_true (nat_lt p.retired o.settings.budget) _ behind).1 in
    let low = (both_true (nat_lt p.noted history) _ second).0 in
    below p.table.given p.noted kept.given low
  where
    below : (given noted : ℕ) → given ≤ noted → nat_lt noted history ≡ true → given < 2 ^ 32 - 1
    below given noted le low = grind (arith, nat_tests)

-- and for an entry more
pub history_low : (o : Opening) (s : State) (line : List ℕ) → may_do o s line ≡ true → s.noted < history
history_low o s line may =
    let goes = (both_true (may_go o s) _ may).0 in
    let behind = (both_true (not (any_leaves s.harts)) _ goes).1 in
    let second = (both_true (nat_lt s.retired o.settings.budget) _ behind).1 in
    let low = (both_true (nat_lt s.noted history) _ second).0 in
    grind (arith, nat_tests)

-- ---- a change can be made

can_by : (o : Opening) (p : Parts) (x : Effect) → Kept o p → IsFounded o.image p.harts.items p.table.entries (change_of x) → CanBeMade p.table x
can_by o p (effect.Insert spec) kept f = can_insert o.image p.harts.items p.table (asked_of spec) (kept.places spec.address) (kept.harts ∙ sym kept.waits) f
can_by o p _ kept f = tt

-- the change of a line can be made
pub can_be_made : (o : Opening) (p : Parts) (line : List ℕ) (x : Effect) → Kept o p → change_of x ≡ (answer_of o (state_of p) line).outcome.change → CanBeMade p.table x
can_be_made o p line x kept is = can_by o p x kept (subst (IsFounded o.image p.harts.items p.table.entries) (sym is) (change_founded o (state_of p) line))

watched_by : (o : Opening) (p : Parts) (line : List ℕ) (x : Effect) → change_of x ≡ (answer_of o (state_of p) line).outcome.change → CanBeWatched p.watches x
watched_by o p line (effect.Watch text b) is = change_watchable o (state_of p) line text b (sym is)
watched_by o p line _ is = tt

-- a watch of a line can be added
pub can_be_watched : (o : Opening) (p : Parts) (line : List ℕ) (x : Effect) → change_of x ≡ (answer_of o (state_of p) line).outcome.change → CanBeWatched p.watches x
can_be_watched o p line x is = watched_by o p line x is

-- ---- the state after a line

pub done_is : (o : Opening) (s : State) (line : List ℕ) (c : Change) → c ≡ (answer_of o s line).outcome.change → changed_by s c ≡ done_by o s line
unfolding done_by
done_is o s line c is = ap (changed_by s) is

length_after : (xs : List Hart) (c : Change) → length (harts_after xs c) ≡ length xs
length_after xs (resumes ts plan) = length-on_threads (resumed plan) ts 1 xs
length_after xs (interrupts ts) = length-on_threads asked ts 1 xs
length_after xs (deletes ns) = length-map xs (forgetting ns)
length_after xs (enables true ns) = refl
length_after xs (enables false ns) = length-map xs (forgetting ns)
length_after xs _ = refl

given_more : (n : ℕ) (c : Change) → given_after n c ≤ n + 1
given_more n stays = omega arith
given_more n (resumes ts plan) = omega arith
given_more n (selects t) = omega arith
given_more n (inserts a) = omega arith
given_more n (adds_watch text b) = omega arith
given_more n (deletes ns) = omega arith
given_more n (enables b ns) = omega arith
given_more n (conditions k c) = omega arith
given_more n (ignores k m) = omega arith
given_more n (interrupts ts) = omega arith
given_more n (displaces d) = omega arith
given_more n (pokes p) = omega arith
given_more n exits = omega arith

sets_by_more : (n : ℕ) (b : Bool) → cond b n (n + 1) ≤ n + 1
sets_by_more n true = omega arith
sets_by_more n false = omega arith

sets_more : (n : ℕ) (c : Change) → sets_after n c ≤ n + 1
sets_more n stays = omega arith
sets_more n (resumes ts plan) = omega arith
sets_more n (selects t) = omega arith
sets_more n (inserts a) = omega arith
sets_more n (adds_watch text b) = omega arith
sets_more n (deletes ns) = omega arith
sets_more n (enables b ns) = omega arith
sets_more n (conditions k c) = omega arith
sets_more n (ignores k m) = omega arith
sets_more n (interrupts ts) = omega arith
sets_more n (displaces d) = sets_by_more n (is_off d)
sets_more n (pokes p) = omega arith
sets_more n exits = omega arith

pub still_kept : (o : Opening) (old new : Parts) (c : Change) → Kept o old → old.noted < history → state_of new ≡ changed_by (state_of old) c → new.table ≡ changed_table old.table c → new.sources ≡ old.sources → new.words ≡ old.words
    → Kept o new
still_kept o old new c kept low state table sources words =
    let given : new.table.given ≡ given_after old.table.given c = ap (λ (t : Table). t.given) table in
    let noted : new.noted ≡ old.noted + 1 = ap (λ (s : State). s.noted) state in
    let more = given_more old.table.given c in
    let before = kept.given in
    let sets : new.sets ≡ sets_after old.sets c = ap (λ (s : State). s.sets) state in
    let sets_low = sets_more old.sets c in
    let sets_before = kept.sets in
    record {
      sources = sources ∙ kept.sources;
      words = words ∙ kept.words;
      harts = ap (λ (s : State). length s.harts) state ∙ (length_after old.harts.items c ∙ kept.harts);
      places = λ addr. ap (λ (t : Table). is_place t.text addr) table ∙ kept.places addr;
      waits = ap (λ (t : Table). length t.waits) table ∙ kept.waits;
      given = omega arith;
      few = kept.few;
      budget = kept.budget;
      counts = ap (λ (s : State). length s.passed) state ∙ kept.counts;
      passed = λ k. subst (λ (s : State). slice_index s.passed k ≤ s.retired) (sym state) (kept.passed k);
      sets = omega arith;
      noted = omega (arith, low, noted);
      owing = λ p is. omega (arith, low, noted);
    }
