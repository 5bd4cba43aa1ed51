-- Which harts of an engine run, and whether lines stand in a rest of the input.
use Rattle.std.proofs.Common.{◌≡◌, ◌<◌, ℕ, suc, Bool, true, false, List, [], ◌∷◌, length, refl, sym, ap, ◌∙◌, arith, not}
use Rattle.std.specs.Prelude.{Option, Some, None, IfSome, IfNone, is_some, is_none, ◌&&◌, ◌||◌, slice_get, take}
use mathlib.Core.List.{append-nil}
use Rattle.std.specs.Option.{option_map}
use Rattle.scratch_slots.specs.declared.slots.SlotUse.{SlotUse}
use Rattle.scratch_slots.specs.Table.{least_free, AllOut}
use Rattle.mi_input.specs.Lines.{IsNext, lines}
use Rattle.dbg_model.proofs.Options.{both_true}
use Rattle.engine_parts.specs.declared.mind.Mind.{Mind}
use Rattle.engine_parts.specs.Minds.{runs}
use Rattle.engine_parts.specs.Seen.{Engine, seen}
use Rattle.engine_parts.specs.Facts.{Facts}
use Rattle.engine_parts.specs.Movers.{runs_at, is_free, are_out, waits_for_slot}
use Rattle.engine_parts.proofs.Movers.{runs_mind}
use Rattle.session_parts.specs.Stage.{stage_of, moves_at}
use Rattle.session_parts.specs.Taking.{has_line, is_some_line}

pub and_false : (b : Bool) → (b && false) ≡ false
and_false true = refl
and_false false = refl

pub or_true : (b : Bool) → (b || true) ≡ true
or_true true = refl
or_true false = refl

-- ---- whether all slots are out

none_least : (slots : List (Option SlotUse)) → AllOut slots → least_free slots ≡ None
none_least [] out = refl
none_least (None ∷ slots) out = absurd (out 0 refl)
none_least (Some u ∷ slots) out = ap (option_map suc) (none_least slots (λ k at. out (suc k) at))

pub out_so : (slots : List (Option SlotUse)) → 0 < length slots → AllOut slots → are_out slots ≡ true
out_so [] some out = absurd (omega arith)
out_so (u ∷ slots) some out = ap is_none (none_least (u ∷ slots) out)

-- a whole line stands in a rest whose next line is found
pub next_stands : (ended : Bool) (rest line : List ℕ) (next : ℕ) → IsNext ended rest line next → has_line ended rest ≡ true
next_stands true rest line next is = ap is_some_line is
next_stands false rest line next is = ap (λ r. is_some_line (lines r false)) (sym (append-nil rest)) ∙ ap is_some_line (is [] false)

-- whether a whole line stands in a rest that was searched
pub line_is : (ended : Bool) (rest xs : List ℕ) (r : Option (ℕ × ℕ)) → xs ≡ rest → IfSome r (λ p. IsNext ended xs (take p.0 xs) p.1) → IfNone r (lines xs ended ≡ []) → is_some r ≡ has_line ended rest
line_is ended rest xs None same next none = sym (ap is_some_line (ap (λ t. lines t ended) (sym same) ∙ none))
line_is ended rest xs (Some p) same next none = sym (ap (has_line ended) (sym same) ∙ next_stands ended xs (take p.0 xs) p.1 next)

-- whether a session is open: it ended, a hart runs, and a line stands at the end
pub open_running : (ended running line : Bool) → running ≡ true → not ((ended && not running) && not line) ≡ true
open_running true running line run = rw run refl
open_running false running line run = refl

pub open_polled : (ended running line : Bool) → ended ≡ false → not ((ended && not running) && not line) ≡ true
open_polled ended running line polled = rw polled refl

pub open_line : (ended running line : Bool) → line ≡ true → not ((ended && not running) && not line) ≡ true
open_line true true line some = refl
open_line true false line some = rw some refl
open_line false running line some = refl

-- a hart that can be moved runs
pub mover_runs : (e : Engine) (h : ℕ) (x : Mind) → Facts e → slice_get e.minds h ≡ Some x → moves_at (stage_of e) h ≡ true → runs x ≡ true
mover_runs e h x f at is =
    let first = both_true (runs_at (seen e).harts h && is_free e.hold h) (not (waits_for_slot e.machine.slots e.minds h)) is in
    sym (runs_mind e.opening.image e.machine.cores e.minds h x f.sound.harts.len at) ∙ (both_true (runs_at (seen e).harts h) (is_free e.hold h) first.0).0
