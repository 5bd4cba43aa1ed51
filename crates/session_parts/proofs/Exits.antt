-- The lines of exits, entry by entry.
use Rattle.std.proofs.Common.{◌≡◌, ℕ, ◌+◌, ◌%◌, Bool, true, false, cond, List, [], ◌∷◌, ◌++◌, refl, sym, ap, ◌∙◌, append_assoc}
use Rattle.std.specs.Prelude.{◌&&◌, ◌||◌}
use mathlib.Core.List.{append-nil}
use Rattle.dbg_model.specs.declared.entry.Entry.{Entry}
use Rattle.dbg_model.specs.declared.entry.Entry.TheVariants.{Ran, Counted, Stopped, Left, Did, Poked}
use Rattle.dbg_model.specs.declared.entry.Mode.{Mode}
use Rattle.dbg_model.specs.declared.entry.Mode.TheVariants as mode
use Rattle.dbg_model.specs.declared.hart.Hart.{Hart}
use Rattle.dbg_model.specs.State.{all_gone, any_leaves, is_leaving}
use Rattle.dbg_model.specs.Leaving.{LeaveWith, LeavesWith, left_one, lefts_from}
use Rattle.mi_values.specs.Record.{LineTree}
use Rattle.mi_reports.specs.Text.{exit_lines, gone_lines}
use Rattle.mi_reports.specs.Lines.{lines_of}
use Rattle.mi_reports.proofs.Leaving.{gone_trees}
use Rattle.engine_parts.specs.declared.moving.Move.{Move}
use Rattle.engine_parts.specs.Seen.{Engine, seen}
use Rattle.engine_parts.specs.Shown.{shown_by}
use Rattle.session_parts.specs.Reported.{shown_lines}

-- entries of exits with a code
abbrev pub AreLefts : ℕ → List Entry → Type 0
AreLefts code [] = Unit {0}
AreLefts code (Left h c ∷ es) = (c ≡ code) × AreLefts code es
AreLefts code (_ ∷ es) = ⊥

left_here : (code k : ℕ) (m : Mode) (es : List Entry) → LeavesWith code m → AreLefts code es → AreLefts code (left_one k m ++ es)
left_here code k mode.Stopped es is more = more
left_here code k mode.Running es is more = more
left_here code k (mode.Leaving c) es is more = (is, more)
left_here code k mode.Exited es is more = more

pub are_lefts : (code k : ℕ) (xs : List Hart) → LeaveWith code xs → AreLefts code (lefts_from k xs)
are_lefts code k [] is = tt
are_lefts code k (x ∷ xs) is = left_here code k x.mode (lefts_from (k + 1) xs) is.0 (are_lefts code (k + 1) xs is.1)

-- the line of the program's exit, where it is told of the last of some entries
abbrev pub last_lines : Bool → List Entry → ℕ → List LineTree
last_lines all [] code = []
last_lines all (e ∷ es) code = cond all (exit_lines (code % 256)) []

left_shows : (m : Move) (s : Engine) (h code : ℕ) (last : Bool) → lines_of (Left h code) (shown_by s m (Left h code) last) ≡ gone_lines h ++ cond (last && all_gone (seen s).harts) (exit_lines (code % 256)) []
left_shows m s h code last = refl

pub shows_lefts : (m : Move) (s : Engine) (code : ℕ) (es : List Entry) → AreLefts code es → shown_lines s m es ≡ gone_trees es ++ last_lines (all_gone (seen s).harts) es code
shows_lefts m s code [] are = refl
shows_lefts m s code (Ran h n ∷ es) are = absurd are
shows_lefts m s code (Counted h ∷ es) are = absurd are
shows_lefts m s code (Stopped h why ∷ es) are = absurd are
shows_lefts m s code (Did line ∷ es) are = absurd are
shows_lefts m s code (Poked p ∷ es) are = absurd are
shows_lefts m s code (Left h c ∷ []) are =
    let exit = λ (d : ℕ). cond (all_gone (seen s).harts) (exit_lines (d % 256)) [] in
    append-nil (lines_of (Left h c) (shown_by s m (Left h c) true))
    ∙ (left_shows m s h c true ∙ (ap (λ d. gone_lines h ++ exit d) are.0 ∙ ap (λ t. t ++ exit code) (sym (append-nil (gone_lines h)))))
shows_lefts m s code (Left h c ∷ e ∷ es) are =
    let more = shows_lefts m s code (e ∷ es) are.1 in
    ap (λ t. t ++ shown_lines s m (e ∷ es)) (left_shows m s h c false ∙ append-nil (gone_lines h))
    ∙ (ap (λ t. gone_lines h ++ t) more ∙ sym (append_assoc (gone_lines h) (gone_trees (e ∷ es)) (last_lines (all_gone (seen s).harts) (e ∷ es) code)))

some_left : (k : ℕ) (m : Mode) (es : List Entry) (all b : Bool) (code : ℕ) → (is_leaving m || b) ≡ true → (b ≡ true → last_lines all es code ≡ cond all (exit_lines (code % 256)) [])
    → last_lines all (left_one k m ++ es) code ≡ cond all (exit_lines (code % 256)) []
some_left k mode.Stopped es all b code some more = more some
some_left k mode.Running es all b code some more = more some
some_left k (mode.Leaving c) es all b code some more = refl
some_left k mode.Exited es all b code some more = more some

-- some harts left
pub lefts_last : (k : ℕ) (xs : List Hart) (all : Bool) (code : ℕ) → any_leaves xs ≡ true → last_lines all (lefts_from k xs) code ≡ cond all (exit_lines (code % 256)) []
lefts_last k [] all code some = cc
lefts_last k (x ∷ xs) all code some = some_left k x.mode (lefts_from (k + 1) xs) all (any_leaves xs) code some (lefts_last (k + 1) xs all code)
