-- What became of a line is what the line did.
use Rattle.std.proofs.Common.{◌≡◌, ◌<◌, ◌≤◌, ◌+◌, ℕ, List, length, ap, sym, subst, arith}
use Rattle.std.specs.Prelude.{Bool, true, false, Some, Ok, Err}
use Rattle.dbg_traits.specs.Told.{Told}
use Rattle.dbg_model.specs.declared.reply.Reply.{Reply}
use Rattle.engine_parts.specs.Facts.{Facts}
use Rattle.engine_parts.specs.Seen.{Engine}
use Rattle.mi_input.specs.Lines.{IsNext}
use Rattle.mi_reports.specs.Replies.{reply_lines}
use Rattle.session_parts.specs.Stage.{most_added, stage_of, work_of}
use Rattle.session_parts.specs.Steps.{Answers, Does, DoesLine, Keeps}
use Rattle.session_parts.proofs.Saying.{does_say}
use Rattle.session_parts.proofs.Doing.{does_line, keeps, says_put, must_wait, stands}
use Rattle.session_loop.specs.Carrying.{Carries, done_of}
use Rattle.session_loop.specs.declared.steps.Carried.{Carried}
use Rattle.session_loop.specs.declared.steps.Carried.TheVariants as carried

-- an engine that didn't change has as much left to do
pub same_work : (e s : Engine) → s ≡ e → work_of (stage_of s) ≤ work_of (stage_of e) + most_added
same_work e s is =
    let least : work_of (stage_of e) ≤ work_of (stage_of e) + most_added = omega arith in
    subst (λ (t : Engine). work_of (stage_of t) ≤ work_of (stage_of e) + most_added) (sym is) least

pub carried_work : {W : Type 0} (told : W → Told) (k : Carried) (line : List ℕ) (e s : Engine) (w x : W) → Facts e → Facts s → Carries told k line e s w x → work_of (stage_of s) ≤ work_of (stage_of e) + most_added
carried_work told (carried.Did put) line e s w x f g m = (does_say e s line m.0 f g m.1.1).work
carried_work told carried.Waits line e s w x f g m = same_work e s m.0.1
carried_work told carried.NoMemory line e s w x f g m = same_work e s m.0

pub carried_opening : {W : Type 0} (told : W → Told) (k : Carried) (line : List ℕ) (e s : Engine) (w x : W) → Facts e → Facts s → Carries told k line e s w x → s.opening ≡ e.opening
carried_opening told (carried.Did put) line e s w x f g m = (does_say e s line m.0 f g m.1.1).opening
carried_opening told carried.Waits line e s w x f g m = ap (λ (r : Engine). r.opening) m.0.1
carried_opening told carried.NoMemory line e s w x f g m = ap (λ (r : Engine). r.opening) m.0

-- a line that was done is the next of the rest
pub carried_line : (ended : Bool) (rest line : List ℕ) (next : ℕ) (e s : Engine) (reply : Reply) → Facts e → Facts s → IsNext ended rest line next → 0 < next → next ≤ length rest
    → Answers line (Some reply) e s → DoesLine ended rest next (stage_of e) (stage_of s)
carried_line ended rest line next e s reply f g is_next some within a = does_line ended rest line next e s reply is_next some within (sym a.0) (does_say e s line reply f g a.1)

pub carried_does : {W : Type 0} (told : W → Told) (k : Carried) (ended : Bool) (rest line : List ℕ) (next : ℕ) (e s : Engine) (w x : W) → Facts e → Facts s → IsNext ended rest line next → 0 < next → next ≤ length rest
    → Carries told k line e s w x → Does (done_of k next) ended rest (told w) (told x) (stage_of e) (stage_of s)
carried_does told (carried.Did (Ok true)) ended rest line next e s w x f g is_next some within m = (
  says_put true (told w) (told x) (stage_of e) (stage_of s) (reply_lines m.0) (does_say e s line m.0 f g m.1.1).said m.2,
  carried_line ended rest line next e s m.0 f g is_next some within m.1,
)
carried_does told (carried.Did (Ok false)) ended rest line next e s w x f g is_next some within m = (
  says_put false (told w) (told x) (stage_of e) (stage_of s) (reply_lines m.0) (does_say e s line m.0 f g m.1.1).said m.2,
  carried_line ended rest line next e s m.0 f g is_next some within m.1,
)
carried_does {W} told (carried.Did (Err _)) ended rest line next e s w x f g is_next some within m = (
  subst (λ (y : W). Keeps (told w) (told y) (stage_of e) (stage_of s)) (sym m.2) (keeps (told w) (stage_of e) (stage_of s) (reply_lines m.0) (does_say e s line m.0 f g m.1.1).said),
  carried_line ended rest line next e s m.0 f g is_next some within m.1,
)
carried_does told carried.Waits ended rest line next e s w x f g is_next some within m =
    let d = must_wait e ended rest line next is_next (sym m.0.0) in
    (ap told m.1, ap stage_of m.0.1, d.waits, d.runs)
carried_does told carried.NoMemory ended rest line next e s w x f g is_next some within m = (ap told m.1, ap stage_of m.0, stands ended rest line next is_next)
