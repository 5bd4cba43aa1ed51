-- What became of a line, and what the line did by it. This project's own.
use Rattle.std.specs.Prelude.{◌≡◌, ℕ, true, false, List, Result, Ok, Err, None, Some, MatchResult}
use Rattle.dbg_traits.specs.Told.{Told}
use Rattle.dbg_model.specs.declared.reply.Reply.{Reply}
use Rattle.engine_parts.specs.Seen.{Engine}
use Rattle.mi_reports.specs.Replies.{reply_lines}
use Rattle.session_parts.specs.Puts.{PutsLines}
use Rattle.session_parts.specs.Steps.{Answers}
use Rattle.session_parts.specs.declared.line.Done.{Done}
use Rattle.session_parts.specs.declared.line.Done.TheVariants as done
use Rattle.session_loop.specs.declared.steps.Carried.{Carried}
use Rattle.session_loop.specs.declared.steps.Carried.TheVariants as carried

-- The line was done, and its reply put where there was memory for it; or it waits; or there was no memory to do it.
abbrev pub Carries : {W : Type 0} → (W → Told) → Carried → List ℕ → Engine → Engine → W → W → Type 0
Carries told (carried.Did put) line old new w x =
    (reply : Reply) × Answers line (Some reply) old new × MatchResult put (λ p. PutsLines p (reply_lines reply) (told w) (told x)) (λ _. x ≡ w)
Carries told carried.Waits line old new w x = Answers line None old new × (x ≡ w)
Carries told carried.NoMemory line old new w x = (new ≡ old) × (x ≡ w)

abbrev pub done_of : Carried → ℕ → Done
done_of (carried.Did (Ok true)) next = done.Done next
done_of (carried.Did (Ok false)) next = done.Unput next
done_of (carried.Did (Err _)) next = done.Unsaid next
done_of carried.Waits next = done.Waits
done_of carried.NoMemory next = done.NoMemory
