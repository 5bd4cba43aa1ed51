-- The text of a line, one word after the other.
use Rattle.std.proofs.Common.{◌≡◌, ℕ, List, ◌∷◌, ◌++◌, Option, Some, None, refl}
use Rattle.break_table.specs.declared.due.CondError.{CondError}
use Rattle.break_table.specs.declared.due.CondError.TheVariants.{DivZero, Unread}
use Rattle.dbg_model.specs.declared.entry.Why.{Why}
use Rattle.dbg_model.specs.declared.entry.Why.TheVariants.{Break, Watch, Stepped, Finished, Interrupted, Fault}
use Rattle.session_log.specs.Words.{line_of}
use Rattle.session_log.specs.Rows.{error_words, why_words}

pub error_line : (w : List ℕ) (e : Option CondError) → line_of (w ∷ error_words e) ≡ w ++ 32 ∷ line_of (error_words e)
error_line w None = refl
error_line w (Some DivZero) = refl
error_line w (Some (Unread address)) = refl

pub why_line : (w : List ℕ) (y : Why) → line_of (w ∷ why_words y) ≡ w ++ 32 ∷ line_of (why_words y)
why_line w (Break number error) = refl
why_line w (Watch f) = refl
why_line w Stepped = refl
why_line w Finished = refl
why_line w Interrupted = refl
why_line w (Fault cause) = refl
