-- Where a hart stays by line tables that are an engine's, it stays on the line of that engine.
use Rattle.std.proofs.Common.{◌≡◌, ℕ, subst}
use Rattle.std.specs.Prelude.{◌⊎◌}
use Rattle.hart_machine.specs.Patched.{Patched}
use Rattle.hart_machine.specs.Running.{HasStopped}
use Rattle.line_index.specs.Lines.{Lines}
use Rattle.engine_parts.specs.Seen.{Engine}
use Rattle.engine_parts.specs.Staying.{AllStay, EndsLine, LineView}
use Rattle.engine_parts.specs.Watching.{WritesNear}
use Rattle.engine_parts.proofs.OnLines.{on_line}

-- the hart on its line by other tables
abbrev on_line_of : Engine → ℕ → ℕ → ℕ → Lines → LineView
on_line_of r h file line ls = record (on_line r h file line) { lines = ls }

pub own_stays : (r : Engine) (h file line n last : ℕ) (ls : Lines) (old new : Patched) → ls ≡ r.sources.lines → AllStay (on_line_of r h file line ls) n last old new → AllStay (on_line r h file line) n last old new
own_stays r h file line n last ls old new same = subst (λ l. AllStay (on_line_of r h file line l) n last old new) same

pub own_ends : (r : Engine) (h file line : ℕ) (ls : Lines) (m : Patched) → ls ≡ r.sources.lines → HasStopped m h ⊎ (WritesNear m h r.watches ⊎ EndsLine (on_line_of r h file line ls) m)
    → HasStopped m h ⊎ (WritesNear m h r.watches ⊎ EndsLine (on_line r h file line) m)
own_ends r h file line ls m same = subst (λ l. HasStopped m h ⊎ (WritesNear m h r.watches ⊎ EndsLine (on_line_of r h file line l) m)) same
