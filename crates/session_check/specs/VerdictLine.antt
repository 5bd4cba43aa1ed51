-- The line of a check: this project's own form.
use Rattle.std.specs.Prelude.{ℕ, List, [], ◌∷◌, ◌++◌, codes, decimal}
use Rattle.session_log.specs.declared.fault.FaultKind.{FaultKind}
use Rattle.session_log.specs.declared.fault.FaultKind.TheVariants.{Line, Order, End}
use Rattle.session_check.specs.declared.finding.Finding.{Finding}
use Rattle.session_check.specs.declared.finding.Finding.TheVariants.{Accepted, Long, Fault, Unlawful, Differs}
use Rattle.session_check.specs.Findings.{most_input}

abbrev pub fault_name : FaultKind → List ℕ
fault_name Line = codes "Line"
fault_name Order = codes "Order"
fault_name End = codes "End"

-- a kind, and the place: of a fault its line from 1, of an entry its number from 1, of a difference and of what is too long a byte from 0
abbrev pub rejected_text : List ℕ → ℕ → List ℕ
rejected_text kind place = codes "check rejected " ++ (kind ++ (codes " at " ++ (decimal place ++ 10 ∷ [])))

abbrev pub accepted_text : ℕ → List ℕ
accepted_text count = codes "check accepted " ++ (decimal count ++ 10 ∷ [])

unfoldable pub verdict_line : Finding → List ℕ
verdict_line (Accepted count) = accepted_text count
verdict_line Long = rejected_text (codes "Long") most_input
verdict_line (Fault f) = rejected_text (fault_name f.kind) f.line
verdict_line (Unlawful number) = rejected_text (codes "Unlawful") number
verdict_line (Differs place) = rejected_text (codes "Differs") place
