-- Texts that are written are lines.
use Rattle.std.proofs.Common.{◌≡◌, ℕ, List, [], ◌++◌, ap, ◌∙◌}
use Rattle.mi_values.specs.Record.{LineTree}
use Rattle.mi_values.specs.Records.{AreLines, AreRecords, lines_bytes}

-- what was put into an empty buffer
pub written_as : (piece new old : List ℕ) (trees : List LineTree) → piece ≡ new → new ≡ old ++ lines_bytes trees → old ≡ [] → AreLines trees → AreRecords piece trees
written_as piece new old trees same put none are = record { lines = are; text = same ∙ (put ∙ ap (λ (t : List ℕ). t ++ lines_bytes trees) none) }
