-- Lines behind lines.
use Rattle.std.proofs.Common.{◌≡◌, ℕ, List, [], ◌∷◌, ◌++◌, sym, ap, ◌∙◌}
use Rattle.std.proofs.lemmas.Grind.{flat_map-append}
use Rattle.mi_values.specs.Record.{LineTree, line_bytes}
use Rattle.mi_values.specs.Records.{lines_bytes, AreLines, AreRecords}

pub lines_joined : (xs ys : List LineTree) → AreLines xs → AreLines ys → AreLines (xs ++ ys)
lines_joined [] ys h g = g
lines_joined (x ∷ xs) ys h g = (h.0, lines_joined xs ys h.1 g)

pub bytes_joined : (xs ys : List LineTree) → lines_bytes (xs ++ ys) ≡ lines_bytes xs ++ lines_bytes ys
bytes_joined xs ys = flat_map-append line_bytes xs ys

pub records_joined : (a b : List ℕ) (xs ys : List LineTree) → AreRecords a xs → AreRecords b ys → AreRecords (a ++ b) (xs ++ ys)
records_joined a b xs ys r s = record {
  lines = lines_joined xs ys r.lines s.lines;
  text = ap (λ (l : List ℕ). l ++ b) r.text ∙ (ap (λ (l : List ℕ). lines_bytes xs ++ l) s.text ∙ sym (bytes_joined xs ys));
}
