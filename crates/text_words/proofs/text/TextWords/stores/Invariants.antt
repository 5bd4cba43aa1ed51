use Rattle.std.proofs.Common.{◌≡◌, ℕ, ◌<◌, Some}
use Rattle.std.specs.Prelude.{slice_get}
use Rattle.text_words.specs.Words.{IsStoredAt}
use Rattle.text_words.proofs.text.TextWords.stores.Given as goal

abbrev pub invariant-loop-i : goal.invariant-loop-i
invariant-loop-i l = (k w : ℕ) → k < l.i → slice_get l.words k ≡ Some w → IsStoredAt l.self l.addr k w
