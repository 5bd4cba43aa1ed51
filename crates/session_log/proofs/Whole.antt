-- The lines of rows and of logs.
use Rattle.std.proofs.Common.{◌≡◌, ℕ, ◌^◌, ◌<◌, true, not, List, [], ◌∷◌, ◌++◌, length, map, refl, sym, ap, ◌∙◌, append_assoc, arith}
use Rattle.std.proofs.lemmas.Bool.{and_parts}
use Rattle.std.proofs.lemmas.Bool.Decides.{nat_tests}
use Rattle.std.proofs.lemmas.List.{append-nil}
use Rattle.std.proofs.lemmas.List.Concat.{flat_map-cons}
use Rattle.std.specs.List.{flat_map}
use Rattle.std.specs.Prelude.{codes, decimal}
use Rattle.dbg_traits.specs.declared.settings.Settings.{Settings}
use Rattle.dbg_model.specs.declared.entry.Poke.TheVariants.{Register, Bytes}
use Rattle.dbg_model.specs.declared.entry.Why.{Why}
use Rattle.dbg_model.specs.declared.entry.Entry.{Entry}
use Rattle.dbg_model.specs.declared.entry.Entry.TheVariants.{Ran, Counted, Stopped, Left, Did, Poked}
use Rattle.session_log.specs.declared.row.LogRow.{LogRow}
use Rattle.session_log.specs.declared.row.LogRow.TheVariants as rows
use Rattle.session_log.specs.Words.{line_of}
use Rattle.session_log.specs.Rows.{why_words, FitsText, row_words, row_text}
use Rattle.session_log.specs.LogText.{AreEntries, FitsLog, entry_text, log_text, lines, is_lf, is_marked}
use Rattle.session_log.specs.Guess.{is_gap}
use Rattle.session_log.proofs.Cuts.{none_pass}
use Rattle.session_log.proofs.Guesses.{Clean, clean_row}
use Rattle.session_log.proofs.Pieces.{joined, IsOneLine, lf_line, byte_line, word_line}

no_lf : (b : ℕ) → not (is_gap b) ≡ true → not (is_lf b) ≡ true
no_lf b h = grind (arith, nat_tests)

word_without : (w : List ℕ) → none_pass is_gap w ≡ true → none_pass is_lf w ≡ true
word_without [] h = refl
word_without (b ∷ w) h = let k = and_parts (not (is_gap b)) (none_pass is_gap w) h in rw (no_lf b k.0, word_without w k.1) refl

words_line : (ws : List (List ℕ)) → Clean ws → 0 < length ws → IsOneLine (line_of ws)
words_line [] h some = absurd (omega arith)
words_line (w ∷ []) h some = word_line w (10 ∷ []) (word_without w h.0) lf_line
words_line (w ∷ v ∷ ws) h some =
    word_line w (32 ∷ line_of (v ∷ ws)) (word_without w h.0) (byte_line 32 (line_of (v ∷ ws)) refl (words_line (v ∷ ws) h.1 (omega arith)))

some_words : (r : LogRow) → 0 < length (row_words r)
some_words (rows.Head s) = omega arith
some_words (rows.Entry (Ran t n)) = omega arith
some_words (rows.Entry (Counted t)) = omega arith
some_words (rows.Entry (Stopped t y)) = omega arith
some_words (rows.Entry (Left t n)) = omega arith
some_words (rows.Entry (Did [])) = omega arith
some_words (rows.Entry (Did (b ∷ bs))) = omega arith
some_words (rows.Entry (Poked (Register t n v))) = omega arith
some_words (rows.Entry (Poked (Bytes a bs))) = omega arith
some_words (rows.End k) = omega arith

pub row_lines : (r : LogRow) → FitsText r → (rest : List ℕ) → lines (row_text r ++ rest) ≡ row_text r ∷ lines rest
row_lines r h = (words_line (row_words r) (clean_row r h) (some_words r)).0

why_marked : (t : ℕ) (y : Why) → row_text (rows.Entry (Stopped t y)) ≡ codes "#stopped" ++ 32 ∷ line_of (decimal t ∷ why_words y)
why_marked t y = refl

pub row_marked : (r : LogRow) → is_marked (row_text r) ≡ true
row_marked (rows.Head s) = refl
row_marked (rows.Entry (Ran t n)) = refl
row_marked (rows.Entry (Counted t)) = refl
row_marked (rows.Entry (Stopped t y)) = ap is_marked (why_marked t y)
row_marked (rows.Entry (Left t n)) = refl
row_marked (rows.Entry (Did [])) = refl
row_marked (rows.Entry (Did (b ∷ bs))) = refl
row_marked (rows.Entry (Poked (Register t n v))) = refl
row_marked (rows.Entry (Poked (Bytes a bs))) = refl
row_marked (rows.End k) = refl

-- ---- logs

abbrev pub log_lines : Settings → List Entry → List (List ℕ)
log_lines s j = row_text (rows.Head s) ∷ (map entry_text j ++ row_text (rows.End (length j)) ∷ [])

joined_entries : (j : List Entry) (t : List ℕ) → joined (map entry_text j ++ t ∷ []) ≡ flat_map entry_text j ++ t
joined_entries [] t = append-nil t
joined_entries (e ∷ j) t =
    ap (λ (l : List ℕ). entry_text e ++ l) (joined_entries j t) ∙ sym (append_assoc (entry_text e) (flat_map entry_text j) t) ∙ ap (λ (l : List ℕ). l ++ t) (sym (flat_map-cons entry_text e j))

pub joined_log : (s : Settings) (j : List Entry) → joined (log_lines s j) ≡ log_text s j
joined_log s j = ap (λ (l : List ℕ). row_text (rows.Head s) ++ l) (joined_entries j (row_text (rows.End (length j))))

entries_lines : (j : List Entry) (k : ℕ) → AreEntries j → k < 2 ^ 64 → lines (flat_map entry_text j ++ row_text (rows.End k)) ≡ map entry_text j ++ row_text (rows.End k) ∷ []
entries_lines [] k h lt = ap lines (sym (append-nil (row_text (rows.End k)))) ∙ row_lines (rows.End k) lt []
entries_lines (e ∷ j) k h lt =
    ap (λ (l : List ℕ). lines (l ++ row_text (rows.End k))) (flat_map-cons entry_text e j)
    ∙ ap lines (append_assoc (entry_text e) (flat_map entry_text j) (row_text (rows.End k)))
    ∙ row_lines (rows.Entry e) h.0.text (flat_map entry_text j ++ row_text (rows.End k))
    ∙ ap (λ (ls : List (List ℕ)). entry_text e ∷ ls) (entries_lines j k h.1 lt)

pub log_in_lines : (s : Settings) (j : List Entry) → FitsLog s j → lines (log_text s j) ≡ log_lines s j
log_in_lines s j h =
    row_lines (rows.Head s) h.head.text (flat_map entry_text j ++ row_text (rows.End (length j)))
    ∙ ap (λ (ls : List (List ℕ)). row_text (rows.Head s) ∷ ls) (entries_lines j (length j) h.entries h.count)
