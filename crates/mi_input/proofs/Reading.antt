-- The parts of a line as a function are the parts by the grammar.
use Rattle.std.proofs.Common.{◌≡◌, ℕ, suc, zero, ◌<◌, List, [], ◌∷◌, ◌++◌, length, take, drop, Bool, true, false, cond, not, ◌&&◌, eqb, Some, None, Result, Ok, Err, refl, sym, ap, subst, ◌∙◌, arith}
use Rattle.std.specs.Prelude.{Option, take_while, option_and_then}
use Rattle.std.specs.Option.{option_map}
use Rattle.std.specs.List.{list_all, prefix_len}
use Rattle.std.proofs.lemmas.Bool.{eqb-true, ne_eqb}
use Rattle.std.proofs.lemmas.List.{take-append-drop, length-drop}
use Rattle.std.proofs.lemmas.List.Folds.{length-prefix_len}
use Rattle.mi_input.specs.declared.parts.Parts.{Parts}
use Rattle.mi_input.specs.declared.parts.InputFault.{InputFault}
use Rattle.mi_input.specs.declared.parts.InputFault.TheVariants as faults
use Rattle.mi_input.specs.Parts.{PartsView, WordView, begins, is_blank, is_word_byte, is_plain, is_parted, after_blanks, token_of, behind_token}
use Rattle.mi_input.specs.Parts.{is_operation, is_operation_byte, IsWord, IsWordOf, IsWords, IsCommand, HasOperation, HasParts, is_cli}
use Rattle.mi_input.specs.Split.{parts_view, Splits}
use Rattle.mi_input.specs.Reading.{text_read, longer, parted_read, plain_run, word_read, words_read, with_words, operation_run, behind_operation, operation_parts, operation_read, command_read, blank_parts, parts_read, Reads}
use Rattle.mi_input.proofs.Options.{bind_some, map_some, guard_some, same_some}
use Rattle.mi_text.specs.Escape.{symbol, symbol_at, IsText}
use Rattle.mi_text.proofs.Symbols.{quote_spells_none, symbol_shorter}
use Rattle.mi_input.proofs.Words.{both, kind_shorter, one_word, one_run, Stops, run_passes, run_stops, cut_back, plain_read, blanks_end, view_of}
use Rattle.mi_input.proofs.Commands.{operation_bytes, parted_ends, cli_no_parts}

-- ---- a byte at the front

pub begins_by : (b : ℕ) (xs : List ℕ) → begins b xs ≡ true → xs ≡ b ∷ drop 1 xs
begins_by b [] h = absurd cc
begins_by b (c ∷ cs) h = ap (λ n. n ∷ cs) (eqb-true c b h)

-- ---- C strings

text_sound_by : (n : ℕ) (bytes t r : List ℕ) (q : Bool) → begins 34 bytes ≡ q
    → cond q (Some ([], drop 1 bytes)) (option_and_then (λ s. option_map (longer s.0) (text_read n s.1)) (symbol_at bytes)) ≡ Some (t, r)
    → ((more u : List ℕ) → text_read n more ≡ Some (u, r) → IsText more u r) → IsText bytes t r
text_sound_by n bytes t r true is h ih =
    let e = same_some ([], drop 1 bytes) (t, r) h in
    let none : [] ≡ t = ap (λ (p : List ℕ × List ℕ). p.0) e in
    let rest : drop 1 bytes ≡ r = ap (λ (p : List ℕ × List ℕ). p.1) e in
    subst (λ (l : List ℕ). IsText bytes l r) none (begins_by 34 bytes is ∙ ap (λ l. 34 ∷ l) rest)
text_sound_by n bytes t r false is h ih =
    let b = bind_some (λ s. option_map (longer s.0) (text_read n s.1)) (symbol_at bytes) (t, r) h in
    let m = map_some (longer b.0.0) (text_read n b.0.1) (t, r) b.2 in
    let head : b.0.0 ∷ m.0.0 ≡ t = ap (λ (p : List ℕ × List ℕ). p.0) m.2 in
    let rest : m.0.1 ≡ r = ap (λ (p : List ℕ × List ℕ). p.1) m.2 in
    let there : text_read n b.0.1 ≡ Some (m.0.0, r) = m.1 ∙ ap (λ l. Some (m.0.0, l)) rest in
    subst (λ (l : List ℕ). IsText bytes l r) head (b.0.1, b.1, ih b.0.1 m.0.0 there)

pub text_sound : (n : ℕ) (bytes t r : List ℕ) → text_read n bytes ≡ Some (t, r) → IsText bytes t r
text_sound zero bytes t r h = absurd cc
text_sound (suc n) bytes t r h = text_sound_by n bytes t r (begins 34 bytes) refl h (λ more u. text_sound n more u r)

no_quote : (bytes more : List ℕ) (b : ℕ) → symbol_at bytes ≡ symbol b more → (q : Bool) → begins 34 bytes ≡ q → q ≡ false
no_quote bytes more b h false is = refl
no_quote bytes more b h true is = let e : symbol_at bytes ≡ None = ap symbol_at (begins_by 34 bytes is) ∙ quote_spells_none (drop 1 bytes) in absurd cc

pub text_complete : (t : List ℕ) (n : ℕ) (bytes r : List ℕ) → length bytes < n → IsText bytes t r → text_read n bytes ≡ Some (t, r)
text_complete t zero bytes r lt h = absurd (omega arith)
text_complete [] (suc n) bytes r lt h = rw h refl
text_complete (b ∷ t) (suc n) bytes r lt h =
    let q = no_quote bytes h.0 b h.1 (begins 34 bytes) refl in
    let short = symbol_shorter bytes h.0 b h.1 in
    let rest : text_read n h.0 ≡ Some (t, r) = text_complete t n h.0 r (omega arith) h.2 in
    rw (q, h.1, rest) refl

-- ---- runs

run_cut : (p : ℕ → Bool) (xs : List ℕ) → take_while p xs ≡ take (prefix_len p xs) xs
run_cut p xs = refl

run_all : (p : ℕ → Bool) (xs : List ℕ) → list_all p (take_while p xs) ≡ true
run_all p xs = ap (list_all p) (run_cut p xs) ∙ run_passes p xs

run_rest : (p : ℕ → Bool) (xs : List ℕ) → drop (length (take_while p xs)) xs ≡ drop (prefix_len p xs) xs
run_rest p xs = ap (λ (n : ℕ). drop n xs) (length-prefix_len p xs)

run_end : (p : ℕ → Bool) (xs : List ℕ) → Stops p (drop (length (take_while p xs)) xs)
run_end p xs = subst (Stops p) (sym (run_rest p xs)) (run_stops p xs)

run_split : (p : ℕ → Bool) (xs : List ℕ) → take_while p xs ++ drop (length (take_while p xs)) xs ≡ xs
run_split p xs = ap (λ l. l ++ drop (length (take_while p xs)) xs) (run_cut p xs) ∙ ap (λ l. take (prefix_len p xs) xs ++ l) (run_rest p xs) ∙ take-append-drop (prefix_len p xs) xs

-- ---- words

abbrev behind : List ℕ → List ℕ
behind bytes = drop (length (plain_run bytes)) bytes

plain_sound : (bytes : List ℕ) → is_parted bytes ≡ false → begins 34 bytes ≡ false → IsWord bytes (plain_run bytes, false) (behind bytes)
plain_sound bytes apart is =
    let end = length (plain_run bytes) in
    let taken : plain_run bytes ≡ take end bytes = run_cut is_word_byte bytes ∙ ap (λ (n : ℕ). take n bytes) (sym (length-prefix_len is_word_byte bytes)) in
    let none : (x : List ℕ) → bytes ≡ 34 ∷ x → ⊥ = λ x e. (let f : begins 34 bytes ≡ true = ap (begins 34) e in absurd cc) in
    subst (λ (l : List ℕ). IsWord bytes (plain_run bytes, false) l) (cut_back bytes end) (plain_read bytes (plain_run bytes) end refl taken apart none)

abbrev word_or : List ℕ → Bool → Option (WordView × List ℕ)
word_or bytes q = cond q (option_and_then parted_read (text_read (length bytes) (drop 1 bytes))) (Some ((plain_run bytes, false), behind bytes))

word_sound_by : (bytes : List ℕ) (w : WordView) (r : List ℕ) (q : Bool) → begins 34 bytes ≡ q → is_parted bytes ≡ false → word_or bytes q ≡ Some (w, r) → IsWord bytes w r
word_sound_by bytes w r true is apart h =
    let b = bind_some parted_read (text_read (length bytes) (drop 1 bytes)) (w, r) h in
    let g = guard_some (is_parted b.0.1) (Some ((b.0.0, true), b.0.1)) (w, r) b.2 in
    let e = same_some ((b.0.0, true), b.0.1) (w, r) g.1 in
    let word : view_of b.0.0 true ≡ w = ap (λ (p : WordView × List ℕ). p.0) e in
    let rest : b.0.1 ≡ r = ap (λ (p : WordView × List ℕ). p.1) e in
    let there : IsWord bytes (view_of b.0.0 true) b.0.1 = ((drop 1 bytes, begins_by 34 bytes is, text_sound (length bytes) (drop 1 bytes) b.0.0 b.0.1 b.1), g.0) in
    subst (λ (l : List ℕ). IsWord bytes w l) rest (subst (λ (v : WordView). IsWord bytes v b.0.1) word there)
word_sound_by bytes w r false is apart h =
    let e = same_some ((plain_run bytes, false), behind bytes) (w, r) h in
    let word : view_of (plain_run bytes) false ≡ w = ap (λ (p : WordView × List ℕ). p.0) e in
    let rest : behind bytes ≡ r = ap (λ (p : WordView × List ℕ). p.1) e in
    subst (λ (l : List ℕ). IsWord bytes w l) rest (subst (λ (v : WordView). IsWord bytes v (behind bytes)) word (plain_sound bytes apart is))

word_sound : (bytes : List ℕ) (w : WordView) (r : List ℕ) → is_parted bytes ≡ false → word_read bytes ≡ Some (w, r) → IsWord bytes w r
word_sound bytes w r apart h = word_sound_by bytes w r (begins 34 bytes) refl apart h

-- a word is no blank and not the end
word_apart : (q : Bool) (bytes text rest : List ℕ) → IsWordOf q bytes text rest → is_parted bytes ≡ false
word_apart true bytes text rest h = ap is_parted h.1
word_apart false bytes [] rest h = let f = h.1 in absurd cc
word_apart false bytes (b ∷ t) rest h =
    let p = both (not (eqb b 34)) (list_all is_word_byte (b ∷ t)) h.1 in
    let q = both (is_word_byte b) (list_all is_word_byte t) p.1 in
    ap is_parted h.0 ∙ not_true (is_blank b) q.0
  where
    not_true : (t : Bool) → not t ≡ true → t ≡ false
    not_true false e = refl
    not_true true e = absurd cc

plain_begins : (bytes text rest : List ℕ) → bytes ≡ text ++ rest → is_plain text ≡ true → begins 34 bytes ≡ false
plain_begins bytes [] rest e h = absurd cc
plain_begins bytes (b ∷ t) rest e h =
    let p = both (not (eqb b 34)) (list_all is_word_byte (b ∷ t)) h in
    ap (begins 34) e ∙ not_yet (eqb b 34) p.0
  where
    not_yet : (t : Bool) → not t ≡ true → t ≡ false
    not_yet false e = refl
    not_yet true e = absurd cc

word_complete : (q : Bool) (bytes text rest : List ℕ) → IsWordOf q bytes text rest → is_parted rest ≡ true → word_read bytes ≡ Some ((text, q), rest)
word_complete true bytes text rest h parted =
    let inner = h.0 in
    let read : text_read (length (34 ∷ inner)) inner ≡ Some (text, rest) = text_complete text (length (34 ∷ inner)) inner rest (omega arith) h.2 in
    let whole : word_read (34 ∷ inner) ≡ Some ((text, true), rest) = rw (read, parted) refl in
    ap word_read h.1 ∙ whole
word_complete false bytes text rest h parted =
    let apart = word_apart false bytes text rest h in
    let is = plain_begins bytes text rest h.0 h.1 in
    let same = one_word bytes (plain_run bytes, false) (text, false) (behind bytes) rest (plain_sound bytes apart is) (h, parted) in
    let read : word_read bytes ≡ Some ((plain_run bytes, false), behind bytes) = rw is refl in
    read ∙ ap (λ (v : WordView). Some (v, behind bytes)) same.0 ∙ ap (λ (l : List ℕ). Some ((text, false), l)) same.1

none_left : (xs : List ℕ) → eqb (length xs) 0 ≡ true → xs ≡ []
none_left [] h = refl
none_left (x ∷ xs) h = let e = eqb-true (length (x ∷ xs)) 0 h in absurd (omega arith)

words_sound_by : (n : ℕ) (bytes : List ℕ) (ws : List WordView) (t : Bool) → eqb (length (after_blanks bytes)) 0 ≡ t
    → cond t (Some []) (option_and_then (λ w. option_map (λ vs. w.0 ∷ vs) (words_read n w.1)) (word_read (after_blanks bytes))) ≡ Some ws
    → ((rest : List ℕ) (vs : List WordView) → words_read n rest ≡ Some vs → IsWords rest vs) → IsWords bytes ws
words_sound_by n bytes ws true is h ih =
    let none : [] ≡ ws = same_some [] ws h in subst (λ (l : List WordView). IsWords bytes l) none (none_left (after_blanks bytes) is)
words_sound_by n bytes ws false is h ih =
    let b = bind_some (λ w. option_map (λ vs. w.0 ∷ vs) (words_read n w.1)) (word_read (after_blanks bytes)) ws h in
    let m = map_some (λ vs. b.0.0 ∷ vs) (words_read n b.0.1) ws b.2 in
    let apart = blanks_end bytes (after_blanks bytes) refl (sym is) in
    subst (λ (l : List WordView). IsWords bytes l) m.2 (b.0.1, word_sound (after_blanks bytes) b.0.0 b.0.1 apart b.1, ih b.0.1 m.0 m.1)

words_sound : (n : ℕ) (bytes : List ℕ) (ws : List WordView) → words_read n bytes ≡ Some ws → IsWords bytes ws
words_sound zero bytes ws h = absurd cc
words_sound (suc n) bytes ws h = words_sound_by n bytes ws (eqb (length (after_blanks bytes)) 0) refl h (λ rest vs. words_sound n rest vs)

some_left : (xs rest : List ℕ) → length rest < length xs → eqb (length xs) 0 ≡ false
some_left [] rest lt = absurd (omega arith)
some_left (x ∷ xs) rest lt = ne_eqb (length (x ∷ xs)) 0 (λ e. omega arith)

words_complete : (ws : List WordView) (n : ℕ) (bytes : List ℕ) → length bytes < n → IsWords bytes ws → words_read n bytes ≡ Some ws
words_complete ws zero bytes lt h = absurd (omega arith)
words_complete [] (suc n) bytes lt h = rw h refl
words_complete (w ∷ ws) (suc n) bytes lt h =
    let shorter = kind_shorter w.1 (after_blanks bytes) w.0 h.0 h.1.0 in
    let some = some_left (after_blanks bytes) h.0 shorter in
    let word : word_read (after_blanks bytes) ≡ Some (w, h.0) = word_complete w.1 (after_blanks bytes) w.0 h.0 h.1.0 h.1.1 in
    let less : length h.0 < n = omega (arith, length-drop (length (take_while is_blank bytes)) bytes) in
    let rest : words_read n h.0 ≡ Some ws = words_complete ws n h.0 less h.2 in
    rw (some, word, rest) refl

-- ---- commands

and_true : (a b : Bool) → a ≡ true → b ≡ true → (a && b) ≡ true
and_true true b e f = f
and_true false b e f = absurd cc

abbrev HasOf : List ℕ → PartsView → Type 0
HasOf line p = HasOperation line p.token p.operation p.words

operation_sound : (start bytes : List ℕ) (p : PartsView) → behind_token start ≡ 45 ∷ bytes → operation_read (token_of start) bytes ≡ Some p
    → (ws : List WordView) × (with_words (token_of start) (operation_run bytes) ws ≡ p) × IsCommand start (token_of start) (operation_run bytes) ws
operation_sound start bytes p there h =
    let op = operation_run bytes in
    let rest = behind_operation bytes in
    let g = guard_some (is_operation op && is_parted rest) (option_map (with_words (token_of start) op) (words_read (suc (length rest)) rest)) p h in
    let ok = both (is_operation op) (is_parted rest) g.0 in
    let m = map_some (with_words (token_of start) op) (words_read (suc (length rest)) rest) p g.1 in
    let whole : bytes ≡ op ++ rest = sym (run_split is_operation_byte bytes) in (
      m.0,
      m.2,
      record {
        token_is = refl;
        rest = rest;
        behind = there ∙ ap (λ (l : List ℕ). 45 ∷ l) whole;
        named = ok.0;
        parted = ok.1;
        words_are = words_sound (suc (length rest)) rest m.0 m.1;
      },
    )

operation_complete : (start token op : List ℕ) (ws : List WordView) → IsCommand start token op ws → command_read start ≡ Some (with_words token op ws)
operation_complete start token op ws h =
    let bytes = op ++ h.rest in
    let cut = one_run is_operation_byte (operation_run bytes) op (behind_operation bytes) h.rest (run_all is_operation_byte bytes)
    (operation_bytes op h.named) (run_end is_operation_byte bytes) (parted_ends h.rest h.parted) (run_split is_operation_byte bytes) in
    let words : words_read (suc (length h.rest)) h.rest ≡ Some ws = words_complete ws (suc (length h.rest)) h.rest (omega arith) h.words_are in
    let ok : (is_operation op && is_parted h.rest) ≡ true = and_true (is_operation op) (is_parted h.rest) h.named h.parted in
    let there : operation_parts (token_of start) op h.rest ≡ Some (with_words (token_of start) op ws) = rw (ok, words) refl in
    let read : operation_read (token_of start) bytes ≡ Some (with_words (token_of start) op ws) =
    ap (λ o. operation_parts (token_of start) o (behind_operation bytes)) cut.0 ∙ (ap (operation_parts (token_of start) op) cut.1 ∙ there) in
    rw (h.behind) read ∙ ap (λ (t : List ℕ). Some (with_words t op ws)) (sym h.token_is)

-- ---- lines

has_same : (line : List ℕ) (p q : PartsView) → p ≡ q → HasOf line p → HasOf line q
has_same line p q e h = subst (HasOf line) e h

line_sound_by : (line : List ℕ) (p : PartsView) (t : Bool) → eqb (length (after_blanks line)) 0 ≡ t → cond t (Some blank_parts) (command_read (after_blanks line)) ≡ Some p → HasOf line p
line_sound_by line p true is h =
    has_same line blank_parts p (same_some blank_parts p h) (record { blank = none_left (after_blanks line) is; no_token = refl; no_words = refl })
line_sound_by line p false is h =
    let start = after_blanks line in
    let g = guard_some (begins 45 (behind_token start)) (operation_read (token_of start) (drop 1 (behind_token start))) p h in
    let s = operation_sound start (drop 1 (behind_token start)) p (begins_by 45 (behind_token start) g.0) g.1 in
    has_same line (with_words (token_of start) (operation_run (drop 1 (behind_token start))) s.0) p s.1 s.2

-- what the function gives are parts by the grammar
pub parts_sound : (line : List ℕ) (p : PartsView) → parts_read line ≡ Some p → HasParts line p
unfolding parts_read
parts_sound line p h = line_sound_by line p (eqb (length (after_blanks line)) 0) refl h

token_short : (start token op : List ℕ) (ws : List WordView) → IsCommand start token op ws → eqb (length start) 0 ≡ false
token_short [] token op ws h = let f : [] ≡ 45 ∷ (op ++ h.rest) = h.behind in absurd cc
token_short (b ∷ bs) token op ws h = ne_eqb (length (b ∷ bs)) 0 (λ e. omega arith)

complete_by : (o : Option (List ℕ)) (line token : List ℕ) (ws : List WordView) → HasOperation line token o ws → parts_read line ≡ Some (record { token = token; operation = o; words = ws })
unfolding parts_read
complete_by None line token ws h = rw (h.blank, h.no_token, h.no_words) refl
complete_by (Some op) line token ws h = rw (token_short (after_blanks line) token op ws h) (operation_complete (after_blanks line) token op ws h)

-- parts by the grammar are what the function gives
pub parts_complete : (line : List ℕ) (p : PartsView) → HasParts line p → parts_read line ≡ Some p
parts_complete line p h = complete_by p.operation line p.token p.words h

none_or : (r : Option PartsView) → ((p : PartsView) → r ≡ Some p → ⊥) → r ≡ None
none_or None h = refl
none_or (Some p) h = absurd (h p refl)

-- a line that is no command has no parts
pub no_cli : (line : List ℕ) (p : PartsView) → is_cli (after_blanks line) ≡ true → HasParts line p → ⊥
no_cli line p h is = cli_no_parts p.operation line p.token p.words h is

pub reads : (line : List ℕ) (r : Result Parts InputFault) → Splits line r → Reads line r
reads line (Ok p) h = parts_complete line (parts_view p) h.1
reads line (Err faults.NoMemory) h = tt
reads line (Err faults.Long) h = tt
reads line (Err faults.Syntax) h = none_or (parts_read line) (λ p e. h.1 p (parts_sound line p e))
reads line (Err (faults.Cli t)) h = none_or (parts_read line) (λ p e. no_cli line p h.1 (parts_sound line p e))
