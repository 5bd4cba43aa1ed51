-- The line of a row is read as this row.
use Rattle.std.proofs.Common.{◌≡◌, ℕ, zero, suc, ◌^◌, ◌<◌, true, Option, Some, None, List, [], ◌∷◌, refl, sym, ap, ◌∙◌, arith}
use Rattle.std.specs.Prelude.{decimal}
use Rattle.dbg_traits.specs.declared.settings.Settings.{Settings}
use Rattle.rv_exec.specs.declared.effect.Cause.{Cause}
use Rattle.rv_exec.specs.declared.effect.Cause.TheVariants as causes
use Rattle.break_table.specs.declared.due.CondError.{CondError}
use Rattle.break_table.specs.declared.due.CondError.TheVariants.{DivZero, Unread}
use Rattle.dbg_model.specs.declared.entry.Why.{Why}
use Rattle.dbg_model.specs.declared.entry.Why.TheVariants.{Break, Watch, Stepped, Finished, Interrupted, Fault}
use Rattle.dbg_model.specs.declared.entry.Poke.{Poke}
use Rattle.dbg_model.specs.declared.entry.Poke.TheVariants.{Register, Bytes}
use Rattle.dbg_model.specs.declared.entry.Entry.{Entry}
use Rattle.dbg_model.specs.declared.entry.Entry.TheVariants.{Ran, Counted, Stopped, Left, Did, Poked}
use Rattle.session_log.specs.declared.row.LogRow.{LogRow}
use Rattle.session_log.specs.declared.row.LogRow.TheVariants as rows
use Rattle.hex.specs.Hex.{encode_lower}
use Rattle.mi_values.specs.Testing.{are_bytes}
use Rattle.rv_exec.specs.Causes.{cause_number}
use Rattle.session_log.specs.Words.{line_of}
use Rattle.session_log.specs.Rows.{error_words, why_words, did_words, poke_words, entry_words, head_words, row_words, row_text, FitsError, FitsWhy, FitsPoke, FitsEntry, FitsText, Spells}
use Rattle.session_log.specs.Guess.{u64_of, u32_of, bytes_of, is_gap, word, behind, cause_of, error_of, why_of, poke_of, entry_of, row_of, guess}
use Rattle.session_log.proofs.Cuts.{none_pass, front_of, rest_of}
use Rattle.session_log.proofs.Numbers.{u64_again, u32_again, bytes_again, no_bytes, decimal_no_gap, hex_no_gap}

abbrev pub Clean : List (List ℕ) → Type 0
Clean [] = Unit {0}
Clean (w ∷ ws) = (none_pass is_gap w ≡ true) × Clean ws

-- the word at a place, and none behind the last
abbrev nth : List (List ℕ) → ℕ → List ℕ
nth [] k = []
nth (w ∷ ws) zero = w
nth (w ∷ ws) (suc k) = nth ws k

abbrev behind_n : ℕ → List ℕ → List ℕ
behind_n zero l = l
behind_n (suc k) l = behind_n k (behind l)

nothing_behind : (k : ℕ) → word (behind_n k []) ≡ []
nothing_behind zero = refl
nothing_behind (suc k) = nothing_behind k

nth_read : (ws : List (List ℕ)) (k : ℕ) → Clean ws → word (behind_n k (line_of ws)) ≡ nth ws k
nth_read [] k h = nothing_behind k
nth_read (w ∷ []) zero h = front_of is_gap w [] 10 h.0 refl
nth_read (w ∷ []) (suc k) h = ap (λ (l : List ℕ). word (behind_n k l)) (rest_of is_gap w [] 10 h.0 refl) ∙ nothing_behind k
nth_read (w ∷ v ∷ ws) zero h = front_of is_gap w (line_of (v ∷ ws)) 32 h.0 refl
nth_read (w ∷ v ∷ ws) (suc k) h =
    ap (λ (l : List ℕ). word (behind_n k l)) (rest_of is_gap w (line_of (v ∷ ws)) 32 h.0 refl) ∙ nth_read (v ∷ ws) k h.1

six : (a b c d e f a' b' c' d' e' f' : List ℕ) → a ≡ a' → b ≡ b' → c ≡ c' → d ≡ d' → e ≡ e' → f ≡ f' → row_of a b c d e f ≡ row_of a' b' c' d' e' f'
six a b c d e f a' b' c' d' e' f' p q r s t u = cc

words_read : (ws : List (List ℕ)) → Clean ws → guess (line_of ws) ≡ row_of (nth ws 0) (nth ws 1) (nth ws 2) (nth ws 3) (nth ws 4) (nth ws 5)
words_read ws h = six _ _ _ _ _ _ _ _ _ _ _ _ (nth_read ws 0 h) (nth_read ws 1 h) (nth_read ws 2 h) (nth_read ws 3 h) (nth_read ws 4 h) (nth_read ws 5 h)

-- ---- the words of each row

wide : (n : ℕ) → n < 2 ^ 32 → none_pass is_gap (decimal n) ≡ true
wide n h = decimal_no_gap n (omega arith)

cause_small : (c : Cause) → cause_number c < 2 ^ 32
cause_small causes.FetchAlign = omega arith
cause_small causes.LoadFault = omega arith
cause_small causes.StoreFault = omega arith
cause_small causes.LoadAlign = omega arith
cause_small causes.StoreAlign = omega arith
cause_small causes.Break = omega arith
cause_small causes.Illegal = omega arith
cause_small causes.FetchFault = omega arith

cause_back : (c : Cause) → cause_of (cause_number c) ≡ c
unfolding cause_of
cause_back causes.FetchAlign = refl
cause_back causes.LoadFault = refl
cause_back causes.StoreFault = refl
cause_back causes.LoadAlign = refl
cause_back causes.StoreAlign = refl
cause_back causes.Break = refl
cause_back causes.Illegal = refl
cause_back causes.FetchFault = refl

cause_again : (c : Cause) → cause_of (u64_of (decimal (cause_number c))) ≡ c
cause_again c = let h = cause_small c in ap cause_of (u64_again (cause_number c) (omega arith)) ∙ cause_back c

clean_error : (e : Option CondError) → FitsError e → Clean (error_words e)
clean_error None h = (refl, tt)
clean_error (Some DivZero) h = (refl, tt)
clean_error (Some (Unread a)) h = (refl, (wide a h, tt))

clean_why : (y : Why) → FitsWhy y → Clean (why_words y)
clean_why (Break n e) h = (refl, (wide n h.0, clean_error e h.1))
clean_why (Watch f) h = (refl, (wide f.number h.0, (wide f.old h.1, (wide f.new h.2, tt))))
clean_why Stepped h = (refl, tt)
clean_why Finished h = (refl, tt)
clean_why Interrupted h = (refl, tt)
clean_why (Fault c) h = (refl, (wide (cause_number c) (cause_small c), tt))

clean_did : (l : List ℕ) → are_bytes l ≡ true → Clean (did_words l)
clean_did [] h = (refl, tt)
clean_did (b ∷ bs) h = (refl, (hex_no_gap (b ∷ bs) h, tt))

clean_poke : (p : Poke) → FitsPoke p → Clean (poke_words p)
clean_poke (Register t n v) h = (refl, (wide t h.0, (wide n h.1, (wide v h.2, tt))))
clean_poke (Bytes a bs) h = (refl, (wide a h.0, (hex_no_gap bs h.1, tt)))

clean_entry : (e : Entry) → FitsEntry e → Clean (entry_words e)
clean_entry (Ran t n) h = (refl, (wide t h.0, (decimal_no_gap n h.1, tt)))
clean_entry (Counted t) h = (refl, (wide t h, tt))
clean_entry (Stopped t y) h = (refl, (wide t h.0, clean_why y h.1))
clean_entry (Left t n) h = (refl, (wide t h.0, (wide n h.1, tt)))
clean_entry (Did l) h = clean_did l h
clean_entry (Poked p) h = clean_poke p h

pub clean_row : (r : LogRow) → FitsText r → Clean (row_words r)
clean_row (rows.Head s) h = (refl, (wide s.harts h.0, (wide s.workers h.1, (wide s.slots h.2, (decimal_no_gap s.budget h.3, (wide s.slice h.4, tt))))))
clean_row (rows.Entry e) h = clean_entry e h
clean_row (rows.End k) h = (refl, (decimal_no_gap k h, tt))

-- ---- what the words of each row are read as

error_again : (w : List ℕ) (e : Option CondError) → FitsError e → error_of (nth (error_words e) 0) (nth (error_words e) 1) ≡ e
unfolding error_of
error_again w None h = refl
error_again w (Some DivZero) h = refl
error_again w (Some (Unread a)) h = ap (λ (x : ℕ). Some (Unread x)) (u32_again a h)

abbrev why_at : List (List ℕ) → Why
why_at ws = why_of (nth ws 0) (nth ws 1) (nth ws 2) (nth ws 3)

why_again : (y : Why) → FitsWhy y → why_at (why_words y) ≡ y
unfolding why_of
why_again (Break n e) h =
    ap (λ (x : ℕ). Break x (error_of (nth (error_words e) 0) (nth (error_words e) 1))) (u32_again n h.0) ∙ ap (Break n) (error_again [] e h.1)
why_again (Watch f) h =
    ap (λ (x : ℕ). Watch (record { number = x; old = u32_of (decimal f.old); new = u32_of (decimal f.new) })) (u32_again f.number h.0)
    ∙ ap (λ (x : ℕ). Watch (record { number = f.number; old = x; new = u32_of (decimal f.new) })) (u32_again f.old h.1)
    ∙ ap (λ (x : ℕ). Watch (record { number = f.number; old = f.old; new = x })) (u32_again f.new h.2)
why_again Stepped h = refl
why_again Finished h = refl
why_again Interrupted h = refl
why_again (Fault c) h = ap Fault (cause_again c)

abbrev entry_at : List (List ℕ) → Entry
entry_at ws = entry_of (nth ws 0) (nth ws 1) (nth ws 2) (nth ws 3) (nth ws 4) (nth ws 5)

did_again : (l : List ℕ) → are_bytes l ≡ true → entry_at (did_words l) ≡ Did l
unfolding entry_of
did_again [] h = ap Did no_bytes
did_again (b ∷ bs) h = ap Did (bytes_again (b ∷ bs) h)

abbrev poke_at : List (List ℕ) → Poke
poke_at ws = poke_of (nth ws 0) (nth ws 1) (nth ws 2) (nth ws 3)

poke_again : (p : Poke) → FitsPoke p → poke_at (poke_words p) ≡ p
unfolding poke_of
poke_again (Register t n v) h =
    ap (λ (x : ℕ). Register x (u32_of (decimal n)) (u32_of (decimal v))) (u32_again t h.0)
    ∙ ap (λ (x : ℕ). Register t x (u32_of (decimal v))) (u32_again n h.1)
    ∙ ap (λ (x : ℕ). Register t n x) (u32_again v h.2)
poke_again (Bytes a bs) h =
    ap (λ (x : ℕ). Bytes x (bytes_of (encode_lower bs))) (u32_again a h.0) ∙ ap (λ (l : List ℕ). Bytes a l) (bytes_again bs h.1)

-- the first word of a write is that of no other entry
poke_entry : (p : Poke) → entry_at (poke_words p) ≡ Poked (poke_at (poke_words p))
unfolding entry_of
poke_entry (Register t n v) = refl
poke_entry (Bytes a bs) = refl

entry_again : (e : Entry) → FitsEntry e → entry_at (entry_words e) ≡ e
unfolding entry_of
entry_again (Ran t n) h = ap (λ (x : ℕ). Ran x (u64_of (decimal n))) (u32_again t h.0) ∙ ap (Ran t) (u64_again n h.1)
entry_again (Counted t) h = ap Counted (u32_again t h)
entry_again (Stopped t y) h = ap (λ (x : ℕ). Stopped x (why_at (why_words y))) (u32_again t h.0) ∙ ap (Stopped t) (why_again y h.1)
entry_again (Left t n) h = ap (λ (x : ℕ). Left x (u32_of (decimal n))) (u32_again t h.0) ∙ ap (Left t) (u32_again n h.1)
entry_again (Did l) h = did_again l h
entry_again (Poked p) h = poke_entry p ∙ ap Poked (poke_again p h)

-- the first word of an entry is neither that of the settings nor that of the end
abbrev row_at : List (List ℕ) → LogRow
row_at ws = row_of (nth ws 0) (nth ws 1) (nth ws 2) (nth ws 3) (nth ws 4) (nth ws 5)

entry_row : (e : Entry) → row_at (entry_words e) ≡ rows.Entry (entry_at (entry_words e))
unfolding row_of
entry_row (Ran t n) = refl
entry_row (Counted t) = refl
entry_row (Stopped t y) = refl
entry_row (Left t n) = refl
entry_row (Did []) = refl
entry_row (Did (b ∷ bs)) = refl
entry_row (Poked (Register t n v)) = refl
entry_row (Poked (Bytes a bs)) = refl

head_again : (s : Settings) → FitsText (rows.Head s) → row_at (head_words s) ≡ rows.Head s
unfolding row_of
head_again s h =
    ap (λ (x : ℕ). rows.Head (record { harts = x; workers = u32_of (decimal s.workers); slots = u32_of (decimal s.slots); budget = u64_of (decimal s.budget); slice = u32_of (decimal s.slice) })) (u32_again s.harts h.0)
    ∙ ap (λ (x : ℕ). rows.Head (record { harts = s.harts; workers = x; slots = u32_of (decimal s.slots); budget = u64_of (decimal s.budget); slice = u32_of (decimal s.slice) })) (u32_again s.workers h.1)
    ∙ ap (λ (x : ℕ). rows.Head (record { harts = s.harts; workers = s.workers; slots = x; budget = u64_of (decimal s.budget); slice = u32_of (decimal s.slice) })) (u32_again s.slots h.2)
    ∙ ap (λ (x : ℕ). rows.Head (record { harts = s.harts; workers = s.workers; slots = s.slots; budget = x; slice = u32_of (decimal s.slice) })) (u64_again s.budget h.3)
    ∙ ap (λ (x : ℕ). rows.Head (record { harts = s.harts; workers = s.workers; slots = s.slots; budget = s.budget; slice = x })) (u32_again s.slice h.4)

row_again : (r : LogRow) → FitsText r → row_at (row_words r) ≡ r
unfolding row_of
row_again (rows.Head s) h = head_again s h
row_again (rows.Entry e) h = entry_row e ∙ ap rows.Entry (entry_again e h)
row_again (rows.End k) h = ap rows.End (u64_again k h)

pub guess_again : (r : LogRow) → FitsText r → guess (row_text r) ≡ r
guess_again r h = words_read (row_words r) (clean_row r h) ∙ row_again r h

-- no two rows have one text
pub one_row : (r q : LogRow) (l : List ℕ) → Spells r l → Spells q l → r ≡ q
one_row r q l h g = sym (guess_again r h.fits.text) ∙ ap guess (sym h.text ∙ g.text) ∙ guess_again q g.fits.text

-- the row that is read of a line is its row, if it has one
pub is_guess : (r row : LogRow) (l : List ℕ) → row ≡ guess l → Spells r l → row ≡ r
is_guess r row l e h = e ∙ ap guess h.text ∙ guess_again r h.fits.text
