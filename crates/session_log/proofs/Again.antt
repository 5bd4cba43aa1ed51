-- The text of a log is judged to be this log, and a text is judged in one way.
use Rattle.std.proofs.Common.{◌≡◌, ℕ, ◌+◌, ◌<◌, ◌^◌, true, not, Result, Ok, Err, List, [], ◌∷◌, ◌++◌, length, take, map, refl, sym, ap, subst, ◌∙◌, append_assoc, arith, inl, inr, eq-eqb}
use Rattle.std.proofs.lemmas.Bool.{and_parts}
use Rattle.std.proofs.lemmas.List.{append-nil, length-append}
use Rattle.std.specs.List.{list_all}
use Rattle.dbg_traits.specs.declared.settings.Settings.{Settings}
use Rattle.dbg_model.specs.declared.entry.Entry.{Entry}
use Rattle.session_log.specs.declared.fault.FaultKind.{FaultKind}
use Rattle.session_log.specs.declared.fault.LogReadError.{LogReadError}
use Rattle.session_log.specs.declared.fault.LogReadError.TheVariants as errors
use Rattle.session_log.specs.declared.row.LogRow.{LogRow}
use Rattle.session_log.specs.declared.row.LogRow.TheVariants as rows
use Rattle.session_log.specs.declared.log.Log.{Log}
use Rattle.session_log.specs.declared.log.State.{State}
use Rattle.session_log.specs.declared.log.State.TheVariants.{Before, Inside, After}
use Rattle.session_log.specs.Rows.{FitsRow, row_text}
use Rattle.session_log.specs.LogText.{AreEntries, FitsLog, LogText, Transcript, IsPlainText, entry_text, log_text, lines, is_marked, is_ended, is_plain}
use Rattle.session_log.specs.Judged.{step, Takes, Outcome, fault_at, Judges, IsJudged, ReadsLog}
use Rattle.session_log.specs.Found.{GivesLog}
use Rattle.session_log.proofs.Cuts.{take_front}
use Rattle.session_log.proofs.Guesses.{one_row}
use Rattle.session_log.proofs.Pieces.{is_not, joined, joined_lines, whole_lines}
use Rattle.session_log.proofs.Whole.{log_lines, row_marked, log_in_lines}

-- ---- one outcome

one_taken : (s : State) (l : List ℕ) (a b : Result State FaultKind) → Takes s l a → Takes s l b → a ≡ b
one_taken s l a b (inl p) (inl q) = p.is ∙ sym q.is
one_taken s l a b (inl p) (inr (inl q)) = let x = p.plain in let y = q.marked in absurd cc
one_taken s l a b (inl p) (inr (inr q)) = let x = p.plain in let y = q.marked in absurd cc
one_taken s l a b (inr (inl p)) (inl q) = let x = p.marked in let y = q.plain in absurd cc
one_taken s l a b (inr (inl p)) (inr (inl q)) = p.is ∙ ap (step s) (one_row p.row q.row l p.spelled q.spelled) ∙ sym q.is
one_taken s l a b (inr (inl p)) (inr (inr q)) = absurd (q.none p.row p.spelled)
one_taken s l a b (inr (inr p)) (inl q) = let x = p.marked in let y = q.plain in absurd cc
one_taken s l a b (inr (inr p)) (inr (inl q)) = absurd (p.none q.row q.spelled)
one_taken s l a b (inr (inr p)) (inr (inr q)) = p.is ∙ sym q.is

pub same_state : (t u : State) (a : Result State FaultKind) → a ≡ Ok t → a ≡ Ok u → t ≡ u
same_state t u a e f = cc

pub one_outcome : (ls : List (List ℕ)) (s : State) (n : ℕ) (a b : Outcome) → Judges s n ls a → Judges s n ls b → a ≡ b
one_outcome [] s n a b h g = h ∙ sym g
one_outcome (l ∷ ls) s n a b (inl p) (inl q) =
    let e = same_state p.next q.next (Ok p.next) refl (one_taken s l (Ok p.next) (Ok q.next) p.takes q.takes) in
    one_outcome ls q.next (n + 1) a b (subst (λ (t : State). Judges t (n + 1) ls a) e p.goes) q.goes
one_outcome (l ∷ ls) s n a b (inl p) (inr q) = let e = one_taken s l (Ok p.next) (Err q.kind) p.takes q.takes in absurd cc
one_outcome (l ∷ ls) s n a b (inr p) (inl q) = let e = one_taken s l (Err p.kind) (Ok q.next) p.takes q.takes in absurd cc
one_outcome (l ∷ ls) s n a b (inr p) (inr q) =
    let e = one_taken s l (Err p.kind) (Err q.kind) p.takes q.takes in
    let k : p.kind ≡ q.kind = cc in
    p.is ∙ ap (λ (x : FaultKind). fault_at x n) k ∙ sym q.is

-- ---- a log's lines

abbrev log_of : Settings → List Entry → ℕ → Outcome
log_of s j n = Ok (record { settings = s; journal = j; transcript = n })

row_taken : (s t : State) (r : LogRow) → FitsRow r → step s r ≡ Ok t → Takes s (row_text r) (Ok t)
row_taken s t r h e = inr (inl (record { row = r; marked = row_marked r; spelled = record { fits = h; text = refl }; is = sym e }))

ended : (n : ℕ) (s : Settings) (j : List Entry) (k : ℕ) → k ≡ length j → step (Inside n s j) (rows.End k) ≡ Ok (After n s j)
ended n s j k e = rw (eq-eqb k (length j) e) refl

end_fits : (k : ℕ) → k < 2 ^ 64 → FitsRow (rows.End k)
end_fits k h = record { text = h; stands = tt }

entries_judged : (es j : List Entry) (n k at : ℕ) (s : Settings) → AreEntries es → k < 2 ^ 64 → k ≡ length (j ++ es) → Judges (Inside n s j) at (map entry_text es ++ row_text (rows.End k) ∷ []) (log_of s (j ++ es) n)
entries_judged [] j n k at s h lt e =
    let same = append-nil j in
    inl (record { next = After n s j; takes = row_taken (Inside n s j) (After n s j) (rows.End k) (end_fits k lt) (ended n s j k (e ∙ ap length same)); goes = ap (λ (x : List Entry). log_of s x n) same })
entries_judged (x ∷ es) j n k at s h lt e =
    let same : (j ++ x ∷ []) ++ es ≡ j ++ x ∷ es = append_assoc j (x ∷ []) es in
    inl (record {
      next = Inside n s (j ++ x ∷ []);
      takes = row_taken (Inside n s j) (Inside n s (j ++ x ∷ [])) (rows.Entry x) h.0 refl;
      goes =
          subst (λ (l : List Entry). Judges (Inside n s (j ++ x ∷ [])) (at + 1) (map entry_text es ++ row_text (rows.End k) ∷ []) (log_of s l n)) same
          (entries_judged es (j ++ x ∷ []) n k (at + 1) s h.1 lt (e ∙ ap length (sym same)));
    })

log_judged : (n at : ℕ) (s : Settings) (j : List Entry) → FitsLog s j → Judges (Before n) at (log_lines s j) (log_of s j n)
log_judged n at s j h =
    inl (record { next = Inside n s []; takes = row_taken (Before n) (Inside n s []) (rows.Head s) h.head refl; goes = entries_judged j [] n (length j) (at + 1) s h.entries h.count refl })

plain_judged : (ls more : List (List ℕ)) (n at : ℕ) (out : Outcome) → list_all is_plain ls ≡ true → ((i : ℕ) → Judges (Before (n + length (joined ls))) i more out) → Judges (Before n) at (ls ++ more) out
plain_judged [] more n at out h g = subst (λ (m : ℕ). Judges (Before m) at more out) (let e : n + 0 ≡ n = omega arith in e) (g at)
plain_judged (l ∷ ls) more n at out h g =
    let k = and_parts (is_plain l) (list_all is_plain ls) h in
    let p = and_parts (is_ended l) (not (is_marked l)) k.0 in
    let e : n + length (l ++ joined ls) ≡ (n + length l) + length (joined ls) = omega (arith, length-append l (joined ls)) in
    inl (record {
      next = Before (n + length l);
      takes = inl (record { plain = is_not (is_marked l) p.1; is = refl });
      goes = plain_judged ls more (n + length l) (at + 1) out k.1 (λ i. subst (λ (m : ℕ). Judges (Before m) i more out) e (g i));
    })

plain_ended : (ls : List (List ℕ)) → list_all is_plain ls ≡ true → list_all is_ended ls ≡ true
plain_ended [] h = refl
plain_ended (l ∷ ls) h =
    let k = and_parts (is_plain l) (list_all is_plain ls) h in
    rw ((and_parts (is_ended l) (not (is_marked l)) k.0).0, plain_ended ls k.1) refl

text_judged : (f : List ℕ) (s : Settings) (j : List Entry) → IsPlainText f → FitsLog s j → IsJudged (f ++ log_text s j) (log_of s j (length f))
text_judged f s j t h =
    let split = whole_lines f (log_text s j) (plain_ended (lines f) t) ∙ ap (λ (ls : List (List ℕ)). lines f ++ ls) (log_in_lines s j h) in
    subst (λ (ls : List (List ℕ)). Judges (Before 0) 1 ls (log_of s j (length f))) (sym split)
    (plain_judged (lines f) (log_lines s j) 0 1 (log_of s j (length f)) t
    (λ i. subst (λ (m : ℕ). Judges (Before m) i (log_lines s j) (log_of s j (length f))) (let e : length f ≡ 0 + length (joined (lines f)) = omega (arith, ap length (joined_lines f)) in e) (log_judged (length f) i s j h)))

pub is_judged : (bytes f : List ℕ) (s : Settings) (j : List Entry) → IsPlainText f → Transcript f s j bytes → IsJudged bytes (log_of s j (length f))
is_judged bytes f s j p t =
    let e = t.behind ∙ ap (λ (l : List ℕ). f ++ l) t.is_log.text in
    subst (λ (b : List ℕ). IsJudged b (log_of s j (length f))) (sym e) (text_judged f s j p t.is_log.fits)

pub read_again : (bytes : List ℕ) (r : Result Log LogReadError) → ReadsLog bytes r → (f : List ℕ) (s : Settings) (j : List Entry) → IsPlainText f → Transcript f s j bytes
    → GivesLog (record { settings = s; journal = j; transcript = length f }) r
read_again bytes (Ok l) reads f s j p t =
    let same = one_outcome (lines bytes) (Before 0) 1 (Ok l) (log_of s j (length f)) reads (is_judged bytes f s j p t) in
    cc
read_again bytes (Err errors.NoMemory) reads f s j p t = tt
read_again bytes (Err (errors.Fault x)) reads f s j p t =
    let same = one_outcome (lines bytes) (Before 0) 1 (Err x) (log_of s j (length f)) reads (is_judged bytes f s j p t) in
    absurd cc

-- ---- laws

same_found : (l m : Log) (a : Outcome) → a ≡ Ok l → a ≡ Ok m → l ≡ m
same_found l m a e f = cc

same_front : (a b x y bytes : List ℕ) → bytes ≡ a ++ x → bytes ≡ b ++ y → length a ≡ length b → a ≡ b
same_front a b x y bytes e f n =
    sym (take_front a x) ∙ ap (take (length a)) (sym e) ∙ ap (λ (i : ℕ). take i bytes) n ∙ ap (take (length b)) f ∙ take_front b y

pub one_transcript : (a b : List ℕ) (s q : Settings) (j k : List Entry) (bytes : List ℕ) → IsPlainText a → IsPlainText b → Transcript a s j bytes → Transcript b q k bytes → (a ≡ b) × (s ≡ q) × (j ≡ k)
one_transcript a b s q j k bytes p r t u =
    let same = one_outcome (lines bytes) (Before 0) 1 (log_of s j (length a)) (log_of q k (length b)) (is_judged bytes a s j p t) (is_judged bytes b q k r u) in
    let l : Log = record { settings = s; journal = j; transcript = length a } in
    let m : Log = record { settings = q; journal = k; transcript = length b } in
    let found = same_found l m (log_of s j (length a)) refl same in
    (same_front a b t.log u.log bytes t.behind u.behind (ap (λ (x : Log). x.transcript) found), ap (λ (x : Log). x.settings) found, ap (λ (x : Log). x.journal) found)

behind_nothing : (s : Settings) (j : List Entry) (bytes : List ℕ) → LogText s j bytes → Transcript [] s j bytes
behind_nothing s j bytes t = record { log = bytes; is_log = t; behind = refl }

pub one_log : (s q : Settings) (j k : List Entry) (bytes : List ℕ) → LogText s j bytes → LogText q k bytes → (s ≡ q) × (j ≡ k)
one_log s q j k bytes t u =
    let same = one_transcript [] [] s q j k bytes refl refl (behind_nothing s j bytes t) (behind_nothing q k bytes u) in
    (same.1, same.2)
