-- A text that is read is lines without `#`, and then the lines of the log that was read.
use Rattle.std.proofs.Common.{◌≡◌, ℕ, ◌+◌, ◌<◌, ◌^◌, Bool, true, false, not, ◌==◌, Result, Ok, Err, List, [], ◌∷◌, ◌++◌, length, map, refl, sym, ap, subst, ◌∙◌, append_assoc, arith, inl, inr}
use Rattle.std.proofs.lemmas.Bool.{eqb-true, and_parts}
use Rattle.std.proofs.lemmas.List.{append-nil, length-append}
use Rattle.std.specs.List.{list_all}
use Rattle.std.specs.Prelude.{IfOk, if◌then◌else◌}
use Rattle.dbg_traits.specs.declared.settings.Settings.{Settings}
use Rattle.dbg_model.specs.declared.entry.Entry.{Entry}
use Rattle.session_log.specs.declared.fault.FaultKind.TheVariants.{End}
use Rattle.session_log.specs.declared.fault.LogReadError.{LogReadError}
use Rattle.session_log.specs.declared.row.LogRow.{LogRow}
use Rattle.session_log.specs.declared.row.LogRow.TheVariants as rows
use Rattle.session_log.specs.declared.log.Log.{Log}
use Rattle.session_log.specs.declared.log.State.{State}
use Rattle.session_log.specs.declared.log.State.TheVariants.{Before, Inside, After}
use Rattle.session_log.specs.Rows.{Spells, row_text}
use Rattle.session_log.specs.LogText.{AreEntries, FitsLog, entry_text, log_text, lines, is_marked, is_ended, is_plain}
use Rattle.session_log.specs.Judged.{step, Takes, Judges, IsJudged, ReadsLog}
use Rattle.session_log.specs.Found.{IsLogOf}
use Rattle.session_log.proofs.Again.{same_state}
use Rattle.session_log.proofs.Pieces.{joined, joined_lines, joined_append, front_lines}
use Rattle.session_log.proofs.Whole.{log_lines, joined_log}

-- nothing stands behind the end
none_after : (n : ℕ) (s : Settings) (j : List Entry) (at : ℕ) (ls : List (List ℕ)) (log : Log) → Judges (After n s j) at ls (Ok log) → (ls ≡ []) × (log ≡ record { settings = s; journal = j; transcript = n })
none_after n s j at [] log h = (refl, cc)
none_after n s j at (l ∷ ls) log (inl g) = absurd (stays g.takes)
  where
    stays : Takes (After n s j) l (Ok g.next) → ⊥
    stays (inl p) = let e = p.is in cc
    stays (inr (inl p)) = let e = p.is in cc
    stays (inr (inr p)) = let e = p.is in cc
none_after n s j at (l ∷ ls) log (inr g) = let e = g.is in absurd cc

-- behind the settings: the entries that come, and the end with their number
pub record Rest (n : ℕ) (s : Settings) (j : List Entry) (ls : List (List ℕ)) (log : Log) : Type 0 where
  pub more : List Entry
  pub log_is : log ≡ record { settings = s; journal = j ++ more; transcript = n }
  pub fits : AreEntries more
  pub count : length (j ++ more) < 2 ^ 64
  pub lines_are : ls ≡ map entry_text more ++ row_text (rows.End (length (j ++ more))) ∷ []

-- what the next line of a log is
pub data Comes (n : ℕ) (s : Settings) (j : List Entry) (l : List ℕ) (t : State) : Type 0 where
  entry : (e : Entry) → Spells (rows.Entry e) l → t ≡ Inside n s (j ++ e ∷ []) → Comes n s j l t
  last : Spells (rows.End (length j)) l → t ≡ After n s j → Comes n s j l t

end_comes : (n : ℕ) (s : Settings) (j : List Entry) (l : List ℕ) (t : State) (k : ℕ) (b : Bool) → b ≡ (k == length j) → Spells (rows.End k) l → Ok t ≡ (if b then Ok (After n s j) else Err End) → Comes n s j l t
end_comes n s j l t k true h sp e = last (subst (λ (i : ℕ). Spells (rows.End i) l) (eqb-true k (length j) (sym h)) sp) (same_state t (After n s j) (Ok t) refl e)
end_comes n s j l t k false h sp e = absurd cc

row_comes : (n : ℕ) (s : Settings) (j : List Entry) (l : List ℕ) (t : State) (r : LogRow) → Spells r l → Ok t ≡ step (Inside n s j) r → Comes n s j l t
row_comes n s j l t (rows.Head q) sp e = absurd cc
row_comes n s j l t (rows.Entry x) sp e = entry x sp (same_state t (Inside n s (j ++ x ∷ [])) (Ok t) refl e)
row_comes n s j l t (rows.End k) sp e = end_comes n s j l t k (k == length j) refl sp e

comes : (n : ℕ) (s : Settings) (j : List Entry) (l : List ℕ) (t : State) → Takes (Inside n s j) l (Ok t) → Comes n s j l t
comes n s j l t (inl p) = let e = p.is in absurd cc
comes n s j l t (inr (inl p)) = row_comes n s j l t p.row p.spelled p.is
comes n s j l t (inr (inr p)) = let e = p.is in absurd cc

ends_here : (n : ℕ) (s : Settings) (j : List Entry) (l : List ℕ) (ls : List (List ℕ)) (log : Log) → Spells (rows.End (length j)) l → (ls ≡ []) × (log ≡ record { settings = s; journal = j; transcript = n }) → Rest n s j (l ∷ ls) log
ends_here n s j l ls log sp h =
    let same = append-nil j in
    record {
      more = [];
      log_is = h.1 ∙ ap (λ (x : List Entry). record { settings = s; journal = x; transcript = n }) (sym same);
      fits = tt;
      count = subst (λ (x : List Entry). length x < 2 ^ 64) (sym same) sp.fits.text;
      lines_are = ap (λ (x : List (List ℕ)). l ∷ x) h.0 ∙ ap (λ (x : List ℕ). x ∷ []) (sp.text ∙ ap (λ (x : List Entry). row_text (rows.End (length x))) (sym same));
    }

one_more : (n : ℕ) (s : Settings) (j : List Entry) (e : Entry) (l : List ℕ) (ls : List (List ℕ)) (log : Log) → Spells (rows.Entry e) l → Rest n s (j ++ e ∷ []) ls log → Rest n s j (l ∷ ls) log
one_more n s j e l ls log sp r =
    let same : (j ++ e ∷ []) ++ r.more ≡ j ++ e ∷ r.more = append_assoc j (e ∷ []) r.more in
    record {
      more = e ∷ r.more;
      log_is = r.log_is ∙ ap (λ (x : List Entry). record { settings = s; journal = x; transcript = n }) same;
      fits = (sp.fits, r.fits);
      count = subst (λ (x : List Entry). length x < 2 ^ 64) same r.count;
      lines_are =
          ap (λ (x : List ℕ). x ∷ ls) sp.text
          ∙ ap (λ (x : List (List ℕ)). entry_text e ∷ x) (r.lines_are ∙ ap (λ (x : List Entry). map entry_text r.more ++ row_text (rows.End (length x)) ∷ []) same);
    }

rest_found : (ls : List (List ℕ)) (n : ℕ) (s : Settings) (j : List Entry) (at : ℕ) (log : Log) → Judges (Inside n s j) at ls (Ok log) → Rest n s j ls log
rest_found [] n s j at log h = absurd cc
rest_found (l ∷ ls) n s j at log (inr g) = let e = g.is in absurd cc
rest_found (l ∷ ls) n s j at log (inl g) = elim (comes n s j l g.next g.takes) [
  | entry e sp is ↦ one_more n s j e l ls log sp (rest_found ls n s (j ++ e ∷ []) (at + 1) log (subst (λ (t : State). Judges t (at + 1) ls (Ok log)) is g.goes))
  | last sp is ↦ ends_here n s j l ls log sp (none_after n s j (at + 1) ls log (subst (λ (t : State). Judges t (at + 1) ls (Ok log)) is g.goes))
]

-- ---- before the first line with `#`

abbrev are_unmarked : List (List ℕ) → Bool
are_unmarked = list_all (λ l. not (is_marked l))

pub record Text (n : ℕ) (ls : List (List ℕ)) (log : Log) : Type 0 where
  pub front : List (List ℕ)
  pub unmarked : are_unmarked front ≡ true
  pub fits : FitsLog log.settings log.journal
  pub lines_are : ls ≡ front ++ log_lines log.settings log.journal
  pub transcript : log.transcript ≡ n + length (joined front)

pub data Begins (n : ℕ) (l : List ℕ) (t : State) : Type 0 where
  plain : is_marked l ≡ false → t ≡ Before (n + length l) → Begins n l t
  head : (s : Settings) → Spells (rows.Head s) l → t ≡ Inside n s [] → Begins n l t

row_begins : (n : ℕ) (l : List ℕ) (t : State) (r : LogRow) → Spells r l → Ok t ≡ step (Before n) r → Begins n l t
row_begins n l t (rows.Head s) sp e = head s sp (same_state t (Inside n s []) (Ok t) refl e)
row_begins n l t (rows.Entry x) sp e = absurd cc
row_begins n l t (rows.End k) sp e = absurd cc

begins : (n : ℕ) (l : List ℕ) (t : State) → Takes (Before n) l (Ok t) → Begins n l t
begins n l t (inl p) = plain p.plain (same_state t (Before (n + length l)) (Ok t) refl p.is)
begins n l t (inr (inl p)) = row_begins n l t p.row p.spelled p.is
begins n l t (inr (inr p)) = let e = p.is in absurd cc

plain_more : (n : ℕ) (l : List ℕ) (ls : List (List ℕ)) (log : Log) → is_marked l ≡ false → Text (n + length l) ls log → Text n (l ∷ ls) log
plain_more n l ls log h t = record {
  front = l ∷ t.front;
  unmarked = rw (h, t.unmarked) refl;
  fits = t.fits;
  lines_are = ap (λ (x : List (List ℕ)). l ∷ x) t.lines_are;
  transcript = t.transcript ∙ (let e : (n + length l) + length (joined t.front) ≡ n + length (l ++ joined t.front) = omega (arith, length-append l (joined t.front)) in e);
}

head_found : (n : ℕ) (s : Settings) (l : List ℕ) (ls : List (List ℕ)) (log : Log) → Spells (rows.Head s) l → Rest n s [] ls log → Text n (l ∷ ls) log
head_found n s l ls log sp r =
    subst (λ (x : Log). Text n (l ∷ ls) x) (sym r.log_is) (record {
      front = [];
      unmarked = refl;
      fits = record { head = sp.fits; entries = r.fits; count = r.count };
      lines_are = ap (λ (x : List ℕ). x ∷ ls) sp.text ∙ ap (λ (x : List (List ℕ)). row_text (rows.Head s) ∷ x) r.lines_are;
      transcript = let e : n ≡ n + 0 = omega arith in e;
    })

text_found : (ls : List (List ℕ)) (n at : ℕ) (log : Log) → Judges (Before n) at ls (Ok log) → Text n ls log
text_found [] n at log h = absurd cc
text_found (l ∷ ls) n at log (inr g) = let e = g.is in absurd cc
text_found (l ∷ ls) n at log (inl g) = elim (begins n l g.next g.takes) [
  | plain h is ↦ plain_more n l ls log h (text_found ls (n + length l) (at + 1) log (subst (λ (t : State). Judges t (at + 1) ls (Ok log)) is g.goes))
  | head s sp is ↦ head_found n s l ls log sp (rest_found ls n s [] (at + 1) log (subst (λ (t : State). Judges t (at + 1) ls (Ok log)) is g.goes))
]

all_plain : (ls : List (List ℕ)) → list_all is_ended ls ≡ true → are_unmarked ls ≡ true → list_all is_plain ls ≡ true
all_plain [] h g = refl
all_plain (l ∷ ls) h g =
    let k = and_parts (is_ended l) (list_all is_ended ls) h in
    let m = and_parts (not (is_marked l)) (are_unmarked ls) g in
    rw (k.0, m.0, all_plain ls k.1 m.1) refl

log_is : (bytes : List ℕ) (log : Log) → IsJudged bytes (Ok log) → IsLogOf bytes log
log_is bytes log h =
    let t = text_found (lines bytes) 0 1 log h in
    let s = log.settings in
    let j = log.journal in
    let front = front_lines bytes t.front (row_text (rows.Head s)) (map entry_text j ++ row_text (rows.End (length j)) ∷ []) t.lines_are in
    record {
      said = joined t.front;
      plain = subst (λ (ls : List (List ℕ)). list_all is_plain ls ≡ true) (sym front.1) (all_plain t.front front.0 t.unmarked);
      whole = record {
        log = log_text s j;
        is_log = record { fits = t.fits; text = refl };
        behind = sym (joined_lines bytes) ∙ ap joined t.lines_are ∙ joined_append t.front (log_lines s j) ∙ ap (λ (x : List ℕ). joined t.front ++ x) (joined_log s j);
      };
      transcript = t.transcript ∙ (let e : 0 + length (joined t.front) ≡ length (joined t.front) = omega arith in e);
    }

pub log_found : (bytes : List ℕ) (r : Result Log LogReadError) → ReadsLog bytes r → IfOk r (λ log. IsLogOf bytes log)
log_found bytes (Ok log) h = log_is bytes log h
log_found bytes (Err e) h = tt
