-- One change of the table of breakpoints, with the word that is planted for it.
use Rattle.std.proofs.Common.{◌≡◌, ◌+◌, ℕ, Bool, List, [], ◌∷◌, ◌++◌, refl, sym, ap, ◌∙◌, subst, map}
use Rattle.std.specs.Prelude.{Option, Some, None, IsSome}
use Rattle.text_words.specs.Words.{shown}
use Rattle.hart_machine.specs.Patched.{Patched}
use Rattle.break_table.specs.declared.entry.BreakEntry.{BreakEntry as Kept}
use Rattle.break_table.specs.Entry.{Entry as BreakEntry, Asked, entry_of, new_entry}
use Rattle.break_table.specs.Table.{Table, inserted, deleted, changed, with_enabled, IsRising, stands, stands_at}
use Rattle.engine_parts.specs.declared.mind.Hold.{Hold}
use Rattle.engine_parts.specs.Facts.{Wants, wanted}
use Rattle.engine_parts.specs.Moves.{Repatched}
use Rattle.engine_parts.specs.Tables.{number_place, ArePlanted, HaveWords}
use Rattle.engine_parts.proofs.Breaking.{stands-added, stands-deleted, stands-enabled, stands-kept, absent-deleted, absent-changed, words-added, words-filter, words-changed, replanted_words, kept_words}
use Rattle.engine_parts.specs.Changing.{Retabled, wants_by}

-- a change after which one word is patched as it is wanted now
retabled : (m n : Patched) (v : Wants) (cs : List BreakEntry) (a : ℕ) → ArePlanted m.text v → ((c : ℕ) → (a ≡ c → ⊥) → stands c v.entries ≡ stands c cs) → HaveWords m.text cs
    → Repatched m.text n.text a (wanted (record v { entries = cs }) a) → n ≡ record m { text = n.text } → Retabled m n (record v { entries = cs })
retabled m n v cs a f same each w rest = record { planted = replanted_words v cs m.text n.text a f w same each; words = w.words; rest = rest }

pub inserted_words : (m n : Patched) (old new : Table) (hold : Option Hold) (a : Asked) → ArePlanted m.text (wants_by old hold) → new ≡ inserted old a → IsSome (shown m.text a.address)
    → Repatched m.text n.text a.address (wanted (wants_by new hold) a.address) → n ≡ record m { text = n.text } → Retabled m n (wants_by new hold)
inserted_words m n old new hold a f is here w rest =
    let es = old.entries ++ new_entry (old.given + 1) a ∷ [] in
    let P : Table → Type 0 = λ t. Repatched m.text n.text a.address (wanted (wants_by t hold) a.address) → Retabled m n (wants_by t hold) in
    subst P (sym is)
    (λ w. retabled m n (wants_by old hold) es a.address f (λ c apart. stands-added old.entries (new_entry (old.given + 1) a) c apart) (words-added m.text old.entries (new_entry (old.given + 1) a) f.words here) w rest) w

-- the place of a number, as the code looks it up
pub number_at : (t : Table) (es : List Kept) (n : ℕ) (o p : Option ℕ) → map entry_of es ≡ t.entries → o ≡ number_place (map entry_of es) n → o ≡ p → number_place t.entries n ≡ p
number_at t es n o p entries is found = ap (λ bs. number_place bs n) (sym entries) ∙ (sym is ∙ found)

pub deleted_words : (m n : Patched) (old new : Table) (hold : Option Hold) (k a : ℕ) → ArePlanted m.text (wants_by old hold) → IsRising 0 old.entries old.given → number_place old.entries k ≡ Some a → new ≡ deleted k old
    → Repatched m.text n.text a (wanted (wants_by new hold) a) → n ≡ record m { text = n.text } → Retabled m n (wants_by new hold)
deleted_words m n old new hold k a f rising at is w rest =
    let es = (deleted k old).entries in
    let P : Table → Type 0 = λ t. Repatched m.text n.text a (wanted (wants_by t hold) a) → Retabled m n (wants_by t hold) in
    subst P (sym is)
    (λ w. retabled m n (wants_by old hold) es a f (λ c apart. stands-deleted old.entries k a c 0 old.given rising at apart) (words-filter m.text _ old.entries f.words) w rest) w

pub none_deleted : (old : Table) (k : ℕ) → number_place old.entries k ≡ None → old ≡ deleted k old
none_deleted old k at = ap (λ es. let t : Table = record old { entries = es } in t) (sym (absent-deleted old.entries k at))

pub none_changed : (f : BreakEntry → BreakEntry) (old : Table) (k : ℕ) → number_place old.entries k ≡ None → old ≡ changed f k old
none_changed f old k at = ap (λ es. let t : Table = record old { entries = es } in t) (sym (absent-changed f old.entries k at))

pub enabled_words : (e : Bool) (m n : Patched) (old new : Table) (hold : Option Hold) (k a : ℕ) → ArePlanted m.text (wants_by old hold)
    → IsRising 0 old.entries old.given → number_place old.entries k ≡ Some a → new ≡ changed (with_enabled e) k old
    → Repatched m.text n.text a (wanted (wants_by new hold) a) → n ≡ record m { text = n.text } → Retabled m n (wants_by new hold)
enabled_words e m n old new hold k a f rising at is w rest =
    let es = (changed (with_enabled e) k old).entries in
    let P : Table → Type 0 = λ t. Repatched m.text n.text a (wanted (wants_by t hold) a) → Retabled m n (wants_by t hold) in
    subst P (sym is)
    (λ w. retabled m n (wants_by old hold) es a f (λ c apart. stands-enabled e old.entries k a c 0 old.given rising at apart) (words-changed m.text (with_enabled e) old.entries k (λ x. refl) f.words) w rest) w

-- a change that leaves each breakpoint where it stands leaves the machine too
pub kept_table : (f : BreakEntry → BreakEntry) (m : Patched) (old new : Table) (hold : Option Hold) (k : ℕ)
    → ((c : ℕ) (x : BreakEntry) → stands_at c (f x) ≡ stands_at c x) → ((x : BreakEntry) → (f x).address ≡ x.address) → ArePlanted m.text (wants_by old hold)
    → new ≡ changed f k old → Retabled m m (wants_by new hold)
kept_table f m old new hold k same addresses p is =
    let q = kept_words (wants_by old hold) (changed f k old).entries m.text p (λ c. stands-kept f old.entries k c (same c)) (words-changed m.text f old.entries k addresses p.words) in
    subst (λ (t : Table). Retabled m m (wants_by t hold)) (sym is) (record { planted = q; words = refl; rest = refl })

-- one change after another
pub retabled_twice : (l m n : Patched) (v w : Wants) → Retabled l m v → Retabled m n w → Retabled l n w
retabled_twice l m n v w f g =
    record { planted = g.planted; words = g.words ∙ f.words; rest = g.rest ∙ ap (λ (p : Patched). let q : Patched = record p { text = n.text } in q) f.rest }
