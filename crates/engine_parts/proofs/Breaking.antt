-- Breakpoints are set, deleted and changed: where they stand afterwards, and that each stands at a word of text.
use Rattle.std.proofs.Common.{◌≡◌, ℕ, zero, suc, ◌<◌, ◌≤◌, Bool, true, false, cond, List, [], ◌∷◌, ◌++◌, refl, sym, ap, ◌∙◌, subst, not, arith, map, filter}
use Rattle.std.specs.Prelude.{Some, None, IsSome, ◌&&◌, ◌||◌, ◌==◌, slice_get}
use Rattle.std.proofs.lemmas.Bool.Decides.{nat_tests}
use Rattle.std.specs.FinMap as finite
use Rattle.text_words.specs.Tables.{WordMap}
use Rattle.text_words.specs.Words.{Words, shown}
use Rattle.hart_machine.proofs.Places.{same_some, same_place}
use Rattle.break_table.specs.Entry.{Entry as BreakEntry}
use Rattle.break_table.specs.Table.{stands, stands_at, has_number, is_other, is_wait, changed_entry, with_enabled, IsRising}
use Rattle.std.specs.List.{list_any}
use Rattle.engine_parts.specs.Seen.{Engine}
use Rattle.engine_parts.specs.Facts.{Sound, Planted, AreInText, Wants, wanted, wants_of, is_home}
use Rattle.engine_parts.specs.Moves.{Repatched}
use Rattle.engine_parts.specs.Tables.{number_place, number_place_by, HaveWords, ArePlanted}
use Rattle.engine_parts.proofs.Planting.{replanted_at, text_shown, in_text}
use Rattle.engine_parts.proofs.Arriving.{off_here}

-- ---- numbers rise along the list, so each is that of one breakpoint

apart_from : (n low m : ℕ) → n ≤ low → low < m → (m == n) ≡ false
apart_from n low m le lt = grind (arith, nat_tests)

none_deleted : (n low : ℕ) (bs : List BreakEntry) (high : ℕ) → n ≤ low → IsRising low bs high → filter (is_other n) bs ≡ bs
none_deleted n low [] high le r = refl
none_deleted n low (b ∷ bs) high le r =
    let lt = r.0 in
    let more : n ≤ b.number = omega arith in
    rw (apart_from n low b.number le r.0) (ap (λ t. b ∷ t) (none_deleted n b.number bs high more r.1))

none_changed : (f : BreakEntry → BreakEntry) (n low : ℕ) (bs : List BreakEntry) (high : ℕ) → n ≤ low → IsRising low bs high → map (changed_entry f n) bs ≡ bs
none_changed f n low [] high le r = refl
none_changed f n low (b ∷ bs) high le r =
    let lt = r.0 in
    let more : n ≤ b.number = omega arith in
    rw (apart_from n low b.number le r.0) (ap (λ t. b ∷ t) (none_changed f n b.number bs high more r.1))

-- ---- where breakpoints stand after a change

deleted_by : (b : BreakEntry) (bs : List BreakEntry) (n a c low high : ℕ) (t : Bool) → (b.number == n) ≡ t → IsRising low (b ∷ bs) high → number_place_by t b (number_place bs n) ≡ Some a → (a ≡ c → ⊥)
    → (number_place bs n ≡ Some a → stands c bs ≡ stands c (filter (is_other n) bs)) → (stands_at c b || stands c bs) ≡ stands c (cond (not t) (b ∷ filter (is_other n) bs) (filter (is_other n) bs))
deleted_by b bs n a c low high true is r at apart ih =
    let same : b.number ≡ n = grind (arith, nat_tests) in
    let le : n ≤ b.number = omega arith in
    let there : b.address ≡ a = same_some b.address a at in
    ap (λ u. u || stands c bs) (off_here b c (λ e. apart (sym there ∙ e))) ∙ ap (stands c) (sym (none_deleted n b.number bs high le r.1))
deleted_by b bs n a c low high false is r at apart ih = ap (λ u. stands_at c b || u) (ih at)

-- a breakpoint that is deleted changes nothing elsewhere
pub stands-deleted : (bs : List BreakEntry) (n a c low high : ℕ) → IsRising low bs high → number_place bs n ≡ Some a → (a ≡ c → ⊥) → stands c bs ≡ stands c (filter (is_other n) bs)
stands-deleted [] n a c low high r at apart = cc
stands-deleted (b ∷ bs) n a c low high r at apart = deleted_by b bs n a c low high (b.number == n) refl r at apart (λ e. stands-deleted bs n a c b.number high r.1 e apart)

enabled_by : (e : Bool) (b : BreakEntry) (bs : List BreakEntry) (n a c low high : ℕ) (t : Bool) → (b.number == n) ≡ t → IsRising low (b ∷ bs) high → number_place_by t b (number_place bs n) ≡ Some a → (a ≡ c → ⊥)
    → (number_place bs n ≡ Some a → stands c bs ≡ stands c (map (changed_entry (with_enabled e) n) bs))
    → (stands_at c b || stands c bs) ≡ stands c (cond t (with_enabled e b) b ∷ map (changed_entry (with_enabled e) n) bs)
enabled_by e b bs n a c low high true is r at apart ih =
    let same : b.number ≡ n = grind (arith, nat_tests) in
    let le : n ≤ b.number = omega arith in
    let there : b.address ≡ a = same_some b.address a at in
    let off : b.address ≡ c → ⊥ = λ e. apart (sym there ∙ e) in
    ap (λ u. u || stands c bs) (off_here b c off ∙ sym (off_here (with_enabled e b) c off))
    ∙ ap (λ u. stands_at c (with_enabled e b) || stands c u) (sym (none_changed (with_enabled e) n b.number bs high le r.1))
enabled_by e b bs n a c low high false is r at apart ih = ap (λ u. stands_at c b || u) (ih at)

-- nor does one that is enabled or disabled
pub stands-enabled : (e : Bool) (bs : List BreakEntry) (n a c low high : ℕ) → IsRising low bs high → number_place bs n ≡ Some a → (a ≡ c → ⊥) → stands c bs ≡ stands c (map (changed_entry (with_enabled e) n) bs)
stands-enabled e [] n a c low high r at apart = cc
stands-enabled e (b ∷ bs) n a c low high r at apart = enabled_by e b bs n a c low high (b.number == n) refl r at apart (λ f. stands-enabled e bs n a c b.number high r.1 f apart)

absent_deleted_by : (b : BreakEntry) (bs : List BreakEntry) (n : ℕ) (t : Bool) → number_place_by t b (number_place bs n) ≡ None
    → (number_place bs n ≡ None → filter (is_other n) bs ≡ bs) → cond (not t) (b ∷ filter (is_other n) bs) (filter (is_other n) bs) ≡ b ∷ bs
absent_deleted_by b bs n true at ih = cc
absent_deleted_by b bs n false at ih = ap (λ t. b ∷ t) (ih at)

-- a number that no breakpoint has
pub absent-deleted : (bs : List BreakEntry) (n : ℕ) → number_place bs n ≡ None → filter (is_other n) bs ≡ bs
absent-deleted [] n at = refl
absent-deleted (b ∷ bs) n at = absent_deleted_by b bs n (b.number == n) at (absent-deleted bs n)

absent_changed_by : (f : BreakEntry → BreakEntry) (b : BreakEntry) (bs : List BreakEntry) (n : ℕ) (t : Bool)
    → number_place_by t b (number_place bs n) ≡ None → (number_place bs n ≡ None → map (changed_entry f n) bs ≡ bs) → cond t (f b) b ∷ map (changed_entry f n) bs ≡ b ∷ bs
absent_changed_by f b bs n true at ih = cc
absent_changed_by f b bs n false at ih = ap (λ t. b ∷ t) (ih at)

pub absent-changed : (f : BreakEntry → BreakEntry) (bs : List BreakEntry) (n : ℕ) → number_place bs n ≡ None → map (changed_entry f n) bs ≡ bs
absent-changed f [] n at = refl
absent-changed f (b ∷ bs) n at = absent_changed_by f b bs n (b.number == n) at (absent-changed f bs n)

kept_by : (f : BreakEntry → BreakEntry) (b : BreakEntry) (t : Bool) (c : ℕ) → ((x : BreakEntry) → stands_at c (f x) ≡ stands_at c x) → stands_at c (cond t (f b) b) ≡ stands_at c b
kept_by f b true c same = same b
kept_by f b false c same = refl

-- a change that leaves each breakpoint where it stands
pub stands-kept : (f : BreakEntry → BreakEntry) (bs : List BreakEntry) (n c : ℕ) → ((x : BreakEntry) → stands_at c (f x) ≡ stands_at c x) → stands c (map (changed_entry f n) bs) ≡ stands c bs
stands-kept f [] n c same = refl
stands-kept f (b ∷ bs) n c same = ap (λ u. u || stands c (map (changed_entry f n) bs)) (kept_by f b (b.number == n) c same) ∙ ap (λ u. stands_at c b || u) (stands-kept f bs n c same)

pub stands-added : (bs : List BreakEntry) (b : BreakEntry) (a : ℕ) → (b.address ≡ a → ⊥) → stands a bs ≡ stands a (bs ++ b ∷ [])
stands-added [] b a n = sym (ap (λ t. t || false) (off_here b a n))
stands-added (x ∷ xs) b a n = ap (λ t. stands_at a x || t) (stands-added xs b a n)

-- ---- each breakpoint stands at a word of text

words_cons : (t : Words) (b : BreakEntry) (bs : List BreakEntry) (k : ℕ) (d : BreakEntry) → IsSome (shown t b.address) → HaveWords t bs → slice_get (b ∷ bs) k ≡ Some d → IsSome (shown t d.address)
words_cons t b bs zero d here rest at = subst (λ (a : ℕ). IsSome (shown t a)) (ap (λ (z : BreakEntry). z.address) (same_some b d at)) here
words_cons t b bs (suc k) d here rest at = rest k d at

words_filter_by : (t : Words) (keeps : BreakEntry → Bool) (b : BreakEntry) (bs : List BreakEntry) (is : Bool) → IsSome (shown t b.address) → HaveWords t (filter keeps bs) → HaveWords t (cond is (b ∷ filter keeps bs) (filter keeps bs))
words_filter_by t keeps b bs true here rest = λ k d at. words_cons t b (filter keeps bs) k d here rest at
words_filter_by t keeps b bs false here rest = rest

pub words-filter : (t : Words) (keeps : BreakEntry → Bool) (bs : List BreakEntry) → HaveWords t bs → HaveWords t (filter keeps bs)
words-filter t keeps [] each = each
words-filter t keeps (b ∷ bs) each = words_filter_by t keeps b bs (keeps b) (each 0 b refl) (words-filter t keeps bs (λ k d at. each (suc k) d at))

address_by : (f : BreakEntry → BreakEntry) (b : BreakEntry) (t : Bool) → ((x : BreakEntry) → (f x).address ≡ x.address) → (cond t (f b) b).address ≡ b.address
address_by f b true same = same b
address_by f b false same = refl

pub words-changed : (t : Words) (f : BreakEntry → BreakEntry) (bs : List BreakEntry) (n : ℕ) → ((x : BreakEntry) → (f x).address ≡ x.address) → HaveWords t bs → HaveWords t (map (changed_entry f n) bs)
words-changed t f [] n same each = each
words-changed t f (b ∷ bs) n same each =
    λ k d at. words_cons t (changed_entry f n b) (map (changed_entry f n) bs) k d (subst (λ (a : ℕ). IsSome (shown t a)) (sym (address_by f b (b.number == n) same)) (each 0 b refl))
    (words-changed t f bs n same (λ j e is. each (suc j) e is)) at

pub words-added : (t : Words) (bs : List BreakEntry) (b : BreakEntry) → HaveWords t bs → IsSome (shown t b.address) → HaveWords t (bs ++ b ∷ [])
words-added t [] b each here = λ k d at. words_cons t b [] k d here each at
words-added t (x ∷ xs) b each here = λ k d at. words_cons t x (xs ++ b ∷ []) k d (each 0 x refl) (words-added t xs b (λ j e is. each (suc j) e is) here) at

-- a number that has an address is that of a breakpoint
has_by : (b : BreakEntry) (bs : List BreakEntry) (n a : ℕ) (t : Bool) → number_place_by t b (number_place bs n) ≡ Some a → (number_place bs n ≡ Some a → has_number n bs ≡ true) → (t || has_number n bs) ≡ true
has_by b bs n a true at ih = refl
has_by b bs n a false at ih = ih at

pub place-has : (bs : List BreakEntry) (n a : ℕ) → number_place bs n ≡ Some a → has_number n bs ≡ true
place-has [] n a at = cc
place-has (b ∷ bs) n a at = has_by b bs n a (b.number == n) at (place-has bs n a)

-- the address of a number is that of a breakpoint
place_by : (t : Words) (b : BreakEntry) (bs : List BreakEntry) (n a : ℕ) (is : Bool) → number_place_by is b (number_place bs n) ≡ Some a → IsSome (shown t b.address) → (number_place bs n ≡ Some a → IsSome (shown t a)) → IsSome (shown t a)
place_by t b bs n a true at here ih = subst (λ (a : ℕ). IsSome (shown t a)) (same_some b.address a at) here
place_by t b bs n a false at here ih = ih at

pub place-shown : (t : Words) (bs : List BreakEntry) (n a : ℕ) → HaveWords t bs → number_place bs n ≡ Some a → IsSome (shown t a)
place-shown t [] n a each at = cc
place-shown t (b ∷ bs) n a each at = place_by t b bs n a (b.number == n) at (each 0 b refl) (place-shown t bs n a (λ k d is. each (suc k) d is))

pub same_shown : (t t' : Words) (a : ℕ) → t'.words ≡ t.words → IsSome (shown t a) → IsSome (shown t' a)
same_shown t t' a is some = subst (λ (m : WordMap). IsSome (finite.get m a)) (sym is) some

pub same_words : (t t' : Words) (bs : List BreakEntry) → t'.words ≡ t.words → HaveWords t bs → HaveWords t' bs
same_words t t' bs is each = λ k d at. subst (λ (m : WordMap). IsSome (finite.get m d.address)) (sym is) (each k d at)

-- ---- patches

-- one word is patched as it is wanted now, and the others are wanted as before
pub replanted_words : (v : Wants) (bs : List BreakEntry) (t t' : Words) (a : ℕ) → ArePlanted t v → Repatched t t' a (wanted (record v { entries = bs }) a) → ((c : ℕ) → (a ≡ c → ⊥) → stands c v.entries ≡ stands c bs) → HaveWords t bs
    → ArePlanted t' (record v { entries = bs })
replanted_words v bs t t' a f w same each =
    record {
      patches = λ b. replanted_at v (record v { entries = bs }) t t' a f.patches w (λ c n. ap (λ u. (u || list_any (is_wait c) v.waits) && not (is_home v.hold c)) (same c n)) b (same_place a b);
      words = same_words t t' bs w.words each;
      awaits = λ c e. same_shown t t' c w.words (f.awaits c e);
    }

-- the breakpoints change, and none stands elsewhere than before
pub kept_words : (v : Wants) (bs : List BreakEntry) (t : Words) → ArePlanted t v → ((c : ℕ) → stands c bs ≡ stands c v.entries) → HaveWords t bs → ArePlanted t (record v { entries = bs })
kept_words v bs t f same each = record { patches = λ c. f.patches c ∙ ap (λ u. (u || list_any (is_wait c) v.waits) && not (is_home v.hold c)) (sym (same c)); words = each; awaits = f.awaits }

-- what is planted in an engine
pub are_planted : (r : Engine) → Sound r → ArePlanted r.machine.text (wants_of r)
are_planted r f = record {
  patches = f.planted.patches;
  words = λ k b at. text_shown r.opening.image r.machine.text (wants_of r) b.address f.planted
      (f.texts k b at);
  awaits = λ a e. text_shown r.opening.image r.machine.text (wants_of r) a f.planted (f.awaits a e);
}

-- and back
pub planted_again : (r : Engine) (t : Words) (bs : List BreakEntry) → Sound r → t.words ≡ r.machine.text.words
    → (let v : Wants = record (wants_of r) { entries = bs } in ArePlanted t v → Planted r.opening.image t v × AreInText r.opening.image bs)
planted_again r t bs f same p =
    let v : Wants = record (wants_of r) { entries = bs } in
    let planted : Planted r.opening.image t v = record { words = same ∙ f.planted.words; patches = p.patches } in
    (planted, λ k b at. in_text r.opening.image t v b.address planted (p.words k b at))
