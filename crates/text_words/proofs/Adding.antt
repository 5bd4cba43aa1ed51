-- One more text section among the regions.
use Rattle.std.proofs.Common.{◌≡◌, ℕ, ◌+◌, ◌-◌, ◌*◌, ◌/◌, ◌%◌, ◌<◌, ◌≤◌, inl, inr, List, [], ◌∷◌, ◌++◌, length, take, refl, ap, sym, ◌∙◌, subst, arith, length-append}
use Rattle.std.specs.Prelude.{◌⊎◌, All, slice_index_or}
use Rattle.std.proofs.lemmas.List.{get_or_default}
use Rattle.elf32_read.specs.Program.{Program}
use Rattle.elf32_read.specs.Spans.{Rise}
use Rattle.elf32_read.specs.TextSpans.{AreAligned}
use Rattle.elf32_read.specs.declared.spans.Span.{Span}
use Rattle.text_words.specs.declared.region.Region.{Region}
use Rattle.text_words.specs.Layout.{IsLayout, Opens}
use Rattle.text_words.proofs.Collecting.{AreFound, EndsBefore, IsSpanOf, LastEnds, at_last, found_more, joined, laid_front, no_text, place_joined, place_pushed, pushed}

-- so many of the sections are laid out, and the last of them ends there
pub record Collected (p : Program) (ss : List Span) (n : ℕ) (rs : List Region) (words : List ℕ) (end : ℕ) : Type 0 where
  pub layout : IsLayout rs (length words)
  pub found : AreFound p (take n ss) rs words
  pub last : LastEnds rs end
  pub before : (d : Span) → n < length ss → end ≤ (slice_index_or ss n d).start

pub first_within : (old rs : List Region) (address first start len end : ℕ) → IsLayout old len → Opens old rs address first start len end → first ≤ len
first_within old rs address first start len end h opens =
    elim opens [
      | inl b ↦ omega (arith, b.first_is)
      | inr g ↦ (let laid = laid_front rs g.region 0 len (subst (λ xs. IsLayout xs len) g.was h).laid in omega (arith, laid.1, g.first_is))
    ]

last_ends : (rs : List Region) (r : Region) (end : ℕ) → r.address + 4 * r.count ≡ end → LastEnds (rs ++ r ∷ []) end
last_ends rs r end e d some =
    let last : length (rs ++ r ∷ []) - 1 ≡ length rs = omega (arith, length-append rs (r ∷ [])) in
    rw (last, at_last rs r d) e

-- the section that comes next, its words behind the others, and the region that has them
pub record Comes (p : Program) (ss : List Span) (k : ℕ) (d : Span) (r : Region) (words ws more : List ℕ) : Type 0 where
  pub low : k < length ss
  pub is : IsSpanOf p.text (slice_index_or ss k d)
  pub rise : Rise ss
  pub aligned : AreAligned ss
  pub own : ws ≡ (slice_index_or p.text (slice_index_or ss k d).number no_text).words
  pub all : more ≡ words ++ ws
  pub counted : r.first + r.count ≡ length more

size_of : (p : Program) (ss : List Span) (k : ℕ) (d : Span) (r : Region) (words ws more : List ℕ) → Comes p ss k d r words ws more → (slice_index_or ss k d).size ≡ 4 * length ws
size_of p ss k d r words ws more c = c.is.size ∙ ap (λ xs. 4 * length xs) (sym c.own)

many_of : (p : Program) (ss : List Span) (k : ℕ) (d : Span) (r : Region) (words ws more : List ℕ) → Comes p ss k d r words ws more → length more ≡ length words + length ws
many_of p ss k d r words ws more c = ap length c.all ∙ length-append words ws

next_of : (p : Program) (ss : List Span) (k : ℕ) (d e : Span) (r : Region) (words ws more : List ℕ) → Comes p ss k d r words ws more → k + 1 < length ss
    → (slice_index_or ss k d).start + (slice_index_or ss k d).size ≤ (slice_index_or ss (k + 1) e).start
next_of p ss k d e r words ws more c lt = let up = c.rise k d lt in rw (get_or_default ss (k + 1) e d lt) up

begun_more : (p : Program) (ss : List Span) (k : ℕ) (d : Span) (old : List Region) (r : Region) (words ws more : List ℕ) (end : ℕ) → Comes p ss k d r words ws more
    → r.address ≡ (slice_index_or ss k d).start → r.first ≡ length words → ((slice_index_or ss k d).start ≡ end → ⊥) ⊎ (length old ≡ 0) → Collected p ss k old words end
    → Collected p ss (k + 1) (old ++ r ∷ []) more ((slice_index_or ss k d).start + (slice_index_or ss k d).size)
begun_more p ss k d old r words ws more end c address first gap h =
    let s : Span = slice_index_or ss k d in
    let many = many_of p ss k d r words ws more c in
    let count : r.count ≡ length ws = omega (arith, c.counted, many, first) in
    let behind : EndsBefore old r.address =
    λ e some. elim gap [
      | inl apart ↦ (let ends = h.last e some in let before = h.before d c.low in omega (arith, ends, before, apart, address))
      | inr none ↦ absurd (omega (arith, none, some))
    ] in
    record {
      layout = pushed old r (length words) (length more) h.layout behind (omega (arith, c.aligned k d c.low, address)) first (omega (arith, count, many));
      found = found_more p ss k d old (old ++ r ∷ []) words ws more c.low c.is c.own c.all h.layout.laid (λ addr. place_pushed old r s.start (length ws) (length words) addr address first count) h.found;
      last = last_ends old r (s.start + s.size) (omega (arith, address, count, size_of p ss k d r words ws more c));
      before = λ e lt. next_of p ss k d e r words ws more c lt;
    }

joined_more : (p : Program) (ss : List Span) (k : ℕ) (d : Span) (rs : List Region) (l r : Region) (words ws more : List ℕ) (end : ℕ) → Comes p ss k d r words ws more
    → r.address ≡ l.address → r.first ≡ l.first → (slice_index_or ss k d).start ≡ end → Collected p ss k (rs ++ l ∷ []) words end
    → Collected p ss (k + 1) (rs ++ r ∷ []) more ((slice_index_or ss k d).start + (slice_index_or ss k d).size)
joined_more p ss k d rs l r words ws more end c address first joins h =
    let s : Span = slice_index_or ss k d in
    let many = many_of p ss k d r words ws more c in
    let laid = laid_front rs l 0 (length words) h.layout.laid in
    let last = h.last l (omega (arith, length-append rs (l ∷ []))) in
    let at : length (rs ++ l ∷ []) - 1 ≡ length rs = omega (arith, length-append rs (l ∷ [])) in
    let ends : l.address + 4 * l.count ≡ end = rw (at, at_last rs l l) at last in
    let count : r.count ≡ l.count + length ws = omega (arith, c.counted, many, first, laid.1) in
    record {
      layout = joined rs l r (length words) (length more) h.layout address first (omega (arith, c.counted, first));
      found = found_more p ss k d (rs ++ l ∷ []) (rs ++ r ∷ []) words ws more c.low c.is c.own c.all h.layout.laid
          (λ addr. place_joined rs l r s.start (length ws) (length words) addr address first count (joins ∙ sym ends) laid.1) h.found;
      last = last_ends rs r (s.start + s.size) (omega (arith, address, count, size_of p ss k d r words ws more c, ends, joins));
      before = λ e lt. next_of p ss k d e r words ws more c lt;
    }

pub collected_more : (p : Program) (ss : List Span) (k : ℕ) (d : Span) (old rs : List Region) (r : Region) (words ws more : List ℕ) (end : ℕ) → Comes p ss k d r words ws more
    → Opens old rs r.address r.first (slice_index_or ss k d).start (length words) end → Collected p ss k old words end
    → Collected p ss (k + 1) (rs ++ r ∷ []) more ((slice_index_or ss k d).start + (slice_index_or ss k d).size)
collected_more p ss k d old rs r words ws more end c opens h =
    elim opens [
      | inl b ↦ begun_more p ss k d rs r words ws more end c b.address_is b.first_is (rw b.same b.gap) (rw b.same h)
      | inr g ↦ joined_more p ss k d rs g.region r words ws more end c g.address_is g.first_is g.joins (subst (λ xs. Collected p ss k xs words end) g.was h)
    ]

pub none_collected : (p : Program) (ss : List Span) → Collected p ss 0 [] [] 0
none_collected p ss = record {
  layout = record { laid = refl; apart = λ k d lt. absurd (omega arith); whole = λ k d lt. absurd (omega arith) };
  found = λ addr. refl;
  last = λ d some. absurd (omega arith);
  before = λ d lt. omega arith;
}
