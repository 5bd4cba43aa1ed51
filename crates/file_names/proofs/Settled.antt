-- Homes of texts of one byte more.
use Rattle.std.proofs.Common.{◌≡◌, ℕ, zero, suc, ◌+◌, ◌-◌, ◌*◌, ◌≤◌, ◌<◌, List, ◌∷◌, Some, length, refl, arith, inl, inr, ◌∙◌, ap, sym, subst, get_or}
use Rattle.std.specs.List.{Contains}
use Rattle.std.specs.BTreeMap.{BTreeMap, get}
use Rattle.std.specs.Prelude.{slice_set, ◌⊎◌}
use Rattle.std.proofs.lemmas.List.{get_or_default, get_or-set_same, length-set}
use Rattle.std.proofs.lemmas.List.Elements.{Contains-get_or}
use Rattle.file_names.proofs.Known.{get_set_other}
use Rattle.std.specs.Ordering.{nat_cmp}
use Rattle.leb_read.specs.Leb.{text_from}
use Rattle.file_names.specs.Homes.{AreHomes, AreHomesTo, ArePlaces, Settles, size_at}
use Rattle.file_names.proofs.Texts.{shorter, size_behind, size_most, size_some, text_more}

-- what tells the text at a place apart from others of its length
abbrev pub key_at : List ℕ → List ℕ → ℕ → ℕ
key_at bytes homes p = 256 * get_or homes (p + 1) 0 + get_or bytes p 0

-- what a map of keys says when so many places have their homes
pub record Puts (bytes places : List ℕ) (size done : ℕ) (old homes : List ℕ) (met : BTreeMap ℕ ℕ) : Type 0 where
  pub length_is : length homes ≡ length bytes + 1
  pub stays : (q : ℕ) → q ≤ length bytes → size_at bytes q ≤ size → get_or homes q 0 ≡ get_or old q 0
  pub put : (k : ℕ) → k < done → get nat_cmp met (key_at bytes old (get_or places k 0)) ≡ Some (get_or homes (get_or places k 0) 0)
  pub from : (key h : ℕ) → get nat_cmp met key ≡ Some h → (h ≤ length bytes) × (size_at bytes h ≡ size + 1) × (key_at bytes old h ≡ key)

-- bytes have eight bits
abbrev pub AreBytes : List ℕ → Type 0
AreBytes bytes = (p : ℕ) → get_or bytes p 0 < 256

pub same_key : (bytes old : List ℕ) (size p q : ℕ) → AreHomesTo bytes old size → p ≤ length bytes → size_at bytes p ≡ size + 1 → size_at bytes q ≡ size + 1 → text_from bytes p ≡ text_from bytes q → key_at bytes old p ≡ key_at bytes old q
same_key bytes old size p q h within ps qs same =
    let a = size_some bytes p size ps in
    let b = size_some bytes q size qs in
    let e : get_or bytes p 0 ∷ text_from bytes (p + 1) ≡ get_or bytes q 0 ∷ text_from bytes (q + 1) = sym (text_more bytes p a.0 a.1) ∙ same ∙ text_more bytes q b.0 b.1 in
    let byte : get_or bytes p 0 ≡ get_or bytes q 0 = cc in
    let rest : text_from bytes (p + 1) ≡ text_from bytes (q + 1) = cc in
    let home : get_or old (p + 1) 0 ≡ get_or old (q + 1) 0 = h.one (p + 1) (q + 1) (omega (arith, a.0)) (omega (arith, b.0)) (omega (arith, size_behind bytes p size ps)) rest in
    omega (arith, byte, home)

pub same_text : (bytes old : List ℕ) (size p q : ℕ) → AreBytes bytes → AreHomesTo bytes old size → size_at bytes p ≡ size + 1 → size_at bytes q ≡ size + 1 → key_at bytes old p ≡ key_at bytes old q → text_from bytes p ≡ text_from bytes q
same_text bytes old size p q small h ps qs same =
    let a = size_some bytes p size ps in
    let b = size_some bytes q size qs in
    let byte : get_or bytes p 0 ≡ get_or bytes q 0 = omega (arith, same, small p, small q) in
    let home : get_or old (p + 1) 0 ≡ get_or old (q + 1) 0 = omega (arith, same, small p, small q) in
    let front = (h.same (p + 1) (omega (arith, a.0)) (omega (arith, size_behind bytes p size ps))).1 in
    let back = (h.same (q + 1) (omega (arith, b.0)) (omega (arith, size_behind bytes q size qs))).1 in
    let rest : text_from bytes (p + 1) ≡ text_from bytes (q + 1) = sym front ∙ ap (λ (n : ℕ). text_from bytes n) home ∙ back in
    let first : get_or bytes p 0 ∷ text_from bytes (p + 1) ≡ get_or bytes q 0 ∷ text_from bytes (q + 1) = cc in
    text_more bytes p a.0 a.1 ∙ first ∙ sym (text_more bytes q b.0 b.1)

-- a place more gets its home
pub put_more : (bytes places : List ℕ) (size done : ℕ) (old homes : List ℕ) (met after : BTreeMap ℕ ℕ) (p key home : ℕ) → ArePlaces bytes places (size + 1) → done < length places → p ≡ get_or places done 0
    → key ≡ 256 * get_or homes (p + 1) 0 + get_or bytes p 0 → Settles met after key p home → Puts bytes places size done old homes met → Puts bytes places size (done + 1) old (slice_set homes p home) after
put_more bytes places size done old homes met after p key home are below is key_is step h =
    record { length_is = length-set homes p home ∙ h.length_is; stays = stays; put = put; from = from }
  where
    has : Contains places p
    has = subst (Contains places) (sym is) (Contains-get_or places done 0 below)

    mine : (p ≤ length bytes) × (size_at bytes p ≡ size + 1)
    mine = are.no_more p has

    some : (p < length bytes) × (get_or bytes p 0 ≡ 0 → ⊥)
    some = size_some bytes p size mine.1

    key_old : key ≡ key_at bytes old p
    key_old = let was = h.stays (p + 1) (omega (arith, some.0)) (omega (arith, size_behind bytes p size mine.1)) in omega (arith, key_is, was)

    apart : (q : ℕ) → (q ≡ p → ⊥) → get_or (slice_set homes p home) q 0 ≡ get_or homes q 0
    apart q ne = get_set_other homes p q home 0 ne

    stays : (q : ℕ) → q ≤ length bytes → size_at bytes q ≤ size → get_or (slice_set homes p home) q 0 ≡ get_or old q 0
    stays q within low = apart q (λ same. let long : size_at bytes q ≡ size + 1 = ap (size_at bytes) same ∙ mine.1 in omega (arith, long, low)) ∙ h.stays q within low

    own : get nat_cmp after (key_at bytes old p) ≡ Some (get_or (slice_set homes p home) p 0)
    own = ap (get nat_cmp after) (sym key_old) ∙ step.here ∙ ap (λ (n : ℕ). Some n) (sym (get_or-set_same homes p home 0 (omega (arith, some.0, h.length_is))))

    put_by : (q d : ℕ) → (q - p) + (p - q) ≡ d → get nat_cmp met (key_at bytes old q) ≡ Some (get_or homes q 0) → get nat_cmp after (key_at bytes old q) ≡ Some (get_or (slice_set homes p home) q 0)
    put_by q zero e was = let same : q ≡ p = omega (arith, e) in subst (λ (n : ℕ). get nat_cmp after (key_at bytes old n) ≡ Some (get_or (slice_set homes p home) n 0)) (sym same) own
    put_by q (suc d) e was = step.stays (key_at bytes old q) (get_or homes q 0) was ∙ ap (λ (n : ℕ). Some n) (sym (apart q (λ same. omega (arith, e, same))))

    put_at : (k d : ℕ) → k < done + 1 → done - k ≡ d → get nat_cmp after (key_at bytes old (get_or places k 0)) ≡ Some (get_or (slice_set homes p home) (get_or places k 0) 0)
    put_at k zero low e = let same : get_or places k 0 ≡ p = ap (λ (i : ℕ). get_or places i 0) (omega (arith, low, e)) ∙ sym is in subst
        (λ (n : ℕ). get nat_cmp after (key_at bytes old n) ≡ Some (get_or (slice_set homes p home) n 0)) (sym same) own
    put_at k (suc d) low e = put_by (get_or places k 0) ((get_or places k 0 - p) + (p - get_or places k 0)) refl (h.put k (omega (arith, e)))

    put : (k : ℕ) → k < done + 1 → get nat_cmp after (key_at bytes old (get_or places k 0)) ≡ Some (get_or (slice_set homes p home) (get_or places k 0) 0)
    put k low = put_at k (done - k) low refl

    from_by : (q n : ℕ) → (get nat_cmp met q ≡ Some n) ⊎ ((q ≡ key) × (n ≡ p)) → (n ≤ length bytes) × (size_at bytes n ≡ size + 1) × (key_at bytes old n ≡ q)
    from_by q n (inl was) = h.from q n was
    from_by q n (inr new) = subst (λ (m : ℕ). (m ≤ length bytes) × (size_at bytes m ≡ size + 1) × (key_at bytes old m ≡ q)) (sym new.1) (mine.0, mine.1, sym key_old ∙ sym new.0)

    from : (q n : ℕ) → get nat_cmp after q ≡ Some n → (n ≤ length bytes) × (size_at bytes n ≡ size + 1) × (key_at bytes old n ≡ q)
    from q n e = from_by q n (step.from q n e)

-- what a place has
there : (bytes places : List ℕ) (size : ℕ) (old homes : List ℕ) (met : BTreeMap ℕ ℕ) (p : ℕ) → Puts bytes places size (length places) old homes met → Contains places p → get nat_cmp met (key_at bytes old p) ≡ Some (get_or homes p 0)
there bytes places size old homes met p h has =
    let at : get_or places has.0 0 ≡ p = get_or_default places has.0 0 p has.1 ∙ has.2 in
    subst (λ (q : ℕ). get nat_cmp met (key_at bytes old q) ≡ Some (get_or homes q 0)) at (h.put has.0 has.1)

pub settled : (bytes places : List ℕ) (size done : ℕ) (old homes : List ℕ) (met : BTreeMap ℕ ℕ) → AreBytes bytes → AreHomesTo bytes old size
    → ArePlaces bytes places (size + 1) → length places ≤ done → Puts bytes places size done old homes met → AreHomesTo bytes homes (size + 1)
settled bytes places size done old homes met small before are all puts =
    record { size = puts.length_is; same = same; one = one }
  where
    full : Puts bytes places size (length places) old homes met
    full = record { length_is = puts.length_is; stays = puts.stays; put = λ k below. puts.put k (omega (arith, below, all)); from = puts.from }

    same_by : (p n : ℕ) → p ≤ length bytes → size_at bytes p ≡ n → n ≤ size + 1 → (left : ℕ) → size + 1 - n ≡ left → (get_or homes p 0 ≤ length bytes) × (text_from bytes (get_or homes p 0) ≡ text_from bytes p)
    same_by p n within is low zero e =
        let long : size_at bytes p ≡ size + 1 = omega (arith, is, low, e) in
        let f = full.from (key_at bytes old p) (get_or homes p 0) (there bytes places size old homes met p full (are.all p within long)) in
        (f.0, same_text bytes old size (get_or homes p 0) p small before f.1 long f.2)
    same_by p n within is low (suc left) e =
        let short : size_at bytes p ≤ size = omega (arith, is, e) in
        let stays = puts.stays p within short in
        let was = before.same p within short in
        subst (λ (h : ℕ). (h ≤ length bytes) × (text_from bytes h ≡ text_from bytes p)) (sym stays) was

    same : (p : ℕ) → p ≤ length bytes → size_at bytes p ≤ size + 1 → (get_or homes p 0 ≤ length bytes) × (text_from bytes (get_or homes p 0) ≡ text_from bytes p)
    same p within low = same_by p (size_at bytes p) within refl low (size + 1 - size_at bytes p) refl

    one_by : (p q n : ℕ) → p ≤ length bytes → q ≤ length bytes → size_at bytes p ≡ n → n ≤ size + 1 → text_from bytes p ≡ text_from bytes q → (left : ℕ) → size + 1 - n ≡ left → get_or homes p 0 ≡ get_or homes q 0
    one_by p q n pw qw is low texts zero e =
        let ps : size_at bytes p ≡ size + 1 = omega (arith, is, low, e) in
        let qs : size_at bytes q ≡ size + 1 = omega (arith, ap length texts, ps) in
        let a = there bytes places size old homes met p full (are.all p pw ps) in
        let b = there bytes places size old homes met q full (are.all q qw qs) in
        let key = same_key bytes old size p q before pw ps qs texts in
        let both : Some (get_or homes p 0) ≡ Some (get_or homes q 0) = sym a ∙ ap (λ (k : ℕ). get nat_cmp met k) key ∙ b in
        cc
    one_by p q n pw qw is low texts (suc left) e =
        let ps : size_at bytes p ≤ size = omega (arith, is, e) in
        let qs : size_at bytes q ≤ size = omega (arith, ap length texts, ps) in
        puts.stays p pw ps ∙ before.one p q pw qw ps texts ∙ sym (puts.stays q qw qs)

    one : (p q : ℕ) → p ≤ length bytes → q ≤ length bytes → size_at bytes p ≤ size + 1 → text_from bytes p ≡ text_from bytes q → get_or homes p 0 ≡ get_or homes q 0
    one p q pw qw low texts = one_by p q (size_at bytes p) pw qw refl low texts (size + 1 - size_at bytes p) refl

-- homes of texts of all lengths that there are
pub all_homes : (bytes homes : List ℕ) (size : ℕ) → AreHomesTo bytes homes size → length bytes ≤ size → AreHomes bytes homes
all_homes bytes homes size h most =
    record {
      size = h.size;
      same = λ p within. h.same p within (omega (arith, size_most bytes p));
      one = λ p q pw qw e. h.one p q pw qw (omega (arith, size_most bytes p)) e;
    }

-- where there is no text of a length there is none that is longer
pub no_longer : (bytes homes places : List ℕ) (size : ℕ) → AreHomesTo bytes homes size → ArePlaces bytes places size → length places ≡ 0 → AreHomes bytes homes
no_longer bytes homes places size h are none =
    record {
      size = h.size;
      same = λ p within. h.same p within (low p within);
      one = λ p q pw qw e. h.one p q pw qw (low p pw) e;
    }
  where
    low_by : (p left : ℕ) → p ≤ length bytes → size_at bytes p - size ≡ left → size_at bytes p ≤ size
    low_by p zero within e = omega (arith, e)
    low_by p (suc left) within e =
        let s = shorter (suc left) bytes p size within (omega (arith, e)) in
        let has = are.all s.0 s.1 s.2 in
        absurd (omega (arith, has.1, none))

    low : (p : ℕ) → p ≤ length bytes → size_at bytes p ≤ size
    low p within = low_by p (size_at bytes p - size) within refl
