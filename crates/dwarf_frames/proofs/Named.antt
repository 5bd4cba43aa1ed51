-- The CIE of a place, by a search among the places of CIEs.
use Rattle.std.proofs.Common.{◌≡◌, ℕ, zero, suc, ◌+◌, Bool, true, false, List, [], ◌∷◌, ◌++◌, length, drop, take, get_or, Result, Ok, Err, refl, sym, subst, ◌∙◌, ap, arith, cond}
use Rattle.std.specs.Prelude.{nat_le, nat_lt, ◌==◌, ◌||◌, if◌then◌else◌}
use Rattle.std.specs.List.{list_any}
use Rattle.std.specs.List.Sorted.{IsNonDecreasing}
use Rattle.std.specs.List.Sorted.{IsBinarySearchResult}
use Rattle.std.specs.Result.{is_err}
use Rattle.std.specs.Ordering.{nat_cmp}
use Rattle.std.proofs.lemmas.Bool.{eqb-true, ltb-true, ltb-false}
use Rattle.std.proofs.lemmas.Bool.Decides.{nat_tests}
use Rattle.std.proofs.lemmas.List.{get_or_default}
use Rattle.std.proofs.lemmas.List.Folds.{list_any_at, list_any_none}
use Rattle.std.proofs.lemmas.List.Sorted.{searched}
use Rattle.byteorder.specs.Endian.{little_number}
use Rattle.leb_read.specs.Leb as leb
use Rattle.leb_read.specs.Leb.{number_at}
use Rattle.leb_read.specs.declared.fault.Leb.{Leb}
use Rattle.leb_read.specs.declared.fault.Leb.TheVariants as leb_fault
use Rattle.dwarf_frames.specs.Reading.{◌>>=◌, Read, fault_of, found, read}
use Rattle.dwarf_frames.specs.Entries.{Cie, Entries, Ends, cie_at, cie_of, entries, entries_from, entry_at, entry_of, is_version, then_rest, versioned_of}
use Rattle.dwarf_frames.specs.Index.{cie_list, cie_places, is_cie, is_cie_id}
use Rattle.dwarf_frames.specs.Rules.{named_cie}
use Rattle.dwarf_frames.specs.declared.fault.FrameFault.{FrameFault}
use Rattle.dwarf_frames.specs.declared.fault.FrameFault.TheVariants.{Short, Version}

-- a number of a fixed width has one fault
number_short : (n : ℕ) (bytes : List ℕ) (at : ℕ) (e : Leb) → number_at n bytes at ≡ Err e → e ≡ leb_fault.Short
unfolding number_at
number_short n bytes at e h = by_room (nat_le (at + n) (length bytes)) h
  where
    by_room : (b : Bool) → cond b (found (little_number n (drop at bytes)) (at + n)) (Err leb_fault.Short) ≡ Err e → e ≡ leb_fault.Short
    by_room true h = cc
    by_room false h = cc

-- so does the place of an entry
break_short : (section : List ℕ) (at : ℕ) (e : FrameFault) → entry_at section at ≡ Err e → e ≡ Short
unfolding entry_at
break_short section at e h = by_length (number_at 4 section at) refl h
  where
    by_end : (b : Bool) (r : ℕ × ℕ) → cond b (Err Short) (found r.0 r.1) ≡ Err e → e ≡ Short
    by_end true r h = cc
    by_end false r h = cc

    by_length : (r : leb.Read ℕ) → number_at 4 section at ≡ r
        → (read r >>= (λ r. cond (nat_le 0xFFFFFFF0 r.0 || nat_lt (length section) (r.1 + r.0)) (Err Short) (found (take r.0 (drop r.1 section)) (r.1 + r.0)))) ≡ Err e → e ≡ Short
    by_length (Err f) is h = let s : fault_of f ≡ Short = ap fault_of (number_short 4 section at f is) in cc
    by_length (Ok r) is h = elim (nat_le 0xFFFFFFF0 r.0 || nat_lt (length section) (r.1 + r.0)) as (λ b. cond b (Err Short) (found (take r.0 (drop r.1 section)) (r.1 + r.0)) ≡ Err e → e ≡ Short) [ true ↦ λ k. cc | false ↦ λ k. cc ] h

-- what doesn't begin as a CIE is none
not_cie : (body : List ℕ) → is_cie body ≡ false → cie_of body ≡ Err Short
unfolding cie_of
not_cie body f =
    by_id (number_at 4 body 0) (λ (id : ℕ × ℕ). read (number_at 1 body id.1) >>= (λ version. if is_version version.0 then versioned_of version.0 body version.1 else Err Version)) refl f
  where
    by_id : (r : leb.Read ℕ) (rest : ℕ × ℕ → Result Cie FrameFault) → number_at 4 body 0 ≡ r → is_cie_id r ≡ false → (read r >>= (λ id. cond (id.0 == 0xFFFFFFFF) (rest id) (Err Short))) ≡ Err Short
    by_id (Err e) rest is f = ap (λ (x : Leb). Err (fault_of x)) (number_short 4 body 0 e is)
    by_id (Ok id) rest is f = rw f refl

-- whether a place is one of some places
abbrev pub is_among : ℕ → List ℕ → Bool
is_among place places = list_any (λ p. p == place) places

-- the CIE of a place, where it is one of the places of CIEs
abbrev pub cie_if : List ℕ → ℕ → Bool → Result Cie FrameFault
cie_if section place b = if b then cie_at section place else Err Short

abbrev IsNamed : ℕ → List ℕ → Entries → Type 0
IsNamed place section rest = (entry_of place rest >>= cie_of) ≡ cie_if section place (is_among place (cie_places rest))

cie_here : (section body : List ℕ) (at next : ℕ) → entry_at section at ≡ found body next → cie_of body ≡ cie_at section at
unfolding cie_at
cie_here section body at next h = sym (ap (λ (r : Read (List ℕ)). r >>= (λ entry. cie_of entry.0)) h)

-- at the place itself
named_here : (section body : List ℕ) (at next place : ℕ) (others : List ℕ) → entry_at section at ≡ found body next → (at == place) ≡ true → cie_of body ≡ cie_if section place (is_among place (cie_list at body ++ others))
named_here section body at next place others h e =
    let same : at ≡ place = eqb-true at place e in
    let here : cie_of body ≡ cie_at section place = cie_here section body at next h ∙ ap (cie_at section) same in
    elim (is_cie body) as (λ v. is_cie body ≡ v → cie_of body ≡ cie_if section place (is_among place (cond v (at ∷ []) [] ++ others))) [
      | true ↦ λ f. here ∙ ap (λ (b : Bool). cie_if section place (b || is_among place others)) (sym e)
      | false ↦ λ f. (let short = not_cie body f in
          elim (is_among place others) as (λ b. cie_of body ≡ cie_if section place b) [ true ↦ here | false ↦ short ])
    ] refl

-- at another place
among_others : (body : List ℕ) (at place : ℕ) (others : List ℕ) → (at == place) ≡ false → is_among place others ≡ is_among place (cie_list at body ++ others)
among_others body at place others e =
    elim (is_cie body) as (λ v. is_among place others ≡ is_among place (cond v (at ∷ []) [] ++ others)) [ true ↦ rw e refl | false ↦ refl ]

by_entry : (place most : ℕ) (section : List ℕ) (at : ℕ) (r : Read (List ℕ)) → entry_at section at ≡ r
    → ((next : ℕ) → IsNamed place section (entries_from most section next)) → IsNamed place section (then_rest at r (entries_from most section))
by_entry place most section at (Err e) h more = ap (λ (x : FrameFault). Err x) (break_short section at e h)
by_entry place most section at (Ok r) h more =
    let rest = entries_from most section r.1 in
    elim (at == place) as (λ v. (at == place) ≡ v → (cond v (Ok r.0) (entry_of place rest) >>= cie_of) ≡ cie_if section place (is_among place (cie_list at r.0 ++ cie_places rest))) [
      | true ↦ λ e. named_here section r.0 at r.1 place (cie_places rest) h e
      | false ↦ λ e. more r.1 ∙ ap (cie_if section place) (among_others r.0 at place (cie_places rest) e)
    ] refl

is_named : (place most : ℕ) (section : List ℕ) (at : ℕ) → IsNamed place section (entries_from most section at)
is_named place zero section at = refl
is_named place (suc most) section at =
    elim (nat_le (length section) at) as (λ b. IsNamed place section (cond b Ends (then_rest at (entry_at section at) (entries_from most section))))
    [ true ↦ refl | false ↦ by_entry place most section at (entry_at section at) refl (is_named place most section) ]

pub named_among : (place : ℕ) (section : List ℕ) → named_cie section place ≡ cie_if section place (is_among place (cie_places (entries section)))
unfolding entries named_cie
named_among place section = is_named place (length section) section 0

same : (a b : ℕ) → a ≡ b → (a == b) ≡ true
same a b e = grind (arith, nat_tests)

other : (a b : ℕ) → (a ≡ b → ⊥) → (a == b) ≡ false
other a b h = elim (a == b) as (λ v. (a == b) ≡ v → v ≡ false) [ true ↦ λ e. absurd (h (eqb-true a b e)) | false ↦ λ e. refl ] refl

-- a binary search among places in order
among_searched : (place : ℕ) (places : List ℕ) (r : Result ℕ ℕ) → IsBinarySearchResult (λ y. nat_cmp y place) places r → IsNonDecreasing places → is_among place places ≡ (if is_err r then false else true)
among_searched place places (Ok i) s o =
    let at = searched places place (Ok i) s (λ i j p q. o i j 0 p q) in
    list_any_at (λ p. p == place) places i 0 at.0 (same (get_or places i 0) place at.1)
among_searched place places (Err i) s o =
    let at = searched places place (Err i) s (λ i j p q. o i j 0 p q) in
    list_any_none (λ p. p == place) places
    (λ k d within. other (get_or places k d) place (λ e.
    let zero_same : get_or places k d ≡ get_or places k 0 = get_or_default places k d 0 within in
    elim (nat_lt k i) as (λ v. nat_lt k i ≡ v → ⊥) [
      | true ↦ λ w. (let less = at.1 k (ltb-true k i w) in absurd (omega arith))
      | false ↦ λ w. (let more = at.2 k (ltb-false k i w) within in absurd (omega arith))
    ] refl))

-- the CIE of a place by the places of an index
pub named_by : (place : ℕ) (lent kept shown table cies : List ℕ) (r : Result ℕ ℕ) → lent ≡ kept → kept ≡ shown → cies ≡ cie_places (entries kept) → IsNonDecreasing cies
    → table ≡ cies → IsBinarySearchResult (λ y. nat_cmp y place) table r → cie_if lent place (if is_err r then false else true) ≡ named_cie shown place
named_by place lent kept shown table cies r l k c o t s =
    ap (λ (bytes : List ℕ). cie_if bytes place (if is_err r then false else true)) l
    ∙ ap (cie_if kept place) (sym (among_searched place cies r (subst (λ (places : List ℕ). IsBinarySearchResult (λ y. nat_cmp y place) places r) t s) o))
    ∙ ap (λ (places : List ℕ). cie_if kept place (is_among place places)) c
    ∙ sym (named_among place kept)
    ∙ ap (λ (bytes : List ℕ). named_cie bytes place) k
