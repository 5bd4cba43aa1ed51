-- The order of names, by so many of their bytes.
use Rattle.std.proofs.Common.{◌≡◌, ℕ, zero, suc, ◌<◌, ◌≤◌, ◌-◌, min, Bool, true, false, cond, List, [], ◌∷◌, Option, None, Some, drop, take, length, length-drop, refl, sym, ◌∙◌, ap, subst, arith}
use Rattle.std.specs.Prelude.{◌==◌, ◌&&◌, ◌||◌, if◌then◌else◌, is_some, nat_lt, unwrap_or}
use Rattle.std.specs.Option.{option_map}
use Rattle.std.specs.Ordering.{is_lt, nat_cmp, MatchOrdering}
use Rattle.std.specs.Cmp.Lexicographic.{slice_cmp}
use Rattle.std.specs.declared.cmp.Ordering.{Ordering}
use Rattle.std.specs.declared.cmp.Ordering.TheVariants.{Less, Equal, Greater}
use Rattle.std.proofs.lemmas.Cmp.{same_from_slice_cmp}
use Rattle.std.proofs.lemmas.List.{length-take, take_all}
use Rattle.std.proofs.lemmas.Bool.Decides.{nat_tests}
use Rattle.memchr.specs.Find.{IsFirstByte, is_byte}
use Rattle.elf32_read.specs.Fields.{name_at, name_from, zero_end}
use Rattle.elf32_read.proofs.Names.{name_ends}
use Rattle.elf32_read.proofs.Zeros.{AtLeast, name_in_front, none_in_front}
use Rattle.elf_symbols.specs.Names.{bytes_before, leading}
use Rattle.elf_symbols.proofs.Short.{Shorter, shorter}

by_order : (less same rest : Bool)
    → MatchOrdering (cond less Less (cond same Equal Greater)) ((less || (same && rest)) ≡ true) ((less || (same && rest)) ≡ rest) ((less || (same && rest)) ≡ false)
by_order true same rest = refl
by_order false true rest = refl
by_order false false rest = refl

by_first : (x y : ℕ) (xs ys : List ℕ) (o : Ordering) → o ≡ nat_cmp x y
    → MatchOrdering o (bytes_before (x ∷ xs) (y ∷ ys) ≡ true) (bytes_before (x ∷ xs) (y ∷ ys) ≡ bytes_before xs ys) (bytes_before (x ∷ xs) (y ∷ ys) ≡ false)
by_first x y xs ys o e =
    subst
    (λ r. MatchOrdering r (bytes_before (x ∷ xs) (y ∷ ys) ≡ true) (bytes_before (x ∷ xs) (y ∷ ys) ≡ bytes_before xs ys) (bytes_before (x ∷ xs) (y ∷ ys) ≡ false))
    (sym e) (by_order (nat_lt x y) (x == y) (bytes_before xs ys))

-- the order of bytes is that of slices
pub less_before : (xs ys : List ℕ) (o : Ordering) → o ≡ slice_cmp nat_cmp xs ys → is_lt o ≡ bytes_before xs ys
less_before = same_from_slice_cmp nat_cmp is_lt bytes_before refl (λ y ys. refl) (λ x xs. refl) by_first

leads_step : (ends : Bool) (b n : ℕ) (bs : List ℕ) (o : Option (List ℕ))
    → is_some (if ends then Some [] else option_map (λ m. b ∷ m) o) ≡ true → AtLeast (suc n) (if ends then Some [] else option_map (λ m. b ∷ m) o)
    → (is_some o ≡ true → AtLeast n o → take n (unwrap_or o []) ≡ take n bs)
    → take (suc n) (unwrap_or (if ends then Some [] else option_map (λ m. b ∷ m) o) []) ≡ b ∷ take n bs
leads_step true b n bs o some least rest = absurd (omega (arith, least))
leads_step false b n bs None some least rest = cc
leads_step false b n bs (Some m) some least rest = ap (λ (xs : List ℕ). b ∷ xs) (rest refl (omega (arith, least)))

-- bytes begin with the bytes of their name
leads : (n : ℕ) (bytes : List ℕ) → is_some (name_from bytes) ≡ true → AtLeast n (name_from bytes) → take n (unwrap_or (name_from bytes) []) ≡ take n bytes
leads zero bytes some least = refl
leads (suc n) [] some least = cc
leads (suc n) (b ∷ bs) some least = leads_step (b == 0) b n bs (name_from bs) some least (leads n bs)

whole : (n size : ℕ) (o : Option (List ℕ)) → n ≡ min size 4096 → is_some o ≡ true → Shorter size o → AtLeast n o → n ≡ 4096
whole n size None e some below least = cc
whole n size (Some name) e some below least = omega (arith, e, below, least)

-- where no zero byte was found, the name goes on
pub leading_on : (n : ℕ) (bytes : List ℕ) → n ≡ min (length bytes) 4096 → is_some (name_from bytes) ≡ true → IsFirstByte (is_byte 0) (take n bytes) None
    → take n bytes ≡ leading (unwrap_or (name_from bytes) [])
leading_on n bytes e some h =
    let least : AtLeast n (name_from bytes) = none_in_front n bytes h in
    let size : n ≡ 4096 = whole n (length bytes) (name_from bytes) e some (shorter bytes) least in
    sym (leads n bytes some least) ∙ ap (λ (k : ℕ). take k (unwrap_or (name_from bytes) [])) size

-- where one was found, the name ends
pub leading_ends : (n : ℕ) (bytes : List ℕ) (k : ℕ) → n ≡ min (length bytes) 4096 → IsFirstByte (is_byte 0) (take n bytes) (Some k)
    → take k bytes ≡ leading (unwrap_or (name_from bytes) [])
leading_ends n bytes k e h =
    let short : length (take k bytes) ≤ 4096 = omega (arith, e, h.0.high, length-take n bytes, length-take k bytes) in
    sym (ap (λ (o : Option (List ℕ)). leading (unwrap_or o [])) (name_in_front n bytes k h) ∙ take_all 4096 (take k bytes) short)

-- nothing is compared of a name past the last zero byte
pub no_name : (strings : List ℕ) (at end : ℕ) → end ≡ zero_end strings → end ≤ at → [] ≡ leading (unwrap_or (name_at strings at) [])
no_name strings at end e past = sym (none_named (name_at strings at) (name_ends strings at ∙ off at (zero_end strings) (omega arith)))
  where
    off : (a b : ℕ) → b ≤ a → nat_lt a b ≡ false
    off a b h = grind (arith, nat_tests)

    none_named : (o : Option (List ℕ)) → is_some o ≡ false → leading (unwrap_or o []) ≡ []
    none_named None h = refl
    none_named (Some m) h = cc

has_name : (strings : List ℕ) (at end : ℕ) → end ≡ zero_end strings → at < end → is_some (name_at strings at) ≡ true
has_name strings at end e lt = name_ends strings at ∙ on at (zero_end strings) (omega arith)
  where
    on : (a b : ℕ) → a < b → nat_lt a b ≡ true
    on a b h = grind (arith, nat_tests)

part : (strings : List ℕ) (at : ℕ) → take (length strings - at) (drop at strings) ≡ drop at strings
part strings at = take_all (length strings - at) (drop at strings) (omega (arith, length-drop at strings))

-- a name at a place of the strings, by what stands from there on
pub has_name_from : (strings : List ℕ) (at end : ℕ) → end ≡ zero_end strings → at < end → is_some (name_from (take (length strings - at) (drop at strings))) ≡ true
unfolding name_at
has_name_from strings at end e lt = rw (part strings at) (has_name strings at end e lt)
