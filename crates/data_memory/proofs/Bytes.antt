-- Bytes by their accesses and values.
use Rattle.std.proofs.Common.{◌≡◌, ℕ, suc, zero, ◌+◌, ◌*◌, ◌/◌, ◌%◌, ◌<◌, ◌≤◌, List, [], ◌∷◌, ◌++◌, length, refl, ap, sym, ◌∙◌, arith, Bool, true, false, ◌&&◌, replicate, take, Some, None, Option, length-set, cond}
use Rattle.std.proofs.lemmas.List.{take_all, length-replicate}
use Rattle.std.specs.Prelude.{slice_index, slice_index_or, slice_set}
use Rattle.std.specs.Option.{option_map}
use Rattle.rv_exec.specs.Memory.{Byte, is_writable, with_byte}
use Rattle.data_memory.specs.declared.access.Access.{Access}
use Rattle.data_memory.specs.declared.access.Access.TheVariants.{Absent, ReadOnly, Writable}
use Rattle.data_memory.specs.Paged.{byte, byte_of, bytes_of, number_of, with_values, spelled, are_writable, with_number_at, all_are, may_load, may_store, GrowsByFrame}

pub length-bytes_of : (xs : List Access) (vs : List ℕ) → length xs ≡ length vs → length (bytes_of xs vs) ≡ length vs
unfolding bytes_of
length-bytes_of [] [] e = refl
length-bytes_of [] (v ∷ vs) e = absurd (omega arith)
length-bytes_of (a ∷ xs) [] e = absurd (omega arith)
length-bytes_of (a ∷ xs) (v ∷ vs) e = ap suc (length-bytes_of xs vs (omega arith))

pub byte_is : (xs : List Access) (vs : List ℕ) (i : ℕ) → length xs ≡ length vs → byte (bytes_of xs vs) i ≡ byte_of (slice_index_or xs i Absent) (slice_index vs i)
unfolding bytes_of
byte_is [] [] i e = refl
byte_is [] (v ∷ vs) i e = absurd (omega arith)
byte_is (a ∷ xs) [] i e = absurd (omega arith)
byte_is (a ∷ xs) (v ∷ vs) zero e = refl
byte_is (a ∷ xs) (v ∷ vs) (suc i) e = byte_is xs vs i (omega arith)

pub bytes_set : (xs : List Access) (vs : List ℕ) (i : ℕ) (a : Access) (v : ℕ) → length xs ≡ length vs
    → bytes_of (slice_set xs i a) (slice_set vs i v) ≡ slice_set (bytes_of xs vs) i (byte_of a v)
unfolding bytes_of
bytes_set [] [] i a v e = refl
bytes_set [] (w ∷ vs) i a v e = absurd (omega arith)
bytes_set (x ∷ xs) [] i a v e = absurd (omega arith)
bytes_set (x ∷ xs) (w ∷ vs) zero a v e = refl
bytes_set (x ∷ xs) (w ∷ vs) (suc i) a v e = ap (λ ys. byte_of x w ∷ ys) (bytes_set xs vs i a v (omega arith))

pub value_set : (xs : List Access) (vs : List ℕ) (i : ℕ) (v : ℕ) → length xs ≡ length vs
    → bytes_of xs (slice_set vs i v) ≡ slice_set (bytes_of xs vs) i (byte_of (slice_index_or xs i Absent) v)
unfolding bytes_of
value_set [] [] i v e = refl
value_set [] (w ∷ vs) i v e = absurd (omega arith)
value_set (x ∷ xs) [] i v e = absurd (omega arith)
value_set (x ∷ xs) (w ∷ vs) zero v e = refl
value_set (x ∷ xs) (w ∷ vs) (suc i) v e = ap (λ ys. byte_of x w ∷ ys) (value_set xs vs i v (omega arith))

pub bytes_append : (xs ys : List Access) (vs ws : List ℕ) → length xs ≡ length vs → bytes_of (xs ++ ys) (vs ++ ws) ≡ bytes_of xs vs ++ bytes_of ys ws
unfolding bytes_of
bytes_append [] ys [] ws e = refl
bytes_append [] ys (v ∷ vs) ws e = absurd (omega arith)
bytes_append (x ∷ xs) ys [] ws e = absurd (omega arith)
bytes_append (x ∷ xs) ys (v ∷ vs) ws e = ap (λ zs. byte_of x v ∷ zs) (bytes_append xs ys vs ws (omega arith))

pub absent_bytes : (n : ℕ) (vs : List ℕ) (j : ℕ) → byte (bytes_of (replicate n Absent) vs) j ≡ None
unfolding bytes_of
absent_bytes zero vs j = refl
absent_bytes (suc n) [] j = refl
absent_bytes (suc n) (v ∷ vs) zero = refl
absent_bytes (suc n) (v ∷ vs) (suc j) = absent_bytes n vs j

stores : (a : Access) (v : ℕ) → is_writable (byte_of a v) ≡ may_store a
stores Absent v = refl
stores ReadOnly v = refl
stores Writable v = refl

pub writable_is : (xs : List Access) (vs : List ℕ) (i n : ℕ) → length xs ≡ length vs → are_writable (bytes_of xs vs) i n ≡ all_are may_store xs i n
writable_is xs vs i zero e = refl
writable_is xs vs i (suc n) e =
    ap (λ b. is_writable b && are_writable (bytes_of xs vs) (i + 1) n) (byte_is xs vs i e)
    ∙ ap (λ b. b && are_writable (bytes_of xs vs) (i + 1) n) (stores (slice_index_or xs i Absent) (slice_index vs i))
    ∙ ap (λ b. may_store (slice_index_or xs i Absent) && b) (writable_is xs vs (i + 1) n e)

both : (a b : Bool) → (a && b) ≡ true → (a ≡ true) × (b ≡ true)
both true b e = (refl, e)
both false b e = absurd (cc)

with_mapped : (a : Access) (v k : ℕ) → may_load a ≡ true → with_byte (byte_of a v) (Some k) ≡ Some (v + 256 * k)
with_mapped Absent v k e = absurd (cc)
with_mapped ReadOnly v k e = refl
with_mapped Writable v k e = refl

-- mapped bytes spell the number that their values are
pub spelled_is : (xs : List Access) (vs : List ℕ) (i n : ℕ) → length xs ≡ length vs → all_are may_load xs i n ≡ true → spelled (bytes_of xs vs) i n ≡ Some (number_of vs i n)
spelled_is xs vs i zero e h = refl
spelled_is xs vs i (suc n) e h =
    let is : (may_load (slice_index_or xs i Absent) ≡ true) × (all_are may_load xs (i + 1) n ≡ true) = both (may_load (slice_index_or xs i Absent)) (all_are may_load xs (i + 1) n) h in
    ap (with_byte (byte (bytes_of xs vs) i)) (spelled_is xs vs (i + 1) n e is.1)
    ∙ ap (λ b. with_byte b (Some (number_of vs (i + 1) n))) (byte_is xs vs i e)
    ∙ with_mapped (slice_index_or xs i Absent) (slice_index vs i) (number_of vs (i + 1) n) is.0

unspelled_by : (a : Access) (v : ℕ) (c : Bool) (o : Option ℕ) → (c ≡ false → o ≡ None) → (may_load a && c) ≡ false → with_byte (byte_of a v) o ≡ None
unspelled_by Absent v c o none e = refl
unspelled_by ReadOnly v c o none e = ap (with_byte (byte_of ReadOnly v)) (none e)
unspelled_by Writable v c o none e = ap (with_byte (byte_of Writable v)) (none e)

pub unspelled_is : (xs : List Access) (vs : List ℕ) (i n : ℕ) → length xs ≡ length vs → all_are may_load xs i n ≡ false → spelled (bytes_of xs vs) i n ≡ None
unspelled_is xs vs i zero e h = absurd (cc)
unspelled_is xs vs i (suc n) e h =
    ap (λ b. with_byte b (spelled (bytes_of xs vs) (i + 1) n)) (byte_is xs vs i e)
    ∙ unspelled_by (slice_index_or xs i Absent) (slice_index vs i) (all_are may_load xs (i + 1) n) (spelled (bytes_of xs vs) (i + 1) n) (unspelled_is xs vs (i + 1) n e) h

-- a byte that may be stored may be loaded
loads : (a : Access) → may_store a ≡ true → may_load a ≡ true
loads Absent e = absurd (cc)
loads ReadOnly e = refl
loads Writable e = refl

pub all_load : (xs : List Access) (i n : ℕ) → all_are may_store xs i n ≡ true → all_are may_load xs i n ≡ true
all_load xs i zero h = refl
all_load xs i (suc n) h =
    let is : (may_store (slice_index_or xs i Absent) ≡ true) × (all_are may_store xs (i + 1) n ≡ true) = both (may_store (slice_index_or xs i Absent)) (all_are may_store xs (i + 1) n) h in
    ap (λ b. b && all_are may_load xs (i + 1) n) (loads (slice_index_or xs i Absent) is.0) ∙ all_load xs (i + 1) n is.1

-- values that are put where the bytes are writable
of_writable : (a : Access) (v : ℕ) → may_store a ≡ true → byte_of a v ≡ Some (record { value = v; is_writable = true })
of_writable Absent v e = absurd (cc)
of_writable ReadOnly v e = absurd (cc)
of_writable Writable v e = refl

pub length-with_values : (vs : List ℕ) (i n v : ℕ) → length (with_values vs i n v) ≡ length vs
length-with_values vs i zero v = refl
length-with_values vs i (suc n) v = length-set (with_values vs (i + 1) n (v / 256)) i (v % 256) ∙ length-with_values vs (i + 1) n (v / 256)

pub put_is : (xs : List Access) (vs : List ℕ) (i n v : ℕ) → length xs ≡ length vs → all_are may_store xs i n ≡ true
    → bytes_of xs (with_values vs i n v) ≡ with_number_at (bytes_of xs vs) i n v
put_is xs vs i zero v e h = refl
put_is xs vs i (suc n) v e h =
    let is : (may_store (slice_index_or xs i Absent) ≡ true) × (all_are may_store xs (i + 1) n ≡ true) = both (may_store (slice_index_or xs i Absent)) (all_are may_store xs (i + 1) n) h in
    value_set xs (with_values vs (i + 1) n (v / 256)) i (v % 256) (e ∙ sym (length-with_values vs (i + 1) n (v / 256)))
    ∙ ap (λ b. slice_set (bytes_of xs (with_values vs (i + 1) n (v / 256))) i b) (of_writable (slice_index_or xs i Absent) (v % 256) is.0)
    ∙ ap (λ bs. slice_set bs i (Some (record { value = v % 256; is_writable = true }))) (put_is xs vs (i + 1) n (v / 256) e is.1)

-- a frame of absent bytes
pub seen_length : (xs : List Access) (vs : List ℕ) (s : List (Option Byte)) → bytes_of xs vs ≡ s → length xs ≡ length vs → length s ≡ length vs
seen_length xs vs s is e = sym (ap length is) ∙ length-bytes_of xs vs e

pub grown : (xs xs' : List Access) (vs vs' : List ℕ) (s : List (Option Byte)) (n k l : ℕ) → bytes_of xs vs ≡ s → length xs ≡ length vs
    → xs' ≡ take n xs ++ replicate k Absent → vs' ≡ take n vs ++ replicate l 0 → length vs ≤ n → k ≡ 512 → l ≡ 512 → GrowsByFrame s (bytes_of xs' vs')
grown xs xs' vs vs' s n k l is e xis vis le ek el = record {
  more = bytes_of (replicate k Absent) (replicate l 0);
  is =
      ap (λ ys. bytes_of ys vs') xis
      ∙ ap (λ ys. bytes_of (take n xs ++ replicate k Absent) ys) vis
      ∙ ap (λ ys. bytes_of (ys ++ replicate k Absent) (take n vs ++ replicate l 0)) (take_all n xs (omega arith))
      ∙ ap (λ ys. bytes_of (xs ++ replicate k Absent) (ys ++ replicate l 0)) (take_all n vs le)
      ∙ bytes_append xs (replicate k Absent) vs (replicate l 0) e
      ∙ ap (λ t. t ++ bytes_of (replicate k Absent) (replicate l 0)) is;
  size =
      length-bytes_of (replicate k Absent) (replicate l 0) (length-replicate k Absent ∙ ek ∙ sym (length-replicate l 0 ∙ el))
      ∙ length-replicate l 0
      ∙ el;
  absent = absent_bytes k (replicate l 0);
}

pub new_length : (xs : List Access) (vs : List ℕ) (m n : ℕ) → xs ≡ replicate m Absent → vs ≡ replicate n 0 → m ≡ n → length (bytes_of xs vs) ≡ n
new_length xs vs m n xis vis e =
    length-bytes_of xs vs (ap length xis ∙ length-replicate m Absent ∙ e ∙ sym (ap length vis ∙ length-replicate n 0)) ∙ ap length vis ∙ length-replicate n 0

pub new_absent : (xs : List Access) (vs : List ℕ) (m i : ℕ) → xs ≡ replicate m Absent → byte (bytes_of xs vs) i ≡ None
new_absent xs vs m i xis = ap (λ ys. byte (bytes_of ys vs) i) xis ∙ absent_bytes m vs i

pub put_seen : (xs : List Access) (vs vs' : List ℕ) (s : List (Option Byte)) (i n v : ℕ) → bytes_of xs vs ≡ s → length xs ≡ length vs → are_writable s i n ≡ true
    → vs' ≡ with_values vs i n v → bytes_of xs vs' ≡ with_number_at s i n v
put_seen xs vs vs' s i n v is e w v-is =
    ap (bytes_of xs) v-is
    ∙ put_is xs vs i n v e (sym (writable_is xs vs i n e) ∙ ap (λ t. are_writable t i n) is ∙ w)
    ∙ ap (λ t. with_number_at t i n v) is

pub access_default : (xs : List Access) (i : ℕ) (d : Access) → i < length xs → slice_index_or xs i d ≡ slice_index_or xs i Absent
access_default [] i d l = absurd (omega arith)
access_default (x ∷ xs) zero d l = refl
access_default (x ∷ xs) (suc i) d l = access_default xs i d (omega arith)

value_of : (a : Access) (v : ℕ) → may_load a ≡ true → option_map (λ b. b.value) (byte_of a v) ≡ Some v
value_of Absent v e = absurd (cc)
value_of ReadOnly v e = refl
value_of Writable v e = refl

no_value : (a : Access) (v : ℕ) → may_load a ≡ false → option_map (λ b. b.value) (byte_of a v) ≡ None
no_value Absent v e = refl
no_value ReadOnly v e = absurd (cc)
no_value Writable v e = absurd (cc)

module _ (xs : List Access) (vs : List ℕ) (s : List (Option Byte)) (i : ℕ) (a : Access) (is : bytes_of xs vs ≡ s) (e : length xs ≡ length vs) (at : a ≡ slice_index_or xs i Absent) where
  seen : byte s i ≡ byte_of a (slice_index vs i)
  seen = sym (ap (λ t. byte t i) is) ∙ byte_is xs vs i e ∙ ap (λ x. byte_of x (slice_index vs i)) (sym at)

  pub value_seen : may_load a ≡ true → Some (slice_index vs i) ≡ option_map (λ b. b.value) (byte s i)
  value_seen m = sym (ap (option_map (λ b. b.value)) seen ∙ value_of a (slice_index vs i) m)

  pub no_value_seen : may_load a ≡ false → None ≡ option_map (λ b. b.value) (byte s i)
  no_value_seen m = sym (ap (option_map (λ b. b.value)) seen ∙ no_value a (slice_index vs i) m)

  pub store_seen : may_store a ≡ is_writable (byte s i)
  store_seen = sym (ap is_writable seen ∙ stores a (slice_index vs i))

-- accesses and values that are written over the same places
over : (t : Bool) (a x : Access) (v y : ℕ) → byte_of (cond t a x) (cond t v y) ≡ cond t (byte_of a v) (byte_of x y)
over true a x v y = refl
over false a x v y = refl

pub block_seen : (xs xs' : List Access) (vs vs' : List ℕ) (s : List (Option Byte)) (t : Bool) (a : Access) (v i : ℕ) → bytes_of xs vs ≡ s → length xs ≡ length vs → length xs' ≡ length vs'
    → slice_index_or xs' i Absent ≡ cond t a (slice_index_or xs i Absent) → slice_index vs' i ≡ cond t v (slice_index vs i) → byte (bytes_of xs' vs') i ≡ cond t (byte_of a v) (byte s i)
block_seen xs xs' vs vs' s t a v i is e e' x y =
    byte_is xs' vs' i e'
    ∙ ap (λ z. byte_of z (slice_index vs' i)) x
    ∙ ap (byte_of (cond t a (slice_index_or xs i Absent))) y
    ∙ over t a (slice_index_or xs i Absent) v (slice_index vs i)
    ∙ ap (cond t (byte_of a v)) (sym (byte_is xs vs i e) ∙ ap (λ z. byte z i) is)
