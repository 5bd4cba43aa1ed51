-- What is kept of the specifications at each place, and the loop over them.
use Rattle.debug_info.proofs.Words.{◌≡◌, ◌<◌, ◌≤◌, ◌+◌, ◌-◌, ◌*◌, ◌++◌, ℕ, Bool, true, false, List, [], ◌∷◌, length, get_or, Option, None, Some, Ok, Err, refl, arith, sym, ◌∙◌, ap, subst, append-nil, append_assoc, length-append}
use Rattle.debug_info.proofs.Words.{inl, inr, nat_le, ◌/◌, ◌%◌, ◌==◌, ◌||◌, if◌then◌else◌, nat_tests, get_or_append_left, get_or-append_seam, eq-or-lt_of_le, behind_run, ◌>>=◌, Read, found, read, end_or}
use Rattle.debug_info.proofs.Words.{specification_at, specifications_end, attributes_by, attributes_of, or_named, value_behind, values_from, with_value, value_at, value_by, AreRuns, IsRun, behind_last, bit_of, extended, lone_run}
use Rattle.debug_info.proofs.Words.{or_flag, packed, unpacked, with_flag, with_flags, with_values, Specification, Attributes, InfoFault, Value, Flags, Run}
use Rattle.std.proofs.Math.Numerals.{add-one}
use Rattle.leb_read.specs.declared.fault.Leb.TheVariants.{Short}
use Rattle.debug_info.specs.declared.form.Value.TheVariants as value
use Rattle.debug_info.proofs.Behind.{ends_same, specification_behind, values_same}
use Rattle.debug_info.proofs.Specified.{with_more}

-- the attributes of values, one after another
all_values : (done vs : List (ℕ × Value)) → with_values (attributes_of done) vs ≡ attributes_of (done ++ vs)
all_values done [] = ap attributes_of (sym (append-nil done))
all_values done (v ∷ vs) =
    ap (λ (a : Attributes). with_values a vs) (with_more done v.0 v.1)
    ∙ all_values (done ++ v ∷ []) vs
    ∙ ap attributes_of (append_assoc done (v ∷ []) vs)

pub all_extended : (r : Read (List (ℕ × Value))) → attributes_by r ≡ extended (attributes_of []) r
all_extended (Ok (vs, next)) = ap (λ (a : Attributes). found a next) (sym (all_values [] vs))
all_extended (Err e) = refl

-- the first specification, and those that are left
first_value : (abbrevs strs info : List ℕ) (at from : ℕ)
    → values_from (length abbrevs + 1) abbrevs strs info at from ≡ (specification_at abbrevs at >>= value_behind strs info (values_from (length abbrevs) abbrevs strs info) from)
first_value abbrevs strs info at from = ap (λ (n : ℕ). values_from n abbrevs strs info at from) (add-one (length abbrevs))

first_end : (abbrevs : List ℕ) (at : ℕ) → specifications_end (length abbrevs + 1) abbrevs at ≡ (specification_at abbrevs at >>= end_or (specifications_end (length abbrevs) abbrevs))
first_end abbrevs at = ap (λ (n : ℕ). specifications_end n abbrevs at) (add-one (length abbrevs))

value_extended : (a : Attributes) (name : ℕ) (v : Value) (r : Read (List (ℕ × Value))) → extended a (r >>= (λ others. found ((name, v) ∷ others.0) others.1)) ≡ extended (with_value a name v) r
value_extended a name v (Ok (vs, next)) = refl
value_extended a name v (Err e) = refl

-- behind a specification and its value
pub one_extended : (abbrevs strs info : List ℕ) (a : Attributes) (at next from place : ℕ) (s : Specification) (v : Value) → specification_at abbrevs at ≡ found (Some s) next → value_at s.form strs info from ≡ found v place
    → extended a (values_from (length abbrevs + 1) abbrevs strs info at from) ≡ extended (with_value a s.name v) (values_from (length abbrevs + 1) abbrevs strs info next place)
one_extended abbrevs strs info a at next from place s v is read =
    let behind = specification_behind abbrevs at next (Some s) is in
    ap (extended a) (first_value abbrevs strs info at from)
    ∙ ap (λ (r : Read (Option Specification)). extended a (r >>= value_behind strs info (values_from (length abbrevs) abbrevs strs info) from)) is
    ∙ ap (λ (o : Read Value). extended a (o >>= (λ x. values_from (length abbrevs) abbrevs strs info next x.1 >>= (λ others. found ((s.name, x.0) ∷ others.0) others.1)))) read
    ∙ value_extended a s.name v (values_from (length abbrevs) abbrevs strs info next place)
    ∙ ap (extended (with_value a s.name v)) (values_same (length abbrevs) (length abbrevs + 1) abbrevs strs info next place behind.within (let b = behind.behind in omega arith) (omega arith))

-- the loop over specifications
pub at_run : (whole : Read Attributes) (abbrevs strs info : List ℕ) (a b : Attributes) (at from : ℕ) (run : Run) {flags : Flags}
    → whole ≡ extended a (values_from (length abbrevs + 1) abbrevs strs info at from) → IsRun abbrevs at run → flags ≡ unpacked run.flags → b ≡ with_flags a flags
    → whole ≡ extended b (values_from (length abbrevs + 1) abbrevs strs info run.behind from)
at_run whole abbrevs strs info a b at from run same is bits flags =
    same ∙ is.same strs info a from ∙ ap (λ (x : Attributes). extended x (values_from (length abbrevs + 1) abbrevs strs info run.behind from)) (ap (with_flags a) (sym bits) ∙ sym flags)

pub next_value : (whole : Read Attributes) (abbrevs strs info : List ℕ) (a b : Attributes) (at next from place : ℕ) (s : Specification) (v : Value) → whole ≡ extended a (values_from (length abbrevs + 1) abbrevs strs info at from)
    → specification_at abbrevs at ≡ found (Some s) next → value_at s.form strs info from ≡ found v place → b ≡ with_value a s.name v → whole ≡ extended b (values_from (length abbrevs + 1) abbrevs strs info next place)
next_value whole abbrevs strs info a b at next from place s v same is read more =
    same ∙ one_extended abbrevs strs info a at next from place s v is read ∙ ap (λ (x : Attributes). extended x (values_from (length abbrevs + 1) abbrevs strs info next place)) (sym more)

pub specification_fault : (whole : Read Attributes) (abbrevs strs info : List ℕ) (a : Attributes) (at from : ℕ) (e : InfoFault) → whole ≡ extended a (values_from (length abbrevs + 1) abbrevs strs info at from)
    → specification_at abbrevs at ≡ Err e → whole ≡ Err e
specification_fault whole abbrevs strs info a at from e same is =
    same
    ∙ ap (extended a) (first_value abbrevs strs info at from)
    ∙ ap (λ (r : Read (Option Specification)). extended a (r >>= value_behind strs info (values_from (length abbrevs) abbrevs strs info) from)) is

pub all_read : (whole : Read Attributes) (abbrevs strs info : List ℕ) (a : Attributes) (at next from : ℕ) → whole ≡ extended a (values_from (length abbrevs + 1) abbrevs strs info at from)
    → specification_at abbrevs at ≡ found None next → whole ≡ found a from
all_read whole abbrevs strs info a at next from same is =
    same
    ∙ ap (extended a) (first_value abbrevs strs info at from)
    ∙ ap (λ (r : Read (Option Specification)). extended a (r >>= value_behind strs info (values_from (length abbrevs) abbrevs strs info) from)) is

pub value_fault : (whole : Read Attributes) (abbrevs strs info : List ℕ) (a : Attributes) (at next from : ℕ) (s : Specification) (e : InfoFault) → whole ≡ extended a (values_from (length abbrevs + 1) abbrevs strs info at from)
    → specification_at abbrevs at ≡ found (Some s) next → value_at s.form strs info from ≡ Err e → whole ≡ Err e
value_fault whole abbrevs strs info a at next from s e same is read =
    same
    ∙ ap (extended a) (first_value abbrevs strs info at from)
    ∙ ap (λ (r : Read (Option Specification)). extended a (r >>= value_behind strs info (values_from (length abbrevs) abbrevs strs info) from)) is
    ∙ ap (λ (o : Read Value). extended a (o >>= (λ x. values_from (length abbrevs) abbrevs strs info next x.1 >>= (λ others. found ((s.name, x.0) ∷ others.0) others.1)))) read

-- a flag has no bytes
flag_value : (strs info : List ℕ) (at : ℕ) → value_at 0x19 strs info at ≡ found value.Opaque at
unfolding value_at value_by behind_run
flag_value strs info at =
    let test : nat_le 0 (length info - at) ≡ true = grind (arith, nat_tests) in
    ap (λ (b : Bool). read (if b then Ok (at + 0) else Err Short) >>= (λ next. found value.Opaque next)) test
    ∙ ap (λ (n : ℕ). found value.Opaque n) (let none : at + 0 ≡ at = omega arith in none)

-- flags
or_none : (o : Option Value) → or_flag o false ≡ o
or_none None = refl
or_none (Some v) = refl

no_more : (a : Attributes) → with_flags a (unpacked 0) ≡ a
no_more a = rw (or_none a.location, or_none a.name, or_none a.byte_size, or_none a.low_pc, or_none a.high_pc, or_none a.encoding, or_none a.frame_base, or_none a.type_of) refl

flagged_once : (flagged : Bool) → or_flag (Some value.Opaque) flagged ≡ or_flag None (flagged || true)
flagged_once true = refl
flagged_once false = refl

flagged_alone : (flagged : Bool) → or_flag None flagged ≡ or_flag None (flagged || false)
flagged_alone true = refl
flagged_alone false = refl

or_both : (code name : ℕ) (o : Option Value) (flagged : Bool) → or_flag (or_named code o name value.Opaque) flagged ≡ or_flag o (flagged || (name == code))
or_both code name (Some v) flagged = refl
or_both code name None flagged =
    elim (name == code) as (λ b. or_flag (if b then Some value.Opaque else None) flagged ≡ or_flag None (flagged || b)) [
      | true ↦ flagged_once flagged
      | false ↦ flagged_alone flagged
    ]

one_flag : (a : Attributes) (name : ℕ) (f : Flags) → with_flags (with_value a name value.Opaque) f ≡ with_flags a (with_flag f name)
one_flag a name f =
    let x1 = or_both 0x02 name a.location f.location in
    let x2 = or_both 0x03 name a.name f.name in
    let x3 = or_both 0x0B name a.byte_size f.byte_size in
    let x4 = or_both 0x11 name a.low_pc f.low_pc in
    let x5 = or_both 0x12 name a.high_pc f.high_pc in
    let x6 = or_both 0x3E name a.encoding f.encoding in
    let x7 = or_both 0x40 name a.frame_base f.frame_base in
    let x8 = or_both 0x49 name a.type_of f.type_of in
    cc

-- flags as bits
odd_of : (flag : Bool) (others : ℕ) → (bit_of flag others % 2 == 1) ≡ flag
odd_of true others = (let one : (2 * others + 1) % 2 ≡ 1 = omega arith in rw one refl)
odd_of false others = (let none : (2 * others) % 2 ≡ 0 = omega arith in rw none refl)

half_of : (flag : Bool) (others : ℕ) → bit_of flag others / 2 ≡ others
half_of true others = omega arith
half_of false others = omega arith

unpacked_same : (f : Flags) → unpacked (packed f) ≡ f
unpacked_same f =
    let n7 = bit_of f.frame_base (bit_of f.type_of 0) in
    let n6 = bit_of f.encoding n7 in
    let n5 = bit_of f.high_pc n6 in
    let n4 = bit_of f.low_pc n5 in
    let n3 = bit_of f.byte_size n4 in
    let n2 = bit_of f.name n3 in
    rw (half_of f.location n2, half_of f.name n3, half_of f.byte_size n4, half_of f.low_pc n5, half_of f.high_pc n6, half_of f.encoding n7, half_of f.frame_base (bit_of f.type_of 0)) (
    rw (odd_of f.location n2, odd_of f.name n3, odd_of f.byte_size n4, odd_of f.low_pc n5, odd_of f.high_pc n6, odd_of f.encoding n7, odd_of f.frame_base (bit_of f.type_of 0), odd_of f.type_of 0) refl)

-- a run without flags
lone : (abbrevs : List ℕ) (at last : ℕ) → at ≤ length abbrevs → last ≤ length abbrevs → behind_last (specification_at abbrevs last) ≡ specifications_end (length abbrevs + 1) abbrevs at → IsRun abbrevs at (lone_run at last)
lone abbrevs at last h k is = record {
  end = is;
  last = k;
  behind = omega arith;
  within = h;
  same = λ strs info a from. ap (λ (b : Attributes). extended b (values_from (length abbrevs + 1) abbrevs strs info at from)) (sym (no_more a));
}

pub run_fault : (abbrevs : List ℕ) (at : ℕ) (e : InfoFault) → at ≤ length abbrevs → specification_at abbrevs at ≡ Err e → IsRun abbrevs at (lone_run at at)
run_fault abbrevs at e h is = lone abbrevs at at h h (ap behind_last is ∙ sym (first_end abbrevs at ∙ ap (λ r. r >>= end_or (specifications_end (length abbrevs) abbrevs)) is))

pub run_end : (abbrevs : List ℕ) (at next : ℕ) → at ≤ length abbrevs → specification_at abbrevs at ≡ found None next → IsRun abbrevs at (lone_run at at)
run_end abbrevs at next h is = lone abbrevs at at h h (ap behind_last is ∙ sym (first_end abbrevs at ∙ ap (λ r. r >>= end_or (specifications_end (length abbrevs) abbrevs)) is))

end_behind : (abbrevs : List ℕ) (at next : ℕ) (s : Specification) (rest : Run) → specification_at abbrevs at ≡ found (Some s) next → IsRun abbrevs next rest
    → behind_last (specification_at abbrevs rest.last) ≡ specifications_end (length abbrevs + 1) abbrevs at
end_behind abbrevs at next s rest is run =
    let b = specification_behind abbrevs at next (Some s) is in
    run.end
    ∙ ends_same (length abbrevs + 1) (length abbrevs) abbrevs next b.within (omega arith) (let behind = b.behind in omega arith)
    ∙ sym (first_end abbrevs at ∙ ap (λ r. r >>= end_or (specifications_end (length abbrevs) abbrevs)) is)

pub run_other : (abbrevs : List ℕ) (at next : ℕ) (s : Specification) (rest : Run) → at ≤ length abbrevs → specification_at abbrevs at ≡ found (Some s) next → IsRun abbrevs next rest → IsRun abbrevs at (lone_run at rest.last)
run_other abbrevs at next s rest h is run = lone abbrevs at rest.last h run.last (end_behind abbrevs at next s rest is run)

pub run_flag : (abbrevs : List ℕ) (at next : ℕ) (s : Specification) (rest run : Run) → specification_at abbrevs at ≡ found (Some s) next → s.form ≡ 0x19 → IsRun abbrevs next rest
    → run.flags ≡ packed (with_flag (unpacked rest.flags) s.name) → run.behind ≡ rest.behind → run.last ≡ rest.last → IsRun abbrevs at run
run_flag abbrevs at next s rest run is form r flags behind end =
    let b = specification_behind abbrevs at next (Some s) is in
    let bits : with_flag (unpacked rest.flags) s.name ≡ unpacked run.flags = sym (ap unpacked flags ∙ unpacked_same (with_flag (unpacked rest.flags) s.name)) in
    record {
      end = ap (λ (n : ℕ). behind_last (specification_at abbrevs n)) end ∙ end_behind abbrevs at next s rest is r;
      last = (let x = r.last in omega arith);
      behind = (let x = b.behind in let y = r.behind in omega arith);
      within = (let y = r.within in omega arith);
      same = λ strs info a from.
          one_extended abbrevs strs info a at next from from s value.Opaque is (ap (λ (n : ℕ). value_at n strs info from) form ∙ flag_value strs info from)
          ∙ r.same strs info (with_value a s.name value.Opaque) from
          ∙ ap (λ (x : Attributes). extended x (values_from (length abbrevs + 1) abbrevs strs info rest.behind from)) (one_flag a s.name (unpacked rest.flags) ∙ ap (with_flags a) bits)
          ∙ ap (λ (n : ℕ). extended (with_flags a (unpacked run.flags)) (values_from (length abbrevs + 1) abbrevs strs info n from)) (sym behind);
    }

-- what holds of each element of a list holds with one more
pub one_more : {A : Type 0} (P : ℕ → A → Type 0) (xs more : List A) (x : A) → more ≡ xs ++ x ∷ [] → ((k : ℕ) (d : A) → k < length xs → P k (get_or xs k d)) → P (length xs) x → (k : ℕ) (d : A) → k < length more → P k (get_or more k d)
one_more {A} P xs more x push all one k d h =
    let size : length more ≡ length xs + 1 = ap length push ∙ length-append xs (x ∷ []) in
    let most : k ≤ length xs = omega arith in
    elim (eq-or-lt_of_le most) [
      | inl e ↦ (
          let here : get_or more k d ≡ x = ap (λ (ys : List A). get_or ys k d) push ∙ ap (λ (n : ℕ). get_or (xs ++ x ∷ []) n d) e ∙ get_or-append_seam xs x [] d in
          rw (here, e) one)
      | inr l ↦ (
          let here : get_or more k d ≡ get_or xs k d = ap (λ (ys : List A). get_or ys k d) push ∙ get_or_append_left xs (x ∷ []) d k l in
          rw here (all k d l))
    ]

-- a run more
pub runs_more : (abbrevs : List ℕ) (runs more : List Run) (run : Run) (at : ℕ) → length runs + at ≡ length abbrevs → more ≡ runs ++ run ∷ [] → AreRuns abbrevs runs → IsRun abbrevs at run → AreRuns abbrevs more
runs_more abbrevs runs more run at count push all one =
    one_more (λ k r. IsRun abbrevs (length abbrevs - k) r) runs more run push all
    (let place : length abbrevs - length runs ≡ at = omega arith in rw place one)

-- the run of a place
pub run_of : (abbrevs : List ℕ) (runs : List Run) (at : ℕ) (d : Run) → AreRuns abbrevs runs → at ≤ length abbrevs → length abbrevs - at < length runs → IsRun abbrevs at (get_or runs (length abbrevs - at) d)
run_of abbrevs runs at d all h k =
    let place : length abbrevs - (length abbrevs - at) ≡ at = omega arith in
    subst (λ (n : ℕ). IsRun abbrevs n (get_or runs (length abbrevs - at) d)) place (all (length abbrevs - at) d k)
