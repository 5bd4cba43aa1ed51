-- Where readings of abbreviations end, and that more of them than bytes say nothing new.
use Rattle.debug_info.proofs.Words.{◌≡◌, ◌<◌, ◌≤◌, ◌+◌, ◌-◌, ℕ, zero, suc, Bool, true, false, List, ◌∷◌, length, drop, length-drop, take, Option, None, Some, Result, Ok, Err, refl, arith, ap, subst, IfOk, IfSome, ◌==◌, ◌&&◌, nat_le}
use Rattle.debug_info.proofs.Words.{nat_lt, if◌then◌else◌, nat_tests, read_map, IsBehind, leb_at, leb_length, number_at, uleb_at, ◌>>=◌, Read, found, read, abbreviation_of, declaration_at, end_or, specification_at}
use Rattle.debug_info.proofs.Words.{specifications_end, where_code, value_behind, values_from, value_at, Declaration, Specification, InfoFault, Value}
use Rattle.leb_read.specs.Leb as leb
use Rattle.leb_read.specs.declared.fault.Leb.TheVariants as leb_fault

-- a reading ends behind its place
abbrev pub Ends : {A : Type 0} → List ℕ → ℕ → Read A → Type 0
Ends bytes at r = IfOk r (λ x. IsBehind bytes at x.1)

pub later : {A : Type 0} (bytes : List ℕ) (at mid : ℕ) (r : Read A) → at < mid → Ends bytes mid r → Ends bytes at r
later bytes at mid (Ok x) h e = record { behind = (let b = e.behind in omega arith); within = e.within }
later bytes at mid (Err e) h k = tt

pub bound : {A B : Type 0} (P : A → Type 0) (Q : B → Type 0) (r : Result A InfoFault) (f : A → Result B InfoFault) → IfOk r P → ((x : A) → P x → IfOk (f x) Q) → IfOk (r >>= f) Q
bound P Q (Ok x) f h k = k x h
bound P Q (Err e) f h k = tt

pub either : {A : Type 0} (P : A → Type 0) (b : Bool) (x y : Result A InfoFault) → IfOk x P → IfOk y P → IfOk (if b then x else y) P
either P true x y h k = h
either P false x y h k = k

leb_ends : (bytes : List ℕ) (at n : ℕ) (short wide : Bool) → 0 < n → nat_lt (length (drop at bytes)) n ≡ short
    → Ends bytes at (read (read_map leb.spelled (if short then Err leb_fault.Short else (if wide then Err leb_fault.Wide else found (take n (drop at bytes)) (at + n)))))
leb_ends bytes at n true wide some e = tt
leb_ends bytes at n false true some e = tt
leb_ends bytes at n false false some e =
    let size : length (drop at bytes) ≡ length bytes - at = simp length-drop refl in
    let within : n ≤ length (drop at bytes) = grind (arith, nat_tests) in
    record { behind = omega arith; within = omega arith }

pub uleb_ends : (bytes : List ℕ) (at : ℕ) → Ends bytes at (read (uleb_at bytes at))
unfolding uleb_at leb_at leb_length
uleb_ends bytes at = leb_ends bytes at (leb_length (drop at bytes)) _ _ (omega arith) refl

number_by : (bytes : List ℕ) (at n x : ℕ) (b : Bool) → 0 < n → nat_le (at + n) (length bytes) ≡ b → Ends bytes at (read (if b then found x (at + n) else Err leb_fault.Short))
number_by bytes at n x true some e = let within : at + n ≤ length bytes = grind (arith, nat_tests) in record { behind = omega arith; within = within }
number_by bytes at n x false some e = tt

pub number_ends : (n : ℕ) (bytes : List ℕ) (at : ℕ) → 0 < n → Ends bytes at (read (number_at n bytes at))
unfolding number_at
number_ends n bytes at some = number_by bytes at n _ _ some refl

pub specification_ends : (abbrevs : List ℕ) (at : ℕ) → Ends abbrevs at (specification_at abbrevs at)
unfolding specification_at
specification_ends abbrevs at =
    bound (λ x. IsBehind abbrevs at x.1) (λ x. IsBehind abbrevs at x.1) (read (uleb_at abbrevs at)) _ (uleb_ends abbrevs at) (λ name h.
    bound (λ x. IsBehind abbrevs name.1 x.1) (λ x. IsBehind abbrevs at x.1) (read (uleb_at abbrevs name.1)) _ (uleb_ends abbrevs name.1) (λ form k.
    (let all : IsBehind abbrevs at form.1 = record { behind = (let a = h.behind in let b = k.behind in omega arith); within = k.within } in
    either (λ x. IsBehind abbrevs at x.1) ((name.0 == 0) && (form.0 == 0)) _ _ all all)))

pub specification_behind : (abbrevs : List ℕ) (at next : ℕ) (o : Option Specification) → specification_at abbrevs at ≡ found o next → IsBehind abbrevs at next
specification_behind abbrevs at next o e = subst (λ r. Ends abbrevs at r) e (specification_ends abbrevs at)

-- where all specifications end
further : (bytes : List ℕ) (at mid : ℕ) (r : Result ℕ InfoFault) → at < mid → IfOk r (λ end. IsBehind bytes mid end) → IfOk r (λ end. IsBehind bytes at end)
further bytes at mid (Ok end) h e = record { behind = (let b = e.behind in omega arith); within = e.within }
further bytes at mid (Err e) h k = tt

all_end_by : (abbrevs : List ℕ) (at m : ℕ) (x : Option Specification × ℕ) → IsBehind abbrevs at x.1 → ((next : ℕ) → IfOk (specifications_end m abbrevs next) (λ end. IsBehind abbrevs next end))
    → IfOk (end_or (specifications_end m abbrevs) x) (λ end. IsBehind abbrevs at end)
all_end_by abbrevs at m (None, next) h k = h
all_end_by abbrevs at m (Some s, next) h k = further abbrevs at next (specifications_end m abbrevs next) h.behind (k next)

pub all_end : (m : ℕ) (abbrevs : List ℕ) (at : ℕ) → IfOk (specifications_end m abbrevs at) (λ end. IsBehind abbrevs at end)
all_end zero abbrevs at = tt
all_end (suc m) abbrevs at =
    bound (λ x. IsBehind abbrevs at x.1) (λ end. IsBehind abbrevs at end) (specification_at abbrevs at) (end_or (specifications_end m abbrevs)) (specification_ends abbrevs at)
    (λ x h. all_end_by abbrevs at m x h (λ next. all_end m abbrevs next))

-- a declaration ends behind its place, and its specifications begin within the bytes
pub record Declares (abbrevs : List ℕ) (at : ℕ) (x : Option (ℕ × Declaration) × ℕ) : Type 0 where
  pub behind : IsBehind abbrevs at x.1
  pub within : IfSome x.0 (λ d. d.1.attributes.at ≤ length abbrevs)

pub declaration_ends : (abbrevs : List ℕ) (at : ℕ) → IfOk (declaration_at abbrevs at) (Declares abbrevs at)
unfolding declaration_at
declaration_ends abbrevs at =
    bound (λ x. IsBehind abbrevs at x.1) (Declares abbrevs at) (read (uleb_at abbrevs at)) _ (uleb_ends abbrevs at) (λ code h.
    either (Declares abbrevs at) (code.0 == 0) _ _ (record { behind = h; within = tt }) (
    bound (λ x. IsBehind abbrevs code.1 x.1) (Declares abbrevs at) (read (uleb_at abbrevs code.1)) _ (uleb_ends abbrevs code.1) (λ tag k.
    bound (λ x. IsBehind abbrevs tag.1 x.1) (Declares abbrevs at) (read (number_at 1 abbrevs tag.1)) _ (number_ends 1 abbrevs tag.1 (omega arith)) (λ children l.
    bound (λ end. IsBehind abbrevs children.1 end) (Declares abbrevs at) (specifications_end (length abbrevs + 1) abbrevs children.1) _ (all_end (length abbrevs + 1) abbrevs children.1) (λ end m.
    record {
      behind = record { behind = (let a = h.behind in let b = k.behind in let c = l.behind in let d = m.behind in omega arith); within = m.within };
      within = l.within;
    })))))

pub abbreviation_by : (abbrevs : List ℕ) (at code : ℕ) (r : Read (Option (ℕ × Declaration))) (rest : ℕ → Result Declaration InfoFault) → IfOk r (Declares abbrevs at) → ((next : ℕ) → IfOk (rest next) (λ d. d.attributes.at ≤ length abbrevs))
    → IfOk (r >>= where_code code rest) (λ d. d.attributes.at ≤ length abbrevs)
abbreviation_by abbrevs at code (Err e) rest h k = tt
abbreviation_by abbrevs at code (Ok (None, next)) rest h k = tt
abbreviation_by abbrevs at code (Ok (Some (other, d), next)) rest h k = either (λ d. d.attributes.at ≤ length abbrevs) (other == code) (Ok d) (rest next) h.within (k next)

pub abbreviation_within : (m : ℕ) (abbrevs : List ℕ) (code at : ℕ) → IfOk (abbreviation_of m abbrevs code at) (λ d. d.attributes.at ≤ length abbrevs)
abbreviation_within zero abbrevs code at = tt
abbreviation_within (suc m) abbrevs code at =
    abbreviation_by abbrevs at code (declaration_at abbrevs at) (abbreviation_of m abbrevs code) (declaration_ends abbrevs at) (λ next. abbreviation_within m abbrevs code next)

-- more turns than bytes
ends_by : (abbrevs : List ℕ) (at m n : ℕ) → ((next : ℕ) → at < next → next ≤ length abbrevs → specifications_end m abbrevs next ≡ specifications_end n abbrevs next) → (r : Read (Option Specification)) → Ends abbrevs at r
    → (r >>= end_or (specifications_end m abbrevs)) ≡ (r >>= end_or (specifications_end n abbrevs))
ends_by abbrevs at m n same (Err e) h = refl
ends_by abbrevs at m n same (Ok (None, next)) h = refl
ends_by abbrevs at m n same (Ok (Some s, next)) h = same next h.behind h.within

pub ends_same : (m n : ℕ) (abbrevs : List ℕ) (at : ℕ) → at ≤ length abbrevs → length abbrevs < at + m → length abbrevs < at + n → specifications_end m abbrevs at ≡ specifications_end n abbrevs at
ends_same zero n abbrevs at h a b = absurd (omega arith)
ends_same (suc m) zero abbrevs at h a b = absurd (omega arith)
ends_same (suc m) (suc n) abbrevs at h a b =
    ends_by abbrevs at m n (λ next behind within. ends_same m n abbrevs next within (omega arith) (omega arith)) (specification_at abbrevs at) (specification_ends abbrevs at)

value_by : (f g : ℕ → Read (List (ℕ × Value))) (name : ℕ) → ((at : ℕ) → f at ≡ g at) → (o : Read Value)
    → (o >>= (λ v. f v.1 >>= (λ others. found ((name, v.0) ∷ others.0) others.1))) ≡ (o >>= (λ v. g v.1 >>= (λ others. found ((name, v.0) ∷ others.0) others.1)))
value_by f g name same (Err e) = refl
value_by f g name same (Ok v) = ap (λ (r : Read (List (ℕ × Value))). r >>= (λ others. found ((name, v.0) ∷ others.0) others.1)) (same v.1)

values_by : (abbrevs strs info : List ℕ) (at from m n : ℕ)
    → ((next place : ℕ) → at < next → next ≤ length abbrevs → values_from m abbrevs strs info next place ≡ values_from n abbrevs strs info next place)
    → (r : Read (Option Specification)) → Ends abbrevs at r
    → (r >>= value_behind strs info (values_from m abbrevs strs info) from) ≡ (r >>= value_behind strs info (values_from n abbrevs strs info) from)
values_by abbrevs strs info at from m n same (Err e) h = refl
values_by abbrevs strs info at from m n same (Ok (None, next)) h = refl
values_by abbrevs strs info at from m n same (Ok (Some s, next)) h =
    value_by (values_from m abbrevs strs info next) (values_from n abbrevs strs info next) s.name (λ place. same next place h.behind h.within) (value_at s.form strs info from)

pub values_same : (m n : ℕ) (abbrevs strs info : List ℕ) (at from : ℕ) → at ≤ length abbrevs → length abbrevs < at + m → length abbrevs < at + n → values_from m abbrevs strs info at from ≡ values_from n abbrevs strs info at from
values_same zero n abbrevs strs info at from h a b = absurd (omega arith)
values_same (suc m) zero abbrevs strs info at from h a b = absurd (omega arith)
values_same (suc m) (suc n) abbrevs strs info at from h a b =
    values_by abbrevs strs info at from m n (λ next place behind within. values_same m n abbrevs strs info next place within (omega arith) (omega arith)) (specification_at abbrevs at) (specification_ends abbrevs at)
