-- A journal after several instructions of one hart.
use Rattle.std.proofs.Common.{◌≡◌, ℕ, zero, suc, ◌+◌, ◌<◌, List, [], ◌∷◌, ◌++◌, refl, sym, ap, ◌∙◌, arith, append_assoc}
use Rattle.std.specs.Prelude.{Some, None}
use Rattle.std.proofs.lemmas.Bool.{eq-eqb}
use Rattle.dbg_model.specs.declared.entry.Entry.{Entry}
use Rattle.dbg_model.specs.declared.entry.Entry.TheVariants.{Ran}
use Rattle.dbg_model.specs.Journals.{lengthened, lengthened_by, ran_count}
use Rattle.dbg_model.proofs.Adding.{lengthened_known}

own_count : (h m : ℕ) → ran_count (Ran h m) h ≡ Some m
own_count h m = rw (eq-eqb h h refl) refl

-- a last entry of the hart is lengthened
more : (j front : List Entry) (h m k : ℕ) → m + 1 ≡ k → j ≡ front ++ Ran h m ∷ [] → lengthened j h ≡ front ++ Ran h k ∷ []
more j front h m k sum is = lengthened_known j front (Ran h m) h (Some m) is (own_count h m) ∙ ap (λ i. front ++ Ran h i ∷ []) sum

again : (n : ℕ) (j front : List Entry) (e : Entry) (h k : ℕ) → j ≡ front ++ e ∷ [] → ran_count e h ≡ Some k → lengthened_by (suc n) j h ≡ front ++ Ran h (k + suc n) ∷ []
again zero j front e h k is own = lengthened_known j front e h (Some k) is own
again (suc n) j front e h k is own = more (lengthened_by (suc n) j h) front h (k + suc n) (k + suc (suc n)) (omega arith) (again n j front e h k is own)

anew : (n : ℕ) (j front : List Entry) (e : Entry) (h : ℕ) → j ≡ front ++ e ∷ [] → ran_count e h ≡ None → lengthened_by (suc n) j h ≡ (front ++ e ∷ []) ++ Ran h (suc n) ∷ []
anew zero j front e h is other = lengthened_known j front e h None is other ∙ sym (append_assoc front (e ∷ []) (Ran h 1 ∷ []))
anew (suc n) j front e h is other = more (lengthened_by (suc n) j h) (front ++ e ∷ []) h (suc n) (suc (suc n)) (omega arith) (anew n j front e h is other)

begins : (n : ℕ) (j : List Entry) (h : ℕ) → j ≡ [] → lengthened_by (suc n) j h ≡ Ran h (suc n) ∷ []
begins zero j h is = ap (λ i. lengthened i h) is
begins (suc n) j h is = more (lengthened_by (suc n) j h) [] h (suc n) (suc (suc n)) (omega arith) (begins n j h is)

pub again_by : (n : ℕ) (j front : List Entry) (e : Entry) (h k : ℕ) → 0 < n → j ≡ front ++ e ∷ [] → ran_count e h ≡ Some k → lengthened_by n j h ≡ front ++ Ran h (k + n) ∷ []
again_by zero j front e h k some is own = absurd (omega arith)
again_by (suc n) j front e h k some is own = again n j front e h k is own

pub anew_by : (n : ℕ) (j front : List Entry) (e : Entry) (h : ℕ) → 0 < n → j ≡ front ++ e ∷ [] → ran_count e h ≡ None → lengthened_by n j h ≡ (front ++ e ∷ []) ++ Ran h n ∷ []
anew_by zero j front e h some is other = absurd (omega arith)
anew_by (suc n) j front e h some is other = anew n j front e h is other

pub begins_by : (n : ℕ) (j : List Entry) (h : ℕ) → 0 < n → j ≡ [] → lengthened_by n j h ≡ Ran h n ∷ []
begins_by zero j h some is = absurd (omega arith)
begins_by (suc n) j h some is = begins n j h is
