-- Reading a name as far as it goes.
use Rattle.std.proofs.Common.{◌≡◌, ℕ, ◌<◌, Err, List, [], ◌∷◌, ◌++◌, length, true, false, refl, sym, ap, subst, ◌∙◌, append_assoc, arith}
use Rattle.mi_values.specs.Name.{is_name, is_name_byte, are_name_bytes}
use Rattle.mi_text.specs.declared.fault.ReadFault.{ReadFault}
use Rattle.mi_text.specs.declared.fault.ReadFault.TheVariants as failures
use Rattle.mi_values.specs.Reads.{ReadsWord, ReadsName, StopsName}
use Rattle.mi_values.proofs.One.{both, no_sign, name_bytes}

pub record Naming (bytes rest name : List ℕ) : Type 0 where
  pub so_far : bytes ≡ name ++ rest
  pub of_name : are_name_bytes name ≡ true

pub naming_starts : (bytes name : List ℕ) → name ≡ [] → Naming bytes bytes name
naming_starts bytes name e = subst (λ (n : List ℕ). Naming bytes bytes n) (sym e) (record { so_far = refl; of_name = refl })

bytes-push : (n : List ℕ) (b : ℕ) → are_name_bytes n ≡ true → is_name_byte b ≡ true → are_name_bytes (n ++ b ∷ []) ≡ true
bytes-push [] b h g = rw g refl
bytes-push (c ∷ n) b h g = let p = both (is_name_byte c) (are_name_bytes n) h in rw (p.0) (bytes-push n b p.1 g)

pub naming_turns : (bytes rest more name name' : List ℕ) (b : ℕ) → Naming bytes rest name → rest ≡ b ∷ more → is_name_byte b ≡ true → name' ≡ name ++ b ∷ [] → Naming bytes more name'
naming_turns bytes rest more name name' b n e h pushed =
    subst (λ (m : List ℕ). Naming bytes more m) (sym pushed) (record {
      so_far = n.so_far ∙ ap (λ (l : List ℕ). name ++ l) e ∙ sym (append_assoc name (b ∷ []) more);
      of_name = bytes-push name b n.of_name h;
    })

pub named_by : (n : List ℕ) → are_name_bytes n ≡ true → 0 < length n → is_name n ≡ true
named_by [] h lt = absurd (omega arith)
named_by (b ∷ bs) h lt = h

-- what is read as far as it goes is the name
munch : (a b rest r : List ℕ) → are_name_bytes a ≡ true → are_name_bytes b ≡ true → ((c : ℕ) (x : List ℕ) → rest ≡ c ∷ x → is_name_byte c ≡ false) → a ++ rest ≡ b ++ 61 ∷ r → (a ≡ b) × (rest ≡ 61 ∷ r)
munch [] [] rest r ha hb stop e = (refl, e)
munch [] (c ∷ b) rest r ha hb stop e = let p = both (is_name_byte c) (are_name_bytes b) hb in let f = stop c (b ++ 61 ∷ r) e in absurd cc
munch (c ∷ a) [] rest r ha hb stop e = let p = both (is_name_byte c) (are_name_bytes a) ha in absurd (no_sign c p.0 cc)
munch (c ∷ a) (d ∷ b) rest r ha hb stop e =
    let p = both (is_name_byte c) (are_name_bytes a) ha in
    let q = both (is_name_byte d) (are_name_bytes b) hb in
    let ih = munch a b rest r p.1 q.1 stop cc in
    let heads : c ≡ d = cc in let tails : a ≡ b = ih.0 in (cc, ih.1)

-- nothing was read, and no name goes on
pub empty_word : (bytes rest name : List ℕ) → Naming bytes rest name → length name ≡ 0 → StopsName rest → StopsName bytes
empty_word bytes rest [] n z stop b x e = stop b x (sym n.so_far ∙ e)
empty_word bytes rest (c ∷ name) n z stop b x e = absurd (omega arith)

pub no_word : (bytes : List ℕ) → StopsName bytes → (m r : List ℕ) → is_name m ≡ true → bytes ≡ m ++ 61 ∷ r → ⊥
no_word bytes stop [] r h e = cc
no_word bytes stop (c ∷ m) r h e = let p = both (is_name_byte c) (are_name_bytes m) h in let f = stop c (m ++ 61 ∷ r) e in absurd cc

-- by cases on why there is none
pub no_name_read : (bytes : List ℕ) (f : ReadFault) → ReadsWord bytes (Err f) → ReadsName bytes (Err f)
no_name_read bytes failures.NoMemory h = tt
no_name_read bytes failures.Text h = no_word bytes h

pub no_equals : (bytes rest name : List ℕ) → bytes ≡ name ++ rest → is_name name ≡ true → StopsName rest → ((r : List ℕ) → rest ≡ 61 ∷ r → ⊥) → (m r : List ℕ) → is_name m ≡ true → bytes ≡ m ++ 61 ∷ r → ⊥
no_equals bytes rest name e hn stop none m r h f = none r (munch name m rest r (name_bytes name hn) (name_bytes m h) stop (sym e ∙ f)).1
