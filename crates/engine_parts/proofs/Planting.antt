-- The words of text: one is patched anew, and what is fetched where none is patched.
use Rattle.std.proofs.Common.{◌≡◌, ℕ, ◌<◌, ◌^◌, Bool, true, false, not, ◌||◌, ◌&&◌, refl, sym, ap, ◌∙◌, subst, arith, inl, inr}
use Rattle.std.specs.Prelude.{Option, Some, None, IsSome, ◌⊎◌}
use Rattle.std.specs.Ordering.{nat_cmp, eq_by_cmp}
use Rattle.std.specs.Cmp.{nat_cmp_total}
use Rattle.std.proofs.lemmas.Bool.Decides.{nat_tests}
use Rattle.std.specs.FinMap as map
use Rattle.std.specs.FinSet as set
use Rattle.std.specs.FinSet.{contains-insert, contains-remove}
use Rattle.rv_exec.specs.declared.effect.Stepped.{Stepped}
use Rattle.rv_exec.specs.declared.effect.Stepped.TheVariants as stepped
use Rattle.rv_exec.specs.Registers.{Registers}
use Rattle.rv_exec.specs.Memory.{Memory}
use Rattle.rv_decode.specs.declared.instr.Instr.{Instr}
use Rattle.rv_decode.specs.Decode.{decode}
use Rattle.elf32_read.specs.Program.{Program, text_word}
use Rattle.text_words.specs.declared.fetch.Fetch.{Fetch}
use Rattle.text_words.specs.Tables.{WordMap, AddressSet}
use Rattle.text_words.specs.Words.{Words, shown, is_planted, decoded_as, fetched_as, fetched}
use Rattle.text_words.proofs.Below.{word_below}
use Rattle.plain_machine.specs.Environment.{Answer}
use Rattle.plain_machine.specs.Plain.{plain, on_word, on_instruction}
use Rattle.hart_machine.specs.Stepping.{FetchGives, StepGives}
use Rattle.hart_machine.proofs.Places.{same_place}
use Rattle.engine_parts.specs.Facts.{Planted, InText, Wants, wanted}
use Rattle.engine_parts.specs.Moves.{Repatched}

tied : (a : ℕ) → eq_by_cmp nat_cmp a a ≡ true
tied a = grind (arith, nat_tests)

apart : (a b : ℕ) → (a ≡ b → ⊥) → eq_by_cmp nat_cmp b a ≡ false
apart a b n = grind (arith, nat_tests)

in_insert_same : (s : AddressSet) (a : ℕ) → set.contains (set.insert s a) a ≡ true
in_insert_same s a = contains-insert nat_cmp_total s a a ∙ ap (λ t. t || set.contains s a) (tied a)

in_insert_other : (s : AddressSet) (a b : ℕ) → (a ≡ b → ⊥) → set.contains (set.insert s a) b ≡ set.contains s b
in_insert_other s a b n = contains-insert nat_cmp_total s a b ∙ ap (λ t. t || set.contains s b) (apart a b n)

in_remove_same : (s : AddressSet) (a : ℕ) → set.contains (set.remove s a) a ≡ false
in_remove_same s a = contains-remove nat_cmp_total s a a ∙ ap (λ t. not t && set.contains s a) (tied a)

in_remove_other : (s : AddressSet) (a b : ℕ) → (a ≡ b → ⊥) → set.contains (set.remove s a) b ≡ set.contains s b
in_remove_other s a b n = contains-remove nat_cmp_total s a b ∙ ap (λ t. not t && set.contains s b) (apart a b n)

-- a patch that is planted, one that is lifted, and a word that stays as it is
pub patched_in : (t : Words) (a : ℕ) → Repatched t (record { words = t.words; planted = set.insert t.planted a }) a true
patched_in t a = record { words = refl; here = in_insert_same t.planted a; others = λ b n. in_insert_other t.planted a b n }

pub patched_out : (t : Words) (a : ℕ) → Repatched t (record { words = t.words; planted = set.remove t.planted a }) a false
patched_out t a = record { words = refl; here = in_remove_same t.planted a; others = λ b n. in_remove_other t.planted a b n }

pub patched_still : (t : Words) (a : ℕ) (is : Bool) → is_planted t a ≡ is → Repatched t t a is
patched_still t a is e = record { words = refl; here = e; others = λ b n. refl }

pub replanted_at : (v v' : Wants) (t t' : Words) (a : ℕ) → ((b : ℕ) → is_planted t b ≡ wanted v b) → Repatched t t' a (wanted v' a)
    → ((b : ℕ) → (a ≡ b → ⊥) → wanted v b ≡ wanted v' b) → (b : ℕ) → (a ≡ b) ⊎ (a ≡ b → ⊥) → is_planted t' b ≡ wanted v' b
replanted_at v v' t t' a p w same b (inl e) = let P : ℕ → Type 0 = λ b. is_planted t' b ≡ wanted v' b in subst P e w.here
replanted_at v v' t t' a p w same b (inr n) = w.others b n ∙ (p b ∙ same b n)

-- one word is patched as it is wanted now, and the others are wanted as before
pub replanted : (p : Program) (v v' : Wants) (t t' : Words) (a : ℕ) → Planted p t v → Repatched t t' a (wanted v' a)
    → ((b : ℕ) → (a ≡ b → ⊥) → wanted v b ≡ wanted v' b) → Planted p t' v'
replanted p v v' t t' a f w same =
    record { words = w.words ∙ f.words; patches = λ b. replanted_at v v' t t' a f.patches w same b (same_place a b) }

-- the program's word, as the machine shows it
pub shown_image : (p : Program) (t : Words) (v : Wants) (a : ℕ) → Planted p t v → a < 2 ^ 32 → shown t a ≡ text_word p a
shown_image p t v a f low = ap (λ (m : WordMap). map.get m a) f.words ∙ word_below (text_word p) (2 ^ 32) a low

pub in_text : (p : Program) (t : Words) (v : Wants) (a : ℕ) → Planted p t v → IsSome (shown t a) → InText p a
in_text p t v a f some = subst (λ (m : WordMap). IsSome (map.get m a)) f.words some

pub text_shown : (p : Program) (t : Words) (v : Wants) (a : ℕ) → Planted p t v → InText p a → IsSome (shown t a)
text_shown p t v a f some = subst (λ (m : WordMap). IsSome (map.get m a)) (sym f.words) some

decoded_gives : (s : Stepped) (i : Option Instr) (r r' : Registers) (m m' : Memory) → FetchGives s (decoded_as i) r r' m m' → StepGives s (on_instruction r m i) r r' m m'
decoded_gives s None r r' m m' g = g
decoded_gives s (Some i) r r' m m' g = g

found_gives : (s : Stepped) (w : Option ℕ) (r r' : Registers) (m m' : Memory) → FetchGives s (fetched_as w false) r r' m m' → StepGives s (on_word r m w) r r' m m'
found_gives s None r r' m m' g = g
found_gives s (Some w) r r' m m' g = decoded_gives s (decode w) r r' m m' g

-- where no patch is wanted, the image's instruction is executed
pub fetch_plain : (s : Stepped) (p : Program) (t : Words) (v : Wants) (r r' : Registers) (m m' : Memory) → Planted p t v → r.pc < 2 ^ 32 → wanted v r.pc ≡ false
    → FetchGives s (fetched t r.pc) r r' m m' → StepGives s (plain p r m) r r' m m'
unfolding plain
fetch_plain s p t v r r' m m' f low none g =
    let fetch : fetched t r.pc ≡ fetched_as (text_word p r.pc) false = ap (λ w. fetched_as w (is_planted t r.pc)) (shown_image p t v r.pc f low) ∙ ap (fetched_as (text_word p r.pc)) (f.patches r.pc ∙ none) in
    found_gives s (text_word p r.pc) r r' m m' (subst (λ (f : Fetch). FetchGives s f r r' m m') fetch g)

-- a patch is never met there
pub no_hit : (a : Answer) (r r' : Registers) (m m' : Memory) (s : Stepped) → StepGives s a r r' m m' → s ≡ stepped.Hit → ⊥
no_hit a r r' m m' s g is =
    let P : Stepped → Type 0 = λ s. StepGives s a r r' m m' in
    subst P is g
