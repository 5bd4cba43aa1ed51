-- The stages of the first memory: segments, then without the text, then with the stacks.
use Rattle.std.proofs.Common.{◌≡◌, ℕ, suc, zero, ◌+◌, ◌*◌, ◌^◌, ◌<◌, List, [], ◌∷◌, length, drop, refl, ap, sym, ◌∙◌, arith, Bool, true, false, cond, ◌||◌, Some, None, Option, length-append}
use Rattle.std.specs.Prelude.{slice_get, slice_index, find}
use Rattle.std.specs.List.{list_any}
use Rattle.std.specs.Option.{option_map}
use Rattle.std.proofs.lemmas.Option.{slice_get_within, get_or_from_slice_get}
use Rattle.std.proofs.lemmas.List.{drop_more}
use Rattle.rv_exec.specs.Memory.{Byte}
use Rattle.elf32_read.specs.Fields.{spans, entries}
use Rattle.elf32_read.specs.Program.{Program, Segment, Text, in_segment, in_words}
use Rattle.data_memory.specs.Paged.{byte, byte_at, Holds, replaced, paged}
use Rattle.data_memory.specs.Blocks.{spot}
use Rattle.data_memory.specs.Start.{segment_data, data_byte, image_byte, start_byte, start_memory}
use Rattle.data_memory.proofs.Maps.{same_below}
use Rattle.data_memory.proofs.Blocked.{first_block}

from_place : {A : Type 0} (xs : List A) (j : ℕ) (x : A) → slice_get xs j ≡ Some x → drop j xs ≡ x ∷ drop (j + 1) xs
from_place xs j x e = drop_more xs j x (slice_get_within xs j x e) ∙ ap (λ y. y ∷ drop (j + 1) xs) (get_or_from_slice_get xs j x x e)

first_found : (b : Bool) (q : ℕ) (s : Segment) (o : Option Segment) → cond b (Some (segment_data q s)) (option_map (segment_data q) o) ≡ option_map (segment_data q) (cond b (Some s) o)
first_found true q s o = refl
first_found false q s o = refl

pub segment_more : (p p' : List ℕ) (c c' : List (Option Byte)) (segments : List Segment) (s : Segment) (j n : ℕ) → slice_get segments j ≡ Some s → n ≡ s.size
    → Holds p c (data_byte (drop (j + 1) segments)) → Holds p' c' (replaced (byte_at p c) s.address n (λ q. Some (segment_data q s))) → Holds p' c' (data_byte (drop j segments))
segment_more p p' c c' segments s j n e size before now = record {
  kept = now.kept;
  each = λ q l.
      now.each q l
      ∙ ap (cond (spans s.address n q) (Some (segment_data q s))) (before.each q l)
      ∙ ap (λ k. cond (spans s.address k q) (Some (segment_data q s)) (data_byte (drop (j + 1) segments) q)) size
      ∙ first_found (in_segment q s) q s (find (in_segment q) (drop (j + 1) segments))
      ∙ ap (λ xs. data_byte xs q) (sym (from_place segments j s e));
}

hidden : (a b : Bool) (o : Option Byte) → cond a None (cond b None o) ≡ cond (a || b) None o
hidden true b o = refl
hidden false b o = refl

pub text_more : (p p' : List ℕ) (c c' : List (Option Byte)) (image : Program) (t : Text) (j n : ℕ) → slice_get image.text j ≡ Some t → n ≡ 4 * length t.words
    → Holds p c (image_byte (record image { text = drop (j + 1) image.text })) → Holds p' c' (replaced (byte_at p c) t.address n (λ q. None))
    → Holds p' c' (image_byte (record image { text = drop j image.text }))
text_more p p' c c' image t j n e size before now = record {
  kept = now.kept;
  each = λ q l.
      now.each q l
      ∙ ap (cond (spans t.address n q) None) (before.each q l)
      ∙ ap (λ k. cond (spans t.address k q) None (image_byte (record image { text = drop (j + 1) image.text }) q)) size
      ∙ hidden (in_words q t) (list_any (in_words q) (drop (j + 1) image.text)) (data_byte image.segments q)
      ∙ ap (λ xs. image_byte (record image { text = xs }) q) (sym (from_place image.text j t e));
}

pub entries_length : (at : ℕ → ℕ) (start step n : ℕ) → length (entries at start step n) ≡ n
entries_length at start step zero = refl
entries_length at start step (suc n) =
    length-append (entries at start step n) (at (start + step * n) ∷ []) ∙ ap (λ k. k + 1) (entries_length at start step n) ∙ omega arith

-- no page has a frame
pub nothing : (p : List ℕ) (c : List (Option Byte)) → length p ≡ 8388608 → ((i : ℕ) → i < 8388608 → slice_index p i ≡ 0) → length c ≡ 512 → ((i : ℕ) → byte c i ≡ None) → Holds p c (λ q. None)
nothing p c size zeros long none = record {
  kept = first_block None 8388608 p c size zeros long none;
  each = λ q l. none (spot p q);
}

pub begun : (p : List ℕ) (c : List (Option Byte)) (image : Program) (harts : ℕ) → Holds p c (start_byte image harts) → paged p c ≡ start_memory image harts
begun p c image harts h = same_below (byte_at p c) (start_byte image harts) (2 ^ 32) h.each
