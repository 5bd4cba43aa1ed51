-- Where harts wait for returns, and the words that are planted for it.
use Rattle.std.proofs.Common.{◌≡◌, ℕ, zero, suc, Bool, true, false, cond, List, [], ◌∷◌, length, refl, sym, ap, ◌∙◌, subst, not, inl, inr}
use Rattle.std.specs.Prelude.{Option, Some, None, IsSome, is_some, ◌⊎◌, ◌==◌, ◌||◌, ◌&&◌, map, slice_get, slice_set}
use Rattle.std.specs.List.{list_any}
use Rattle.std.proofs.lemmas.Bool.Decides.{nat_tests}
use Rattle.std.proofs.Common.{arith}
use Rattle.elf32_read.specs.Program.{Program}
use Rattle.text_words.specs.Words.{Words, shown, unpatched}
use Rattle.hart_machine.proofs.Places.{same_some, set_known}
use Rattle.break_table.specs.Table.{is_wait, stands}
use Rattle.engine_parts.specs.declared.mind.Mind.{Mind}
use Rattle.engine_parts.specs.Minds.{awaited, in_place, return_of, runs}
use Rattle.engine_parts.specs.Seen.{Engine}
use Rattle.engine_parts.specs.Facts.{AwaitText, Facts, InText, Sound, Wants, is_home, wanted, wants_of}
use Rattle.engine_parts.specs.Moves.{Repatched}
use Rattle.engine_parts.specs.Tables.{ArePlanted}
use Rattle.engine_parts.proofs.Breaking.{same_shown, same_words}
use Rattle.engine_parts.proofs.Planting.{replanted_at}
use Rattle.hart_machine.proofs.Places.{same_place}

differs : (a b : ℕ) → (a ≡ b → ⊥) → (a == b) ≡ false
differs a b n = grind (arith, nat_tests)

-- a hart's wait elsewhere says nothing of an address
abbrev Elsewhere : Option ℕ → ℕ → Type 0
Elsewhere None c = Unit {0}
Elsewhere (Some a) c = a ≡ c → ⊥

off_by : (w : Option ℕ) (c : ℕ) → Elsewhere w c → is_wait c w ≡ false
off_by None c n = refl
off_by (Some a) c n = differs a c n

waits_elsewhere : (ws : List (Option ℕ)) (h c : ℕ) (old new : Option ℕ) → slice_get ws h ≡ Some old → Elsewhere old c → Elsewhere new c → list_any (is_wait c) ws ≡ list_any (is_wait c) (slice_set ws h new)
waits_elsewhere [] h c old new at m n = cc
waits_elsewhere (w ∷ ws) zero c old new at m n =
    ap (λ b. b || list_any (is_wait c) ws) (ap (is_wait c) (same_some w old at) ∙ (off_by old c m ∙ sym (off_by new c n)))
waits_elsewhere (w ∷ ws) (suc h) c old new at m n = ap (λ b. is_wait c w || b) (waits_elsewhere ws h c old new at m n)

set_by : (a : ℕ) (new : Option ℕ) (rest old is : Bool) → is_wait a new ≡ is → (is_wait a new || rest) ≡ true → ((old || rest) ≡ true) ⊎ (is_wait a new ≡ true)
set_by a new true true is same e = inl refl
set_by a new true false is same e = inl refl
set_by a new false old true same e = inr same
set_by a new false old false same e = let clash : (false || false) ≡ true = ap (λ b. b || false) (sym same) ∙ e in cc

rest_by : (ws : List (Option ℕ)) (h a : ℕ) (new : Option ℕ) (b : Bool) → (b || list_any (is_wait a) (slice_set ws h new)) ≡ true
    → (list_any (is_wait a) (slice_set ws h new) ≡ true → (list_any (is_wait a) ws ≡ true) ⊎ (is_wait a new ≡ true))
    → ((b || list_any (is_wait a) ws) ≡ true) ⊎ (is_wait a new ≡ true)
rest_by ws h a new true e ih = inl refl
rest_by ws h a new false e ih = ih e

-- a wait of the list after one was set
any_set : (ws : List (Option ℕ)) (h a : ℕ) (new : Option ℕ) → list_any (is_wait a) (slice_set ws h new) ≡ true → (list_any (is_wait a) ws ≡ true) ⊎ (is_wait a new ≡ true)
any_set [] h a new e = inl e
any_set (w ∷ ws) zero a new e = set_by a new (list_any (is_wait a) ws) (is_wait a w) (is_wait a new) refl e
any_set (w ∷ ws) (suc h) a new e = rest_by ws h a new (is_wait a w) e (any_set ws h a new)

-- one word is planted as it is wanted after a hart's wait began or ended there
pub rewaited_words : (v : Wants) (h a : ℕ) (old new : Option ℕ) (t t' : Words) → ArePlanted t v → slice_get v.waits h ≡ Some old → ((c : ℕ) → (a ≡ c → ⊥) → Elsewhere old c) → ((c : ℕ) → (a ≡ c → ⊥) → Elsewhere new c)
    → ((b : ℕ) → is_wait b new ≡ true → IsSome (shown t b)) → Repatched t t' a (wanted (record v { waits = slice_set v.waits h new }) a) → ArePlanted t' (record v { waits = slice_set v.waits h new })
rewaited_words v h a old new t t' f at m n to w =
    record {
      patches = λ b. replanted_at v (record v { waits = slice_set v.waits h new }) t t' a f.patches w
          (λ c apart. ap (λ u. (stands c v.entries || u) && not (is_home v.hold c)) (waits_elsewhere v.waits h c old new at (m c apart) (n c apart))) b (same_place a b);
      words = same_words t t' v.entries w.words f.words;
      awaits = λ b e. same_shown t t' b w.words (elim (any_set v.waits h b new e) [ inl had ↦ f.awaits b had | inr now ↦ to b now ]);
    }

length-map-of : {A B : Type 0} (f : A → B) (xs : List A) → length (map f xs) ≡ length xs
length-map-of f [] = refl
length-map-of f (x ∷ xs) = ap suc (length-map-of f xs)

-- ---- where harts wait is text

some_by : (p : Program) (a ret : ℕ) (b : Bool) → is_some (shown (unpatched p) ret) ≡ b → is_wait a (cond b (Some ret) None) ≡ true → InText p a
some_by p a ret true is e = let same : ret ≡ a = grind (arith, nat_tests) in subst (InText p) same is
some_by p a ret false is e = cc

place_by : (p : Program) (a : ℕ) (o : Option ℕ) → is_wait a (in_place p o) ≡ true → InText p a
place_by p a None e = cc
place_by p a (Some ret) e = some_by p a ret (is_some (shown (unpatched p) ret)) refl e

wait_by : (p : Program) (a : ℕ) (x : Mind) (b : Bool) → is_wait a (cond b (in_place p (return_of x.course.plan)) None) ≡ true → InText p a
wait_by p a x true e = place_by p a (return_of x.course.plan) e
wait_by p a x false e = cc

any_by : (p : Program) (a : ℕ) (x : Mind) (xs : List Mind) (b : Bool) → is_wait a (awaited p x) ≡ b → (b || list_any (is_wait a) (map (awaited p) xs)) ≡ true → (list_any (is_wait a) (map (awaited p) xs) ≡ true → InText p a) → InText p a
any_by p a x xs true is e ih = wait_by p a x (runs x) is
any_by p a x xs false is e ih = ih e

pub await_text : (p : Program) (xs : List Mind) → AwaitText p (map (awaited p) xs)
await_text p [] a e = cc
await_text p (x ∷ xs) a e = any_by p a x xs (is_wait a (awaited p x)) refl e (await_text p xs a)

-- the harts wait where their plans have them wait
pub rewaited : (r : Engine) (t : Words) → Sound r → t.words ≡ r.machine.text.words
    → (let ws = map (awaited r.opening.image) r.minds in ArePlanted t (record (wants_of r) { waits = ws })
    → Facts (record r { machine = record r.machine { text = t }; waits = ws }))
rewaited r t f same p =
    record {
      sound = record {
        leaves = f.leaves;
        settings = f.settings;
        count = f.count;
        selected = f.selected;
        harts = f.harts;
        slots = f.slots;
        planted = record { words = same ∙ f.planted.words; patches = p.patches };
        texts = f.texts;
        places = f.places;
        many = length-map-of (awaited r.opening.image) r.minds ∙ f.count;
        awaits = await_text r.opening.image r.minds;
        sources = f.sources;
        retired = f.retired;
        copied = f.copied;
      };
      waits = refl;
    }

-- ---- what is kept and where harts wait

set-map : {A B : Type 0} (f : A → B) (xs : List A) (h : ℕ) (x : A) → map f (slice_set xs h x) ≡ slice_set (map f xs) h (f x)
set-map f [] h x = refl
set-map f (y ∷ ys) zero x = refl
set-map f (y ∷ ys) (suc h) x = ap (λ t. f y ∷ t) (set-map f ys h x)

map-get : {A B : Type 0} (f : A → B) (xs : List A) (h : ℕ) (x : A) → slice_get xs h ≡ Some x → slice_get (map f xs) h ≡ Some (f x)
map-get f [] h x at = cc
map-get f (y ∷ ys) zero x at = ap (λ z. Some (f z)) (same_some y x at)
map-get f (y ∷ ys) (suc h) x at = map-get f ys h x at

-- where a hart waits, as the table has it
pub wait_at : (r : Engine) (h : ℕ) (x : Mind) → Facts r → slice_get r.minds h ≡ Some x → slice_get r.waits h ≡ Some (awaited r.opening.image x)
wait_at r h x f at = ap (λ ws. slice_get ws h) f.waits ∙ map-get (awaited r.opening.image) r.minds h x at

-- one hart's wait follows what is kept of it
pub waits_set : (r : Engine) (h : ℕ) (z : Mind) → Facts r → slice_set r.waits h (awaited r.opening.image z) ≡ map (awaited r.opening.image) (slice_set r.minds h z)
waits_set r h z f = ap (λ ws. slice_set ws h (awaited r.opening.image z)) f.waits ∙ sym (set-map (awaited r.opening.image) r.minds h z)

-- and stays where it waits as before
pub waits_same : (r : Engine) (h : ℕ) (x z : Mind) → Facts r → slice_get r.minds h ≡ Some x → awaited r.opening.image z ≡ awaited r.opening.image x → r.waits ≡ map (awaited r.opening.image) (slice_set r.minds h z)
waits_same r h x z f at same =
    let p = r.opening.image in
    f.waits ∙ (sym (set_known (map (awaited p) r.minds) h (awaited p x) (map-get (awaited p) r.minds h x at)) ∙ (ap (slice_set (map (awaited p) r.minds) h) (sym same) ∙ sym (set-map (awaited p) r.minds h z)))
