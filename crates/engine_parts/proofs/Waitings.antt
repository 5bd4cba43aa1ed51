-- A hart waits no longer, or begins to, with the word that is planted for it.
use Rattle.std.proofs.Common.{◌≡◌, ◌<◌, ◌≤◌, ℕ, ◌+◌, zero, suc, Bool, true, false, cond, List, [], ◌∷◌, length, refl, sym, ap, ◌∙◌, subst, arith, inl, inr, length-set}
use Rattle.std.specs.Prelude.{Option, Some, None, IsSome, is_some, ◌⊎◌, ◌||◌, ◌==◌, map, slice_get, slice_set}
use Rattle.std.specs.List.{list_any}
use Rattle.std.proofs.lemmas.Bool.Decides.{nat_tests}
use Rattle.elf32_read.specs.Program.{Program}
use Rattle.text_words.specs.Words.{Words, shown, unpatched}
use Rattle.hart_machine.specs.Patched.{Patched}
use Rattle.hart_machine.proofs.Places.{same_place, same_some, set_known, set_twice, get-set_same, get-set_other}
use Rattle.break_table.specs.Table.{Table, is_wait, with_wait}
use Rattle.engine_parts.specs.declared.mind.Hold.{Hold}
use Rattle.engine_parts.specs.declared.mind.Mind.{Mind}
use Rattle.engine_parts.specs.Minds.{awaited, in_place, return_of, runs}
use Rattle.engine_parts.specs.Facts.{wanted}
use Rattle.engine_parts.specs.Moves.{Repatched}
use Rattle.engine_parts.specs.Tables.{ArePlanted}
use Rattle.engine_parts.proofs.Awaiting.{rewaited_words}
use Rattle.engine_parts.proofs.Breaking.{same_shown}
use Rattle.engine_parts.proofs.Holding.{get_within}
use Rattle.engine_parts.proofs.Tabling.{retabled_twice}
use Rattle.engine_parts.specs.Changing.{Retabled, wants_by}

equals : (n : ℕ) → (n == n) ≡ true
equals n = grind (arith, nat_tests)

or_true : (b : Bool) → (b || true) ≡ true
or_true true = refl
or_true false = refl

-- an address at which a hart waits
pub any_at : (ws : List (Option ℕ)) (h a : ℕ) → slice_get ws h ≡ Some (Some a) → list_any (is_wait a) ws ≡ true
any_at [] h a at = cc
any_at (w ∷ ws) zero a at = ap (λ b. b || list_any (is_wait a) ws) (ap (is_wait a) (same_some w (Some a) at) ∙ equals a)
any_at (w ∷ ws) (suc h) a at = ap (λ b. is_wait a w || b) (any_at ws h a at) ∙ or_true (is_wait a w)

-- a hart that doesn't wait
pub still : (t : Table) (h : ℕ) (w : Option ℕ) → slice_get t.waits h ≡ Some w → t ≡ with_wait h w t
still t h w at = ap (λ ws. let u : Table = record t { waits = ws } in u) (sym (set_known t.waits h w at))

pub stays : (m : Patched) (old new : Table) (hold : Option Hold) → new ≡ old → ArePlanted m.text (wants_by old hold) → Retabled m m (wants_by new hold)
stays m old new hold is p = record { planted = subst (λ (t : Table). ArePlanted m.text (wants_by t hold)) (sym is) p; words = refl; rest = refl }

-- one that ends its wait
pub ended : (m n : Patched) (old new : Table) (hold : Option Hold) (h a : ℕ) → ArePlanted m.text (wants_by old hold) → slice_get old.waits h ≡ Some (Some a) → new ≡ with_wait h None old
    → Repatched m.text n.text a (wanted (wants_by new hold) a) → n ≡ record m { text = n.text } → Retabled m n (wants_by new hold)
ended m n old new hold h a p at is w rest =
    let P : Table → Type 0 = λ t. Repatched m.text n.text a (wanted (wants_by t hold) a) → Retabled m n (wants_by t hold) in
    subst P (sym is) (λ w. record { planted = rewaited_words (wants_by old hold) h a (Some a) None m.text n.text p at (λ c apart. apart) (λ c apart. tt) (λ b e. cc) w; words = w.words; rest = rest }) w

own_wait : (a b : ℕ) (m : Words) → is_wait b (Some a) ≡ true → IsSome (shown m a) → IsSome (shown m b)
own_wait a b m e some = let same : a ≡ b = grind (arith, nat_tests) in subst (λ c. IsSome (shown m c)) same some

-- one that begins to wait
pub began : (m n : Patched) (old new : Table) (hold : Option Hold) (h a : ℕ) → ArePlanted m.text (wants_by old hold) → slice_get old.waits h ≡ Some None → IsSome (shown m.text a) → new ≡ with_wait h (Some a) old
    → Repatched m.text n.text a (wanted (wants_by new hold) a) → n ≡ record m { text = n.text } → Retabled m n (wants_by new hold)
began m n old new hold h a p at some is w rest =
    let P : Table → Type 0 = λ t. Repatched m.text n.text a (wanted (wants_by t hold) a) → Retabled m n (wants_by t hold) in
    subst P (sym is) (λ w. record { planted = rewaited_words (wants_by old hold) h a None (Some a) m.text n.text p at (λ c apart. tt) (λ c apart. apart) (λ b e. own_wait a b m.text e some) w; words = w.words; rest = rest }) w

-- where a hart waits is text
some_by : (p : Program) (a ret : ℕ) (b : Bool) → is_some (shown (unpatched p) ret) ≡ b → cond b (Some ret) None ≡ Some a → IsSome (shown (unpatched p) a)
some_by p a ret true is e = subst (λ c. IsSome (shown (unpatched p) c)) (same_some ret a e) is
some_by p a ret false is e = cc

place_by : (p : Program) (a : ℕ) (o : Option ℕ) → in_place p o ≡ Some a → IsSome (shown (unpatched p) a)
place_by p a None e = cc
place_by p a (Some ret) e = some_by p a ret (is_some (shown (unpatched p) ret)) refl e

awaited_by : (p : Program) (a : ℕ) (x : Mind) (b : Bool) → cond b (in_place p (return_of x.course.plan)) None ≡ Some a → IsSome (shown (unpatched p) a)
awaited_by p a x true e = place_by p a (return_of x.course.plan) e
awaited_by p a x false e = cc

pub awaited_text : (p : Program) (t : Words) (a : ℕ) (x : Mind) → t.words ≡ (unpatched p).words → awaited p x ≡ Some a → IsSome (shown t a)
awaited_text p t a x same e = same_shown (unpatched p) t a same (awaited_by p a x (runs x) e)

-- one wait after another
pub waits_twice : (t : Table) (h : ℕ) (v w : Option ℕ) → with_wait h w (with_wait h v t) ≡ with_wait h w t
waits_twice t h v w = ap (λ ws. let u : Table = record t { waits = ws } in u) (set_twice t.waits h v w)

-- ---- all harts

-- the first k harts wait where they are to
pub record Partly (m n : Patched) (old new : Table) (f : Mind → Option ℕ) (xs : List Mind) (hold : Option Hold) (k : ℕ) : Type 0 where
  pub rest : new ≡ record old { waits = new.waits }
  pub len : length new.waits ≡ length old.waits
  pub done : (j : ℕ) (x : Mind) → j < k → slice_get xs j ≡ Some x → slice_get new.waits j ≡ Some (f x)
  pub machine : Retabled m n (wants_by new hold)

pub partly_none : (m : Patched) (t : Table) (f : Mind → Option ℕ) (xs : List Mind) (hold : Option Hold) → ArePlanted m.text (wants_by t hold) → Partly m m t t f xs hold 0
partly_none m t f xs hold planted = record { rest = refl; len = refl; done = λ j x low at. absurd (omega arith); machine = record { planted = planted; words = refl; rest = refl } }

more_at : (ws : List (Option ℕ)) (f : Mind → Option ℕ) (xs : List Mind) (k j : ℕ) (w : Option ℕ) (x : Mind)
    → ((i : ℕ) (y : Mind) → i < k → slice_get xs i ≡ Some y → slice_get ws i ≡ Some (f y)) → ((y : Mind) → slice_get xs k ≡ Some y → w ≡ f y)
    → k < length ws → j < suc k → slice_get xs j ≡ Some x → (k ≡ j) ⊎ (k ≡ j → ⊥) → slice_get (slice_set ws k w) j ≡ Some (f x)
more_at ws f xs k j w x done now within low at (inl is) =
    let old = get_within ws k within in
    ap (slice_get (slice_set ws k w)) (sym is) ∙ (get-set_same ws k w old.0 old.1 ∙ ap Some (now x (ap (slice_get xs) is ∙ at)))
more_at ws f xs k j w x done now within low at (inr apart) =
    let less : j < k = omega arith in
    get-set_other ws k j w apart ∙ done j x less at

-- one more of them
pub partly_more : (l m n : Patched) (old mid new : Table) (f : Mind → Option ℕ) (xs : List Mind) (hold : Option Hold) (k : ℕ) → length old.waits ≡ length xs → k < length xs → Partly l m old mid f xs hold k
    → ((x : Mind) → slice_get xs k ≡ Some x → new ≡ with_wait k (f x) mid) → Retabled m n (wants_by new hold) → Partly l n old new f xs hold (k + 1)
partly_more l m n old mid new f xs hold k len low q one w =
    let x = get_within xs k low in
    let is = one x.0 x.1 in
    let within : k < length mid.waits = omega (arith, q.len, len) in
    let same_len : length new.waits ≡ length mid.waits = ap (λ (t : Table). length t.waits) is ∙ length-set mid.waits k (f x.0) in
    record {
      rest = is ∙ (ap (λ (t : Table). let u : Table = record t { waits = slice_set mid.waits k (f x.0) } in u) q.rest ∙ ap (λ ws. let u : Table = record old { waits = ws } in u) (sym (ap (λ (t : Table). t.waits) is)));
      len = same_len ∙ q.len;
      done = λ j y less at.
          ap (λ (t : Table). slice_get t.waits j) is
          ∙ more_at mid.waits f xs k j (f x.0) y q.done (λ z there. ap f (same_some x.0 z (sym x.1 ∙ there))) within (omega arith) at (same_place k j);
      machine = retabled_twice l m n (wants_by mid hold) (wants_by new hold) q.machine w;
    }

map_from : (ws : List (Option ℕ)) (f : Mind → Option ℕ) (xs : List Mind) → length ws ≡ length xs → ((j : ℕ) (x : Mind) → j < length xs → slice_get xs j ≡ Some x → slice_get ws j ≡ Some (f x)) → ws ≡ map f xs
map_from [] f [] len each = refl
map_from [] f (x ∷ xs) len each = absurd (omega arith)
map_from (w ∷ ws) f [] len each = absurd (omega arith)
map_from (w ∷ ws) f (x ∷ xs) len each =
    let l : length ws ≡ length xs = omega arith in
    let first : 0 < suc (length xs) = omega arith in
    ap (λ v. v ∷ ws) (same_some w (f x) (each 0 x first refl)) ∙ ap (λ vs. f x ∷ vs) (map_from ws f xs l (λ j y low at. each (suc j) y (omega arith) at))

-- all of them
pub partly_all : (m n : Patched) (old new : Table) (f : Mind → Option ℕ) (xs : List Mind) (hold : Option Hold) (k : ℕ) → length old.waits ≡ length xs → length xs ≤ k → Partly m n old new f xs hold k → new ≡ record old { waits = map f xs }
partly_all m n old new f xs hold k len all q =
    q.rest ∙ ap (λ ws. let u : Table = record old { waits = ws } in u) (map_from new.waits f xs (q.len ∙ len) (λ j x low at. q.done j x (omega arith) at))
