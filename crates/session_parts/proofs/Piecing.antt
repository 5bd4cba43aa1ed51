-- A piece of input in which no line ends, behind a rest in which none does.
use Rattle.std.proofs.Common.{◌≡◌, ℕ, Bool, true, false, List, [], ◌∷◌, ◌++◌, take, refl, sym, ap, ◌∙◌}
use Rattle.std.specs.Prelude.{Option, Some, None, ◌==◌, is_some, IfNone, IfSome}
use Rattle.std.proofs.lemmas.List.{append-nil}
use Rattle.mi_input.specs.Lines.{IsNext, lines, rest_line, without_cr}
use Rattle.mi_input.proofs.Fronts.{lines_after, lines_by_byte}
use Rattle.session_parts.specs.declared.known.Known.TheVariants as known
use Rattle.session_parts.specs.Taking.{known_behind}

none_yet : (front : List ℕ) → rest_line false front ≡ []
none_yet [] = refl
none_yet (b ∷ bs) = refl

by_front : (b : ℕ) (bs front other : List ℕ) (t : Bool) → (b == 10) ≡ t
    → ((f g : List ℕ) → lines_after f bs false ≡ [] → lines_after g bs false ≡ [])
    → lines_after front (b ∷ bs) false ≡ [] → lines_after other (b ∷ bs) false ≡ []
by_front b bs front other true is ih h = absurd (let e : without_cr front ∷ lines_after [] bs false ≡ [] = rw is at h in cc)
by_front b bs front other false is ih h = rw is (ih (front ++ b ∷ []) (other ++ b ∷ []) (rw is at h))

-- where no line ends, it doesn't matter what stands before
for_any_front : (bs front other : List ℕ) → lines_after front bs false ≡ [] → lines_after other bs false ≡ []
for_any_front [] front other h = none_yet other
for_any_front (b ∷ bs) front other h = by_front b bs front other (b == 10) refl (λ f g k. for_any_front bs f g k) h

joined_by : (b : ℕ) (bs more front : List ℕ) (t : Bool) → (b == 10) ≡ t
    → ((f : List ℕ) → lines_after f bs false ≡ [] → lines_after f (bs ++ more) false ≡ [])
    → lines_after front (b ∷ bs) false ≡ [] → lines_after front (b ∷ (bs ++ more)) false ≡ []
joined_by b bs more front true is ih h = absurd (let e : without_cr front ∷ lines_after [] bs false ≡ [] = rw is at h in cc)
joined_by b bs more front false is ih h = rw is (ih (front ++ b ∷ []) (rw is at h))

joined_after : (bs more front : List ℕ) → lines_after [] more false ≡ [] → lines_after front bs false ≡ [] → lines_after front (bs ++ more) false ≡ []
joined_after [] more front none h = for_any_front more [] front none
joined_after (b ∷ bs) more front none h = joined_by b bs more front (b == 10) refl (λ f k. joined_after bs more f none k) h

pub no_line_joined : (rest piece : List ℕ) → lines rest false ≡ [] → lines piece false ≡ [] → lines (rest ++ piece) false ≡ []
no_line_joined rest piece h none =
    let apart = sym (lines_by_byte piece false) ∙ none in
    lines_by_byte (rest ++ piece) false ∙ joined_after rest piece [] apart (sym (lines_by_byte rest false) ∙ h)

pub no_line_in : (xs : List ℕ) (r : Option (ℕ × ℕ)) → is_some r ≡ false → IfNone r (lines xs false ≡ []) → lines xs false ≡ []
no_line_in xs None h none = none
no_line_in xs (Some p) h none = cc

pub some_line_in : (xs : List ℕ) (r : Option (ℕ × ℕ)) → is_some r ≡ true → IfSome r (λ p. IsNext false xs (take p.0 xs) p.1) → known.Open ≡ known_behind known.NoLine (lines xs false)
some_line_in xs None h next = cc
some_line_in xs (Some p) h next = sym (ap (known_behind known.NoLine) (ap (λ l. lines l false) (sym (append-nil xs)) ∙ next [] false))

pub none_known : (xs : List ℕ) → lines xs false ≡ [] → known.NoLine ≡ known_behind known.NoLine (lines xs false)
none_known xs none = sym (ap (known_behind known.NoLine) none)
