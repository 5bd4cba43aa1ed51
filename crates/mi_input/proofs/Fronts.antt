-- The lines of an input, byte by byte.
use Rattle.std.proofs.Common.{◌≡◌, ℕ, Bool, true, false, cond, List, [], ◌∷◌, ◌++◌, refl, sym, ap, ◌∙◌, append_assoc}
use Rattle.std.specs.Prelude.{◌==◌, if◌then◌else◌}
use mathlib.Core.List.{append-nil}
use Rattle.mi_input.specs.Lines.{lines, lines_among, pieces, before_first, rest_line, without_cr}

-- front: the bytes of the line so far
abbrev pub lines_after : List ℕ → List ℕ → Bool → List (List ℕ)
lines_after front [] ended = rest_line ended front
lines_after front (b ∷ bs) ended = if b == 10 then without_cr front ∷ lines_after [] bs ended else lines_after (front ++ b ∷ []) bs ended

-- pieces, with more before the first
abbrev behind : List ℕ → List (List ℕ) → List (List ℕ)
behind front [] = front ∷ []
behind front (piece ∷ others) = (front ++ piece) ∷ others

behind_byte : (front : List ℕ) (b : ℕ) (ps : List (List ℕ)) → behind (front ++ b ∷ []) ps ≡ behind front (before_first b ps)
behind_byte front b [] = refl
behind_byte front b (p ∷ ps) = ap (λ (f : List ℕ). f ∷ ps) (append_assoc front (b ∷ []) p)

some_by : (b : ℕ) (ps : List (List ℕ)) (t : Bool) → (first : List ℕ) × ((others : List (List ℕ)) × (cond t ([] ∷ ps) (before_first b ps) ≡ first ∷ others))
some_by b ps true = ([], (ps, refl))
some_by b [] false = (b ∷ [], ([], refl))
some_by b (p ∷ ps) false = (b ∷ p, (ps, refl))

-- there is a first piece
some_piece : (bs : List ℕ) → (first : List ℕ) × ((others : List (List ℕ)) × (pieces bs ≡ first ∷ others))
some_piece [] = ([], ([], refl))
some_piece (b ∷ bs) = some_by b (pieces bs) (b == 10)

behind_nothing : (ps : List (List ℕ)) (p : List ℕ) (others : List (List ℕ)) → ps ≡ p ∷ others → behind [] ps ≡ ps
behind_nothing ps p others is = rw is refl

one_line : (e : Bool) (front : List ℕ) (ps : List (List ℕ)) (p : List ℕ) (others : List (List ℕ)) → ps ≡ p ∷ others
    → without_cr front ∷ lines_among e (behind [] ps) ≡ lines_among e (behind front ([] ∷ ps))
one_line e front ps p others is = rw is (ap (λ f. without_cr f ∷ lines_among e (p ∷ others)) (sym (append-nil front)))

byte_by : (b : ℕ) (bs front : List ℕ) (e t : Bool) → (b == 10) ≡ t
    → ((f : List ℕ) → lines_after f bs e ≡ lines_among e (behind f (pieces bs)))
    → lines_after front (b ∷ bs) e ≡ lines_among e (behind front (pieces (b ∷ bs)))
byte_by b bs front e true is ih =
    let s = some_piece bs in
    rw is (ap (λ (l : List (List ℕ)). without_cr front ∷ l) (ih []) ∙ one_line e front (pieces bs) s.0 s.1.0 s.1.1)
byte_by b bs front e false is ih = rw is (ih (front ++ b ∷ []) ∙ ap (lines_among e) (behind_byte front b (pieces bs)))

among_pieces : (bs front : List ℕ) (e : Bool) → lines_after front bs e ≡ lines_among e (behind front (pieces bs))
among_pieces [] front e = ap (rest_line e) (sym (append-nil front))
among_pieces (b ∷ bs) front e = byte_by b bs front e (b == 10) refl (λ f. among_pieces bs f e)

-- the lines, byte by byte
pub lines_by_byte : (bs : List ℕ) (e : Bool) → lines bs e ≡ lines_after [] bs e
lines_by_byte bs e =
    let s = some_piece bs in
    sym (among_pieces bs [] e ∙ ap (lines_among e) (behind_nothing (pieces bs) s.0 s.1.0 s.1.1))
