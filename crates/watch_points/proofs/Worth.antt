-- The value of a constant tree: the same over all registers and bytes, and never an address that isn't mapped.
use Rattle.std.proofs.Common.{◌≡◌, ℕ, Bool, true, false, Option, None, Some, refl, ap, subst, ◌∙◌}
use Rattle.std.specs.Prelude.{◌==◌, ◌||◌, if◌then◌else◌}
use Rattle.cond_expr.specs.declared.token.Binary.{Binary}
use Rattle.cond_expr.specs.declared.token.Binary.TheVariants.{OrElse, AndThen, Or, Xor, And, Equal, NotEqual, Less, LessEqual, Greater, GreaterEqual, ShiftLeft, ShiftRight, Add, Subtract, Multiply, Divide, Remainder}
use Rattle.cond_expr.specs.declared.token.Prefix.TheVariants.{Negate, Complement, Not, Read}
use Rattle.cond_expr.specs.declared.token.ReadType.{ReadType}
use Rattle.cond_expr.specs.declared.token.Leaf.TheVariants.{Number, Register, Address}
use Rattle.cond_expr.specs.declared.evaluating.Value.{Value}
use Rattle.cond_expr.specs.declared.evaluating.Value.TheVariants.{Word, DivZero, Unread}
use Rattle.cond_expr.specs.Term.{Term, leaf, prefix, binary}
use Rattle.cond_expr.specs.Value.{flag, with_word, prefix_value, divided_by, words_value, decided, or_look, binary_value, value_of}
use Rattle.watch_points.specs.Constant.{whole, behind, left, right, IsConstant, IsWorth}
use Rattle.watch_points.specs.Watching.{size_of, is_signed, IsReadOf}

same : (registers others : ℕ → ℕ) (bytes more : ℕ → Option ℕ) (e : Term) → IsConstant e → value_of registers bytes e ≡ value_of others more e
same r s b d (leaf (Number n)) h = refl
same r s b d (leaf (Register q)) h = absurd (h (leaf (Register q)) whole tt)
same r s b d (leaf (Address a)) h = refl
same r s b d (prefix Negate x) h = ap (λ (v : Value). with_word v (λ n u. prefix_value b Negate n u)) (same r s b d x (λ y w. h y (behind Negate w)))
same r s b d (prefix Complement x) h = ap (λ (v : Value). with_word v (λ n u. prefix_value b Complement n u)) (same r s b d x (λ y w. h y (behind Complement w)))
same r s b d (prefix Not x) h = ap (λ (v : Value). with_word v (λ n u. prefix_value b Not n u)) (same r s b d x (λ y w. h y (behind Not w)))
same r s b d (prefix (Read kind) x) h = absurd (h (prefix (Read kind) x) whole tt)
same r s b d (binary op x y) h =
    ap (λ (v : Value). binary_value op v (value_of r b y)) (same r s b d x (λ z w. h z (left op y w)))
    ∙ ap (λ (v : Value). binary_value op (value_of s d x) v) (same r s b d y (λ z w. h z (right op x w)))

abbrev IsSettled : Value → Type 0
IsSettled (Word n u) = Unit {0}
IsSettled DivZero = Unit {0}
IsSettled (Unread a) = ⊥

then_settled : (v : Value) (next : ℕ → Bool → Value) → IsSettled v → ((n : ℕ) (u : Bool) → IsSettled (next n u)) → IsSettled (with_word v next)
then_settled (Word n u) next s t = t n u
then_settled DivZero next s t = tt
then_settled (Unread a) next s t = s

choice_settled : (b : Bool) (v w : Value) → IsSettled v → IsSettled w → IsSettled (if b then v else w)
choice_settled true v w s t = s
choice_settled false v w s t = t

words_settled : (op : Binary) (u either : Bool) (n m : ℕ) → IsSettled (words_value op u either n m)
words_settled OrElse u e n m = tt
words_settled AndThen u e n m = tt
words_settled Or u e n m = tt
words_settled Xor u e n m = tt
words_settled And u e n m = tt
words_settled Equal u e n m = tt
words_settled NotEqual u e n m = tt
words_settled Less u e n m = tt
words_settled LessEqual u e n m = tt
words_settled Greater u e n m = tt
words_settled GreaterEqual u e n m = tt
words_settled ShiftLeft u e n m = tt
words_settled ShiftRight u e n m = tt
words_settled Add u e n m = tt
words_settled Subtract u e n m = tt
words_settled Multiply u e n m = tt
words_settled Divide u e n m = choice_settled (m == 0) DivZero (Word (divided_by Divide e n m) e) tt tt
words_settled Remainder u e n m = choice_settled (m == 0) DivZero (Word (divided_by Remainder e n m) e) tt tt

look_settled : (b : Bool) (v rest : Value) → IsSettled v → IsSettled rest → IsSettled (or_look (if b then None else Some v) rest)
look_settled true v rest s t = t
look_settled false v rest s t = s

seen_settled : (b : Bool) (v rest : Value) → IsSettled v → IsSettled rest → IsSettled (or_look (if b then Some v else None) rest)
seen_settled true v rest s t = s
seen_settled false v rest s t = t

decided_settled : (op : Binary) (n : ℕ) (rest : Value) → IsSettled rest → IsSettled (or_look (decided op n) rest)
decided_settled OrElse n rest s = look_settled (n == 0) (flag true) rest tt s
decided_settled AndThen n rest s = seen_settled (n == 0) (flag false) rest tt s
decided_settled Or n rest s = s
decided_settled Xor n rest s = s
decided_settled And n rest s = s
decided_settled Equal n rest s = s
decided_settled NotEqual n rest s = s
decided_settled Less n rest s = s
decided_settled LessEqual n rest s = s
decided_settled Greater n rest s = s
decided_settled GreaterEqual n rest s = s
decided_settled ShiftLeft n rest s = s
decided_settled ShiftRight n rest s = s
decided_settled Add n rest s = s
decided_settled Subtract n rest s = s
decided_settled Multiply n rest s = s
decided_settled Divide n rest s = s
decided_settled Remainder n rest s = s

settled : (registers : ℕ → ℕ) (bytes : ℕ → Option ℕ) (e : Term) → IsConstant e → IsSettled (value_of registers bytes e)
settled r b (leaf (Number n)) h = tt
settled r b (leaf (Register q)) h = tt
settled r b (leaf (Address a)) h = tt
settled r b (prefix Negate x) h = then_settled (value_of r b x) (λ n u. prefix_value b Negate n u) (settled r b x (λ y w. h y (behind Negate w))) (λ n u. tt)
settled r b (prefix Complement x) h = then_settled (value_of r b x) (λ n u. prefix_value b Complement n u) (settled r b x (λ y w. h y (behind Complement w))) (λ n u. tt)
settled r b (prefix Not x) h = then_settled (value_of r b x) (λ n u. prefix_value b Not n u) (settled r b x (λ y w. h y (behind Not w))) (λ n u. tt)
settled r b (prefix (Read kind) x) h = absurd (h (prefix (Read kind) x) whole tt)
settled r b (binary op x y) h =
    let right_side = settled r b y (λ z w. h z (right op x w)) in
    then_settled (value_of r b x) (λ n u. or_look (decided op n) (with_word (value_of r b y) (λ m v. words_value op u (u || v) n m))) (settled r b x (λ z w. h z (left op y w)))
    (λ n u. decided_settled op n (with_word (value_of r b y) (λ m v. words_value op u (u || v) n m)) (then_settled (value_of r b y) (λ m v. words_value op u (u || v) n m) right_side (λ m v. words_settled op u (u || v) n m)))

-- a constant tree over no registers and no bytes
module _ (x : Term) (h : IsConstant x) where
  pub worth : (v : Value) → value_of (λ n. 0) (λ a. None) x ≡ v → IsWorth x v
  worth v e registers bytes = same registers (λ n. 0) bytes (λ a. None) x h ∙ e

  pub never_unread : (a : ℕ) → value_of (λ n. 0) (λ a. None) x ≡ Unread a → ⊥
  never_unread a e = subst IsSettled e (settled (λ n. 0) (λ a. None) x h)

  pub read_at : (kind : ReadType) (address size : ℕ) (unsigned signed : Bool) → value_of (λ n. 0) (λ a. None) x ≡ Word address unsigned → size ≡ size_of kind → signed ≡ is_signed kind
      → IsReadOf kind x (record { address = address; size = size; signed = signed })
  read_at kind address size unsigned signed e s g = record { constant = h; unsigned = unsigned; worth = worth (Word address unsigned) e; size = s; signed = g }
