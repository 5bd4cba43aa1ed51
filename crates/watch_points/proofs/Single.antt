-- One answer at most suits a tree.
use Rattle.std.proofs.Common.{◌≡◌, ℕ, Bool, None, Result, Ok, Err, refl, sym, ap, ◌∙◌}
use Rattle.cond_expr.specs.declared.token.Prefix.TheVariants.{Negate, Complement, Not, Read}
use Rattle.cond_expr.specs.declared.token.ReadType.{ReadType}
use Rattle.cond_expr.specs.declared.evaluating.Value.TheVariants.{Word, DivZero}
use Rattle.cond_expr.specs.Term.{Term, leaf, prefix, binary}
use Rattle.watch_points.specs.declared.watch.Watched.{Watched}
use Rattle.watch_points.specs.declared.fault.WatchFault.{WatchFault}
use Rattle.watch_points.specs.declared.fault.WatchFault.TheVariants.{Expr, Form, Value}
use Rattle.watch_points.specs.Watching.{IsReadOf, IsWatch, HasNoAddress, Suits}

abbrev made : ℕ → ℕ → Bool → Watched
made address size signed = record { address = address; size = size; signed = signed }

same_watch : (w v : Watched) → w.address ≡ v.address → w.size ≡ v.size → w.signed ≡ v.signed → w ≡ v
same_watch w v a s g =
    ap (λ (n : ℕ). made n w.size w.signed) a ∙ ap (λ (n : ℕ). made v.address n w.signed) s ∙ ap (λ (b : Bool). made v.address v.size b) g

same_read : (kind : ReadType) (x : Term) (w v : Watched) → IsReadOf kind x w → IsReadOf kind x v → w ≡ v
same_read kind x w v h k =
    let e : Word w.address h.unsigned ≡ Word v.address k.unsigned = sym (h.worth (λ n. 0) (λ a. None)) ∙ k.worth (λ n. 0) (λ a. None) in
    let a : w.address ≡ v.address = cc in
    same_watch w v a (h.size ∙ sym k.size) (h.signed ∙ sym k.signed)

read_has_address : (kind : ReadType) (x : Term) (w : Watched) → IsReadOf kind x w → HasNoAddress (prefix (Read kind) x) → ⊥
read_has_address kind x w h k =
    let e : Word w.address h.unsigned ≡ DivZero = sym (h.worth (λ n. 0) (λ a. None)) ∙ k.1 (λ n. 0) (λ a. None) in
    absurd cc

is_form : (x : Term) → ((w : Watched) → IsWatch x w → ⊥) → (HasNoAddress x → ⊥) → (a : Result Watched WatchFault) → Suits x a → a ≡ Err Form
is_form x none without (Ok w) h = absurd (none w h)
is_form x none without (Err (Expr f)) h = absurd h
is_form x none without (Err Form) h = refl
is_form x none without (Err Value) h = absurd (without h)

both_form : (x : Term) → ((w : Watched) → IsWatch x w → ⊥) → (HasNoAddress x → ⊥) → (a b : Result Watched WatchFault) → Suits x a → Suits x b → a ≡ b
both_form x none without a b h k = is_form x none without a h ∙ sym (is_form x none without b k)

of_read : (kind : ReadType) (x : Term) (a b : Result Watched WatchFault) → Suits (prefix (Read kind) x) a → Suits (prefix (Read kind) x) b → a ≡ b
of_read kind x (Err (Expr f)) b h k = absurd h
of_read kind x (Ok w) (Ok v) h k = ap Ok (same_read kind x w v h k)
of_read kind x (Ok w) (Err (Expr f)) h k = absurd k
of_read kind x (Ok w) (Err Form) h k = absurd (k h.constant)
of_read kind x (Ok w) (Err Value) h k = absurd (read_has_address kind x w h k)
of_read kind x (Err Form) (Ok v) h k = absurd (h k.constant)
of_read kind x (Err Form) (Err (Expr f)) h k = absurd k
of_read kind x (Err Form) (Err Form) h k = refl
of_read kind x (Err Form) (Err Value) h k = absurd (h k.0)
of_read kind x (Err Value) (Ok v) h k = absurd (read_has_address kind x v k h)
of_read kind x (Err Value) (Err (Expr f)) h k = absurd k
of_read kind x (Err Value) (Err Form) h k = absurd (k h.0)
of_read kind x (Err Value) (Err Value) h k = refl

pub single : (x : Term) (a b : Result Watched WatchFault) → Suits x a → Suits x b → a ≡ b
single (leaf l) a b h k = both_form (leaf l) (λ w e. e) (λ e. e) a b h k
single (prefix Negate x) a b h k = both_form (prefix Negate x) (λ w e. e) (λ e. e) a b h k
single (prefix Complement x) a b h k = both_form (prefix Complement x) (λ w e. e) (λ e. e) a b h k
single (prefix Not x) a b h k = both_form (prefix Not x) (λ w e. e) (λ e. e) a b h k
single (prefix (Read kind) x) a b h k = of_read kind x a b h k
single (binary op x y) a b h k = both_form (binary op x y) (λ w e. e) (λ e. e) a b h k
