-- The watch that the text's tree asks for is the one that is answered.
use Rattle.std.proofs.Common.{◌≡◌, ℕ, Bool, true, false, List, length, None, Some, Result, Ok, Err, inl, inr, refl, sym, ap, subst, ◌∙◌, ◌⊎◌}
use Rattle.std.specs.Prelude.{if◌then◌else◌}
use Rattle.std.proofs.lemmas.Bool.{cases_lt, lt-ltb, le-ltb}
use Rattle.elf_symbols.specs.Names.{Names}
use Rattle.cond_expr.specs.declared.fault.FaultKind.TheVariants.{Long}
use Rattle.cond_expr.specs.declared.fault.ExprFault.{ExprFault}
use Rattle.cond_expr.specs.declared.token.Prefix.TheVariants.{Negate, Complement, Not, Read}
use Rattle.cond_expr.specs.declared.token.ReadType.{ReadType}
use Rattle.cond_expr.specs.declared.token.ReadType.TheVariants.{Int, UnsignedInt, Short, UnsignedShort, Char, UnsignedChar}
use Rattle.cond_expr.specs.declared.evaluating.Value.{Value as Worth}
use Rattle.cond_expr.specs.declared.evaluating.Value.TheVariants.{Word, DivZero, Unread}
use Rattle.cond_expr.specs.Term.{Term, leaf, prefix, binary}
use Rattle.cond_expr.specs.Value.{value_of}
use Rattle.cond_expr.specs.Lex.{tokens_of}
use Rattle.cond_expr.specs.Fault.{fault, first_fault}
use Rattle.cond_expr.specs.Condition.{Tree}
use Rattle.cond_expr.specs.Reader.{parsed}
use Rattle.cond_expr.proofs.Parsing.{parsed_tree, parsed_fault, parsed_long}
use Rattle.watch_points.specs.declared.watch.Watched.{Watched}
use Rattle.watch_points.specs.declared.fault.WatchFault.{WatchFault}
use Rattle.watch_points.specs.declared.fault.WatchFault.TheVariants.{Expr, Form, Value}
use Rattle.watch_points.specs.declared.fault.WatchError.{WatchError}
use Rattle.watch_points.specs.declared.fault.WatchError.TheVariants as failures
use Rattle.watch_points.specs.Constant.{IsConstant, is_constant}
use Rattle.watch_points.specs.Watching.{size_of, is_signed, Suits, expression_fault}
use Rattle.watch_points.specs.Reading.{GivesWatch, bytes_of, read_watched, tree_watched, watching}
use Rattle.watch_points.proofs.Inside.{constant, not_constant}
use Rattle.watch_points.proofs.Worth.{worth, never_unread, read_at}
use Rattle.watch_points.proofs.Single.{single}
use Rattle.watch_points.proofs.Exact.{Exact}

suits_at : (kind : ReadType) (x : Term) (v : Worth) → IsConstant x → value_of (λ n. 0) (λ a. None) x ≡ v → Suits (prefix (Read kind) x) (bytes_of kind v)
suits_at kind x (Word a u) h e = read_at x h kind a (size_of kind) u (is_signed kind) e refl refl
suits_at kind x DivZero h e = (h, worth x h DivZero e)
suits_at kind x (Unread a) h e = absurd (never_unread x h a e)

read_suits : (kind : ReadType) (x : Term) (b : Bool) → is_constant x ≡ b → Suits (prefix (Read kind) x) (if b then bytes_of kind (value_of (λ n. 0) (λ a. None) x) else Err Form)
read_suits kind x true is = suits_at kind x (value_of (λ n. 0) (λ a. None) x) (constant x is) refl
read_suits kind x false is = not_constant x is

-- what a tree asks for suits it
tree_suits : (x : Term) → Suits x (tree_watched x)
tree_suits (leaf l) = λ e. e
tree_suits (prefix Negate x) = λ e. e
tree_suits (prefix Complement x) = λ e. e
tree_suits (prefix Not x) = λ e. e
tree_suits (prefix (Read kind) x) = read_suits kind x (is_constant x) refl
tree_suits (binary op x y) = λ e. e

of_tree : (text : List ℕ) (names : Names) (x : Term) (a : Result Watched WatchFault) → Tree text names x → Suits x a → watching names text ≡ a
unfolding watching
of_tree text names x a tree suits = ap read_watched (parsed_tree names text x tree) ∙ single x (tree_watched x) a (tree_suits x) suits

fault_read : (text : List ℕ) (names : Names) (f : ExprFault) → expression_fault names text ≡ Some f → parsed names text ≡ Err f
fault_read text names f e =
    elim (cases_lt 256 (length text)) [
      | inl lt ↦
          let long : expression_fault names text ≡ fault Long 256 = rw (lt-ltb 256 (length text) lt) refl in
          let same : record { kind = Long; at = 256 } ≡ f = cc in
          parsed_long names text lt ∙ ap Err same
      | inr le ↦
          let short : expression_fault names text ≡ first_fault (length text) (tokens_of names text) = rw (le-ltb 256 (length text) le) refl in
          parsed_fault names text f le (sym short ∙ e)
    ]

of_fault : (text : List ℕ) (names : Names) (f : ExprFault) → expression_fault names text ≡ Some f → watching names text ≡ Err (Expr f)
unfolding watching
of_fault text names f e = ap read_watched (fault_read text names f e)

pub told : (text : List ℕ) (names : Names) (given : Result Watched WatchError) → Exact text names given → GivesWatch given (watching names text)
told text names (Ok w) x = let s = (x.watched w).0 refl in of_tree text names s.0 (Ok w) s.1 s.2
told text names (Err failures.NoMemory) x = tt
told text names (Err (failures.Fault (Expr f))) x = of_fault text names f ((x.expr f).0 refl)
told text names (Err (failures.Fault Form)) x = let s = x.form.0 refl in of_tree text names s.0 (Err Form) s.1 s.2
told text names (Err (failures.Fault Value)) x = let s = x.value.0 refl in of_tree text names s.0 (Err Value) s.1 s.2

abbrev IsSized : ℕ → Type 0
IsSized n = (n ≡ 1) ⊎ (n ≡ 2) ⊎ (n ≡ 4)

kind_sized : (kind : ReadType) → IsSized (size_of kind)
kind_sized Int = inr (inr refl)
kind_sized UnsignedInt = inr (inr refl)
kind_sized Short = inr (inl refl)
kind_sized UnsignedShort = inr (inl refl)
kind_sized Char = inl refl
kind_sized UnsignedChar = inl refl

bytes_sized : (kind : ReadType) (v : Worth) (b : Watched) → bytes_of kind v ≡ Ok b → IsSized b.size
bytes_sized kind (Word a u) b e =
    let w : Watched = record { address = a; size = size_of kind; signed = is_signed kind } in
    let same : w ≡ b = cc in
    subst (λ (c : Watched). IsSized c.size) same (kind_sized kind)
bytes_sized kind DivZero b e = absurd cc
bytes_sized kind (Unread a) b e = absurd cc

read_sized : (kind : ReadType) (v : Worth) (b : Watched) (t : Bool) → (if t then bytes_of kind v else Err Form) ≡ Ok b → IsSized b.size
read_sized kind v b true e = bytes_sized kind v b e
read_sized kind v b false e = absurd cc

tree_sized : (x : Term) (b : Watched) → tree_watched x ≡ Ok b → IsSized b.size
tree_sized (leaf l) b e = absurd cc
tree_sized (prefix Negate x) b e = absurd cc
tree_sized (prefix Complement x) b e = absurd cc
tree_sized (prefix Not x) b e = absurd cc
tree_sized (prefix (Read kind) x) b e = read_sized kind (value_of (λ n. 0) (λ a. None) x) b (is_constant x) e
tree_sized (binary op x y) b e = absurd cc

text_sized : (r : Result Term ExprFault) (b : Watched) → read_watched r ≡ Ok b → IsSized b.size
text_sized (Ok x) b e = tree_sized x b e
text_sized (Err f) b e = absurd cc

-- what is watched is a byte, a half-word or a word
pub watching_sized : (names : Names) (text : List ℕ) (b : Watched) → watching names text ≡ Ok b → (b.size ≡ 1) ⊎ (b.size ≡ 2) ⊎ (b.size ≡ 4)
unfolding watching
watching_sized names text b e = text_sized (parsed names text) b e
