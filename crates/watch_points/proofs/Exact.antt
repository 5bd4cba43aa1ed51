-- Where each answer comes, from what parsing gives and what suits its tree.
use Rattle.std.proofs.Common.{◌≡◌, ℕ, ◌<◌, ◌≤◌, List, length, Option, None, Some, Result, Ok, Err, inl, inr, refl, sym, ap, subst, ◌∙◌}
use Rattle.std.proofs.lemmas.Bool.{cases_lt, lt-ltb, le-ltb}
use Rattle.elf_symbols.specs.Names.{Names}
use Rattle.cond_expr.specs.declared.fault.FaultKind.TheVariants.{Long}
use Rattle.cond_expr.specs.declared.fault.ExprFault.{ExprFault}
use Rattle.cond_expr.specs.declared.fault.ParseError.{ParseError}
use Rattle.cond_expr.specs.declared.fault.ParseError.TheVariants as parsing
use Rattle.cond_expr.specs.declared.expr.Expr.{Expr as Parsed}
use Rattle.cond_expr.specs.Term.{Term}
use Rattle.cond_expr.specs.Lex.{tokens_of}
use Rattle.cond_expr.specs.Fault.{fault, first_fault, MeetsFault}
use Rattle.cond_expr.specs.Condition.{Tree, GivesTerm}
use Rattle.watch_points.specs.declared.watch.Watched.{Watched}
use Rattle.watch_points.specs.declared.fault.WatchFault.{WatchFault}
use Rattle.watch_points.specs.declared.fault.WatchFault.TheVariants.{Expr, Form, Value}
use Rattle.watch_points.specs.declared.fault.WatchError.{WatchError}
use Rattle.watch_points.specs.declared.fault.WatchError.TheVariants as failures
use Rattle.watch_points.specs.Failure.{failure_of}
use Rattle.watch_points.specs.Watching.{IsWatch, IsWatchable, HasNoAddress, Suits, SpellsTree, expression_fault, Gives, ExactlyWhere}
use Rattle.watch_points.proofs.Single.{single}

pub record Exact (text : List ℕ) (names : Names) (given : Result Watched WatchError) : Type 0 where
  pub watched : (w : Watched) → ExactlyWhere given (Ok w) (SpellsTree text names (λ x. IsWatch x w))
  pub expr : (f : ExprFault) → ExactlyWhere given (Err (failures.Fault (Expr f))) (expression_fault names text ≡ Some f)
  pub form : ExactlyWhere given (Err (failures.Fault Form)) (SpellsTree text names (λ x. ¬ (IsWatchable x)))
  pub value : ExactlyWhere given (Err (failures.Fault Value)) (SpellsTree text names HasNoAddress)

abbrev unread : ParseError → Result Parsed ParseError
unread p = Err p

abbrev lifted : Result Watched WatchFault → Result Watched WatchError
lifted (Ok w) = Ok w
lifted (Err f) = Err (failures.Fault f)

module _ (text : List ℕ) (names : Names) where
  abbrev first : Option ExprFault
  first = first_fault (length text) (tokens_of names text)

  long_fault : 256 < length text → expression_fault names text ≡ fault Long 256
  long_fault h = rw (lt-ltb 256 (length text) h) refl

  short_fault : length text ≤ 256 → expression_fault names text ≡ first
  short_fault h = rw (le-ltb 256 (length text) h) refl

  failed_by : (p : ParseError) → (256 < length text → unread p ≡ unread (parsing.Fault (record { kind = Long; at = 256 })))
      → ((x : Term) → Tree text names x → GivesTerm (unread p) x) → (length text ≤ 256 → MeetsFault (unread p) first) → Exact text names (Err (failure_of p))
  failed_by parsing.NoMemory long only meets = record {
    watched = λ w. (λ e. absurd cc, λ s. tt);
    expr = λ f. (λ e. absurd cc, λ s. tt);
    form = (λ e. absurd cc, λ s. tt);
    value = (λ e. absurd cc, λ s. tt);
  }
  failed_by (parsing.Fault f) long only meets =
      let told : expression_fault names text ≡ Some f = elim (cases_lt 256 (length text)) [
        | inl lt ↦ let e = long lt in long_fault lt ∙ cc
        | inr le ↦ short_fault le ∙ meets le
      ] in
      record {
        watched = λ w. (λ e. absurd cc, λ s. absurd (only s.0 s.1));
        expr = λ g. (λ e. let same : f ≡ g = cc in told ∙ ap Some same, λ e. let same : f ≡ g = cc in ap (λ (q : ExprFault). Err (failures.Fault (Expr q))) same);
        form = (λ e. absurd cc, λ s. absurd (only s.0 s.1));
        value = (λ e. absurd cc, λ s. absurd (only s.0 s.1));
      }

  -- parsing failed
  pub failed : (p : ParseError) (q : WatchError) (given : Result Watched WatchError) → given ≡ Err q → q ≡ failure_of p
      → (256 < length text → unread p ≡ unread (parsing.Fault (record { kind = Long; at = 256 })))
      → ((x : Term) → Tree text names x → GivesTerm (unread p) x) → (length text ≤ 256 → MeetsFault (unread p) first) → Exact text names given
  failed p q given e i long only meets = subst (λ (g : Result Watched WatchError). Exact text names g) (sym (e ∙ ap Err i)) (failed_by p long only meets)

  lowered : (a b : Result Watched WatchFault) → lifted a ≡ lifted b → a ≡ b
  lowered (Ok w) (Ok v) e = let same : w ≡ v = cc in ap Ok same
  lowered (Ok w) (Err g) e = absurd cc
  lowered (Err f) (Ok v) e = absurd cc
  lowered (Err f) (Err g) e = let same : f ≡ g = cc in ap Err same

  gives : (a b : Result Watched WatchFault) → a ≡ b → Gives (lifted a) (lifted b)
  gives (Ok w) b e = ap lifted e
  gives (Err f) b e = ap lifted e

  module _ (x : Term) (tree : Tree text names x) (only : (y : Term) → Tree text names y → x ≡ y) (meets : first ≡ None) (root : Term) (is_x : root ≡ x) (a : Result Watched WatchFault) (suits : Suits root a) where
    suits_tree : Suits x a
    suits_tree = subst (λ (y : Term). Suits y a) is_x suits

    comes : (b : Result Watched WatchFault) → lifted a ≡ lifted b → SpellsTree text names (λ y. Suits y b)
    comes b e = (x, tree, subst (λ (c : Result Watched WatchFault). Suits x c) (lowered a b e) suits_tree)

    goes : (b : Result Watched WatchFault) → SpellsTree text names (λ y. Suits y b) → Gives (lifted a) (lifted b)
    goes b s = gives a b (single x a b suits_tree (subst (λ (y : Term). Suits y b) (sym (only s.0 s.1)) s.2))

    no_fault : (f : ExprFault) → expression_fault names text ≡ Some f → ⊥
    no_fault f e = let n : None ≡ Some f = sym meets ∙ sym (short_fault tree.0) ∙ e in absurd cc

    answered : Exact text names (lifted a)
    answered = record {
      watched = λ w. (comes (Ok w), goes (Ok w));
      expr = λ f. (λ e. absurd ((comes (Err (Expr f)) e).2), λ e. absurd (no_fault f e));
      form = (comes (Err Form), goes (Err Form));
      value = (comes (Err Value), goes (Err Value));
    }

    -- a tree was parsed, and is a watch
    pub took : (w : Watched) → a ≡ Ok w → Exact text names (Ok w)
    took w e = subst (λ (g : Result Watched WatchError). Exact text names g) (ap lifted e) answered

    -- a tree was parsed, and is none
    pub refused : (f : WatchFault) (q : WatchError) (given : Result Watched WatchError) → a ≡ Err f → given ≡ Err q → q ≡ failures.Fault f → Exact text names given
    refused f q given r e i = subst (λ (g : Result Watched WatchError). Exact text names g) (ap lifted r ∙ sym (e ∙ ap Err i)) answered
