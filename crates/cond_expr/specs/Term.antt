-- The tree of an expression, without where it lies in memory.
use Rattle.cond_expr.specs.declared.token.Binary.{Binary}
use Rattle.cond_expr.specs.declared.token.Prefix.{Prefix}
use Rattle.cond_expr.specs.declared.token.Leaf.{Leaf}
use Rattle.cond_expr.specs.declared.tree.Node.{Node}
use Rattle.cond_expr.specs.declared.tree.Node.TheVariants as e

pub data Term : Type 0 where
  leaf : Leaf → Term
  prefix : Prefix → Term → Term
  binary : Binary → Term → Term → Term

abbrev pub term_of : Node → Term
term_of (e.Leaf a) = leaf a
term_of (e.Prefix' op p x) = prefix op (term_of x)
term_of (e.Binary' op p x q y) = binary op (term_of x) (term_of y)
