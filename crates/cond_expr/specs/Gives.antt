-- What parsing gives.
use Rattle.std.specs.Prelude.{◌≡◌, Result, Ok, Err}
use Rattle.cond_expr.specs.declared.fault.ParseError.{ParseError}
use Rattle.cond_expr.specs.declared.fault.ParseError.TheVariants as failures
use Rattle.cond_expr.specs.declared.tree.Node.{Node}
use Rattle.cond_expr.specs.Term.{Term, term_of}

-- the tree, unless memory ran out
abbrev pub GivesTree : Result Node ParseError → Term → Type 0
GivesTree (Ok e) x = term_of e ≡ x
GivesTree (Err failures.NoMemory) x = Unit {0}
GivesTree (Err (failures.Fault f)) x = ⊥
