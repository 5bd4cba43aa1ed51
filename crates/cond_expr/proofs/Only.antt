-- The two clauses on what is read give the third.
use Rattle.std.proofs.Common.{ℕ, List, Result, Ok, Err}
use Rattle.std.specs.Prelude.{IfOk}
use Rattle.cond_expr.specs.declared.fault.ParseError.{ParseError}
use Rattle.cond_expr.specs.declared.fault.ParseError.TheVariants as failures
use Rattle.cond_expr.specs.declared.token.Spot.{Spot}
use Rattle.cond_expr.specs.declared.tree.Node.{Node}
use Rattle.cond_expr.specs.Term.{Term, term_of}
use Rattle.cond_expr.specs.Grammar.{IsTree}
use Rattle.cond_expr.specs.Fault.{first_fault, MeetsFault}
use Rattle.cond_expr.specs.Gives.{GivesTree}
use Rattle.cond_expr.proofs.Unique.{unique}
use Rattle.cond_expr.proofs.NoFault.{no_fault}

pub only : (end : ℕ) (tokens : List Spot) (r : Result Node ParseError) → IfOk r (λ e. IsTree tokens (term_of e)) → MeetsFault r (first_fault end tokens) → (x : Term) → IsTree tokens x → GivesTree r x
only end tokens (Ok e) found met x h = unique tokens (term_of e) x found h
only end tokens (Err failures.NoMemory) found met x h = tt
only end tokens (Err (failures.Fault f)) found met x h = let n = no_fault end tokens x h in absurd cc
