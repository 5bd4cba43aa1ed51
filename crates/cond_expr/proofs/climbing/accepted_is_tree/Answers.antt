use Rattle.cond_expr.proofs.NoFault.{no_fault}
use Rattle.cond_expr.proofs.Total.{no_fault_tree}
use Rattle.cond_expr.proofs.Unique.{unique}
use Rattle.cond_expr.proofs.climbing.accepted_is_tree.Goals as goal

pub returns-clause-tree : goal.returns-clause-tree
returns-clause-tree c = no_fault_tree

pub returns-clause-accepted : goal.returns-clause-accepted
returns-clause-accepted c = no_fault

pub returns-clause-unique : goal.returns-clause-unique
returns-clause-unique c = unique
