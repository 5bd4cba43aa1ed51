use Rattle.cond_expr.proofs.Parsing.{parsed_tree, parsed_fault, parsed_long}
use Rattle.cond_expr.proofs.expr.parsed_is_tree.Goals as goal

pub returns-clause-tree : goal.returns-clause-tree
returns-clause-tree c = parsed_tree

pub returns-clause-fault : goal.returns-clause-fault
returns-clause-fault c = parsed_fault

pub returns-clause-long : goal.returns-clause-long
returns-clause-long c = parsed_long
