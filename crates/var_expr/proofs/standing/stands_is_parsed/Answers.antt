use Rattle.var_expr.proofs.Texts.{stands_parsed, stands_worth}
use Rattle.var_expr.proofs.standing.stands_is_parsed.Goals as goal

pub returns-clause-parsed : goal.returns-clause-parsed
returns-clause-parsed c = stands_parsed

pub returns-clause-worth : goal.returns-clause-worth
returns-clause-worth c = stands_worth
