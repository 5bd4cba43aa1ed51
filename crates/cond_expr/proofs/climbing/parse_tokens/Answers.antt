use Rattle.cond_expr.proofs.Only.{only}
use Rattle.cond_expr.proofs.climbing.parse_tokens.Goals as goal

pub returns-clause-only : goal.returns-clause-only
returns-clause-only c = only c.args.end c.args.tokens.now c.whole.result c.whole.ensures.found c.whole.ensures.fault
