use Rattle.mi_text.proofs.Texts.{read_again}
use Rattle.mi_text.proofs.escape.read_text.Goals as goal

pub returns-clause-again : goal.returns-clause-again
returns-clause-again c = read_again c.args.bytes.now c.body.result c.body.ensures
