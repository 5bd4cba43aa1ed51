use Rattle.session_log.proofs.Again.{read_again}
use Rattle.session_log.proofs.Faults.{fault_told}
use Rattle.session_log.proofs.Found.{log_found}
use Rattle.session_log.proofs.log.read_log.Goals as goal

pub returns-clause-found : goal.returns-clause-found
returns-clause-found c = log_found c.args.bytes.now c.judge.result c.judge.ensures

pub returns-clause-again : goal.returns-clause-again
returns-clause-again c = read_again c.args.bytes.now c.judge.result c.judge.ensures

pub returns-clause-faults : goal.returns-clause-faults
returns-clause-faults c = fault_told c.args.bytes.now c.judge.result c.judge.ensures
