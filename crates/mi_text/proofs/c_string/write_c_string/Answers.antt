use Rattle.mi_text.proofs.Spelled.{are_bytes}
use Rattle.mi_text.proofs.c_string.write_c_string.Goals as goal

pub returns-clause-bytes : goal.returns-clause-bytes
returns-clause-bytes c = are_bytes c.args.text.now c.type_inv.text
