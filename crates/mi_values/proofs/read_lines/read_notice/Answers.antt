use Rattle.mi_values.proofs.Lines.{notice_read}
use Rattle.mi_values.proofs.read_lines.read_notice.Goals as goal

pub returns : goal.returns
returns c = notice_read c.args.sign c.args.bytes.now c.in_ok-class.class c.in_ok-class.fields c.in_ok-class.ensures
