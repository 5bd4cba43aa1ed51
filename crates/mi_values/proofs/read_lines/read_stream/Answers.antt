use Rattle.mi_values.proofs.Lines.{stream_read, stream_no_end}
use Rattle.mi_values.proofs.read_lines.read_stream.Goals as goal

pub returns-in-Some : goal.returns-in-Some
returns-in-Some c = stream_read c.args.sign c.args.bytes.now c.in_ok-bytes.rest.now c.in-Some.field-0.now c.in_ok-bytes.bytes c.in_ok-bytes.ensures.0 c.in_ok-bytes.ensures.1 c.in-Some.ensures

pub returns-in-None : goal.returns-in-None
returns-in-None c = stream_no_end c.args.bytes.now c.in_ok-bytes.bytes.items c.in_ok-bytes.rest.now c.in_ok-bytes.ensures.0 c.in_ok-bytes.ensures.1 c.in-None.ensures
