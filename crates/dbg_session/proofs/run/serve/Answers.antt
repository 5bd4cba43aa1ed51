use denote.Param.Send.{sendable}
use Rattle.std.proofs.Crossing.{crosses}
use Rattle.session_loop.proofs.Sending.{session_send}
use Rattle.session_parts.proofs.Sending.{outside_send}
use Rattle.dbg_session.proofs.run.serve.Goals as goal

pub run_crew-requires-send-C : goal.run_crew-requires-send-C
run_crew-requires-send-C g c κs within = search (sendable, crosses, outside_send, session_send) depth 100 fits 100000
