-- A session goes to another thread, with its engine.
use denote.RattleType.{RattleType}
use Rattle.dbg_traits.specs.declared.world.World as world
use Rattle.session_loop.specs.contracts.session.Session as session
use denote.Param.Send.{IsSend, sendable}
use Rattle.std.proofs.Crossing.{crosses}
use Rattle.dbg_engine.specs.contracts.engine.Engine as engine
use Rattle.session_parts.proofs.Sending.{breaktable_send, entry_send, machine_send, mind_send, opening_send, sourceindex_send}

engine_send : IsSend engine.the_field.row
engine_send = search (sendable, crosses, opening_send, entry_send, machine_send, mind_send, breaktable_send, sourceindex_send) depth 100 fits 100000

pub session_send : (T : RattleType) (g : world.Ghosts T.Denot) → IsSend T → IsSend (session.the_field T g).row
session_send T g t = search (sendable, crosses, engine_send) depth 100 fits 100000
