use Rattle.session_check.proofs.Ends.{file_end, recorded_end, refused_end, session_ends}
use Rattle.dbg_session.proofs.run.debug_run.Goals as goal

pub returns-in-Err-clause-recorded : goal.returns-in-Err-clause-recorded
returns-in-Err-clause-recorded g c =
    let e = c.in-Err.ended in
    recorded_end e.status (g.W.World.told e.world) e.closed c.in-Err.ensures

pub returns-in-Ok-begin-clause-file : goal.returns-in-Ok-begin-clause-file
returns-in-Ok-begin-clause-file g c =
    let e = c.run_session.result in
    let t = g.W.World.told e.world in
    λ f r. file_end e.status t e.closed f (session_ends e.status t e.closed c.run_session.ensures) r

pub returns-in-Ok-begin-clause-checked_file : goal.returns-in-Ok-begin-clause-checked_file
returns-in-Ok-begin-clause-checked_file g c =
    let e = c.run_session.result in
    let t = g.W.World.told e.world in
    λ f r. refused_end e.status t e.closed f (session_ends e.status t e.closed c.run_session.ensures) r

pub returns-in-Ok-begin-clause-recorded : goal.returns-in-Ok-begin-clause-recorded
returns-in-Ok-begin-clause-recorded g c =
    let e = c.run_session.result in
    let t = g.W.World.told e.world in
    recorded_end e.status t e.closed (session_ends e.status t e.closed c.run_session.ensures)
