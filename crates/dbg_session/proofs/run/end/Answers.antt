use Rattle.dbg_session.proofs.run.end.Goals as goal

pub finish-requires : goal.finish-requires
finish-requires g c =
    let h = c.close.ensures in
    let s = c.args.session in
    record { run = s.run; input = s.input; left = h.closed; tied = rw h.world (rw h.status h.tied) }
