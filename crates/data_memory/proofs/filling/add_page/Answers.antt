use Rattle.std.proofs.Common.{◌/◌, sym, ◌∙◌, arith}
use Rattle.data_memory.proofs.Filled.{framed, framed_holds}
use Rattle.data_memory.proofs.filling.add_page.Goals as goal

pub returns-in_ok-set_frame-clause-same : goal.returns-in_ok-set_frame-clause-same
returns-in_ok-set_frame-clause-same c =
    framed_holds c.args.pages.now c.set_frame.new.self c.args.frames.now c.add.new.self (c.args.addr / 512)
    (framed c.args.pages.now c.set_frame.new.self c.args.frames.now c.add.new.self (c.args.addr / 512) c.in-Ok.number c.requires (omega (arith, c.ranges.addr.fits))
    (sym c.frame.ensures ∙ c.if-frame-eq0.true) (omega (arith, c.in-Ok.ensures.1, c.len.ensures)) c.in_ok-add.ensures c.in_ok-set_frame.ensures)
