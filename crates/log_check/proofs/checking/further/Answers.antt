use Rattle.std.proofs.Common.{◌<◌, arith}
use Rattle.dbg_replay.proofs.Coming.{none_more}
use Rattle.log_check.proofs.Further.{came_heard, may_be_quiet, quietly_heard}
use Rattle.log_check.proofs.checking.further.Goals as goal

pub returns-then-count-eq0-clause-heard : goal.returns-then-count-eq0-clause-heard
returns-then-count-eq0-clause-heard g c =
    let o = c.args.opening.now in
    let p = c.args.state.now.place in
    let q = c.take_more-count.new.state.place in
    let h = c.args.hart in
    let still = none_more c.take_more-count.result o p q h c.if-count-eq0.true c.take_more-count.ensures.lengthens in
    came_heard g.S.Speaker.voice c.in_ok-came.came c.from.result o p q h c.instruction.new.state c.args.hearing.now c.instruction.new.hearing c.from.ensures still c.in_ok-came.ensures.heard

pub say_often-requires-clause-shows : goal.say_often-requires-clause-shows
say_often-requires-clause-shows g c =
    let some : 0 < c.take_more-count.result = omega arith in
    may_be_quiet c.take_more-count.result c.args.opening.now c.args.state.now.place c.take_more-count.new.state.place c.args.hart some c.take_more-count.ensures.lengthens

pub returns-clause-heard : goal.returns-clause-heard
returns-clause-heard g c =
    let n = c.take_more-count.result in
    let some : 0 < n = omega arith in
    quietly_heard g.S.Speaker.voice n c.args.opening.now c.args.state.now.place c.take_more-count.new.state.place c.args.hart c.args.hearing.now c.say_often.new.hearing some c.take_more-count.ensures.lengthens c.in_ok-say_often.ensures
