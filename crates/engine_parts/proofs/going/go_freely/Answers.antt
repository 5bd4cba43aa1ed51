use Rattle.std.proofs.Common.{◌+◌, refl, sym, subst, arith}
use Rattle.hart_machine.specs.Patched.{Patched}
use Rattle.engine_parts.specs.Going.{Goes, surroundings_view}
use Rattle.engine_parts.proofs.Gone.{ran_more, passed_more}
use Rattle.engine_parts.proofs.going.go_freely.Goals as goal

pub returns-then-limit-turns-lt3-clause-goes : goal.returns-then-limit-turns-lt3-clause-goes
returns-then-limit-turns-lt3-clause-goes c =
    let o = c.args.around.now in
    let l = c.loop-turns in
    ran_more (surroundings_view o) c.args.most c.args.machine.now l.turns l.instructions c.run-count.result l.machine c.run-count.new.self
    c.requires.unwatched (omega (arith, c.min-left.ensures, c.run-count.ensures.limit)) l.invariant.goes c.run-count.ensures.runs

pub returns-then-not-pass-clause-goes : goal.returns-then-not-pass-clause-goes
returns-then-not-pass-clause-goes c =
    let o = c.args.around.now in
    let l = c.loop-turns in
    let n = c.run-count.result in
    let ran = ran_more (surroundings_view o) c.args.most c.args.machine.now l.turns l.instructions n l.machine c.run-count.new.self
    c.requires.unwatched (omega (arith, c.min-left.ensures, c.run-count.ensures.limit)) l.invariant.goes c.run-count.ensures.runs in
    let P : Patched → Type 0 = λ m. Goes (surroundings_view o) c.args.most (l.turns + n) (l.instructions + n) c.args.machine.now m in
    subst P (sym (c.if-not-pass.ensures.kept refl)) ran

pub loop-turns-preserved : goal.loop-turns-preserved
loop-turns-preserved c =
    let o = c.args.around.now in
    let l = c.loop-turns in
    let n = c.run-count.result in
    let ran = ran_more (surroundings_view o) c.args.most c.args.machine.now l.turns l.instructions n l.machine c.run-count.new.self
    c.requires.unwatched (omega (arith, c.min-left.ensures, c.run-count.ensures.limit)) l.invariant.goes c.run-count.ensures.runs in
    record {
      hart = omega (arith, c.run-count.ensures.harts, c.pass.ensures.harts);
      limit = omega arith;
      most = omega arith;
      fewer = omega arith;
      goes = passed_more (surroundings_view o) c.args.most c.args.machine.now (l.turns + n) (l.instructions + n) c.run-count.new.self c.pass.new.machine (omega arith) ran (c.if-not-pass.ensures.passes refl);
    }
