use Rattle.std.proofs.Common.{◌≤◌, ◌-◌, length, drop, arith, length-drop, length-take-le}
use Rattle.std.proofs.lemmas.List.{take-take}
use Rattle.session_parts.proofs.Putting.{with_more}
use Rattle.session_parts.proofs.puts.put_all.Goals as goal

pub loop-at-preserved : goal.loop-at-preserved
loop-at-preserved g c =
    let told = g.W.World.told in
    let text = c.args.text.now in
    let at = c.loop-at.at in
    let line = c.line_end.result - at in
    let n = c.in-Took.n in
    let p = c.in-Took.ensures in
    let all = length-drop at text in
    let fits : line ≤ length (drop at text) = omega (arith, c.line_end.ensures.within) in
    let short = length-take-le line (drop at text) fits in
    let few : n ≤ line = omega (arith, p.1) in
    let h = rw (take-take n line (drop at text) few) at p.2 in
    record {
      within = omega (arith, c.line_end.ensures.within, c.line_end.ensures.begins);
      told = with_more (told c.args.world.now) (told c.loop-at.world) (told c.put.new.self) text at n c.loop-at.invariant.told h;
    }
