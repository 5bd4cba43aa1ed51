use Rattle.std.proofs.Common.{arith, rules}
use Rattle.dwarf_frames.specs.Gives.{seen_fde}
use Rattle.dwarf_frames.specs.Starts.{seen_start}
use Rattle.dwarf_frames.proofs.Marking.{marked_here}
use Rattle.dwarf_frames.proofs.marks.marks_of.Goals as goal

pub loop-run-preserved-then-run-last-ge-LONG : goal.loop-run-preserved-then-run-last-ge-LONG
loop-run-preserved-then-run-last-ge-LONG c =
    let s = seen_start c.args.start.now in
    let d = seen_fde c.args.fde.now in
    record {
      mark = search rules;
      marks = marked_here s d c.loop-run.run c.step.new.run c.copy.result c.loop-run.marks.items c.push.new.self.items c.in-Ok.ensures.rises c.copy.ensures.at c.copy.ensures.location c.copy.ensures.reached c.copy.ensures.state
          c.in_ok-push.ensures.items c.in-Ok.ensures.mark c.loop-run.invariant.marks;
      last = omega arith;
    }
