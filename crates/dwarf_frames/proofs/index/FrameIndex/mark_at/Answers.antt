use Rattle.dwarf_frames.specs.Gives.{seen_fde}
use Rattle.dwarf_frames.specs.Starts.{seen_start}
use Rattle.dwarf_frames.proofs.Found.{marks_found}
use Rattle.dwarf_frames.proofs.index.FrameIndex.mark_at.Goals as goal

pub last_good-requires-clause-marks : goal.last_good-requires-clause-marks
last_good-requires-clause-marks c =
    let i = c.self.inside in
    marks_found i.tables c.args.self.now i.marked.items c.deref-2.result.now c.partition_point-count.result c.args.place c.in-Some.marked.now c.deref-in-Some.result.now (seen_fde c.args.fde.now) (seen_start c.args.start.now)
    c.self.invariant.marked c.self.view_is c.deref-2.ensures.value c.in-Some.ensures.lookup.3.0 c.in-Some.ensures.lookup.1 c.if-marked-place.true
    c.requires.fde c.requires.start c.deref-in-Some.ensures.value
