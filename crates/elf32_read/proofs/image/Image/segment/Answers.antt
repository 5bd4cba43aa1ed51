use Rattle.std.proofs.Common.{◌∙◌, ap, sym, arith, slice_get, List}
use Rattle.elf32_read.specs.Program.{Segment}
use Rattle.elf32_read.proofs.Kept.{kept_segments, segments_counted}
use Rattle.elf32_read.proofs.image.Image.segment.Goals as goal

pub segment_in-requires-clause-number : goal.segment_in-requires-clause-number
segment_in-requires-clause-number c =
    rw c.deref-2.ensures.value (omega (arith, segments_counted c.self.inside c.args.self.now c.self.invariant c.self.view_is, c.requires))

pub returns : goal.returns
returns c =
    ap (λ (xs : List Segment). slice_get xs c.args.k) (sym (kept_segments c.self.inside c.args.self.now c.self.invariant c.self.view_is))
    ∙ (rw (c.deref.ensures.value, c.deref-2.ensures.value) at c.segment_in.ensures)
