use Rattle.std.proofs.Common.{◌∙◌, ap, sym, arith, slice_get, List}
use Rattle.std.proofs.lemmas.Option.{slice_get-map}
use Rattle.elf32_read.specs.Program.{Section}
use Rattle.elf32_read.specs.Views.{unnamed}
use Rattle.elf32_read.proofs.Kept.{kept_sections, sections_counted}
use Rattle.elf32_read.proofs.image.Image.section_at.Goals as goal

pub section_in-requires : goal.section_in-requires
section_in-requires c =
    rw c.deref-2.ensures.value (omega (arith, sections_counted c.self.inside c.args.self.now c.self.invariant c.self.view_is, c.requires))

pub returns : goal.returns
returns c =
    sym (slice_get-map unnamed c.args.self.now.sections c.args.k)
    ∙ ap (λ (xs : List Section). slice_get xs c.args.k) (sym (kept_sections c.self.inside c.args.self.now c.self.invariant c.self.view_is))
    ∙ (rw (c.deref.ensures.value, c.deref-2.ensures.value) at c.section_in.ensures)
