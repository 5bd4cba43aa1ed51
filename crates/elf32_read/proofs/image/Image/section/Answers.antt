use Rattle.std.proofs.Common.{sym, ◌∙◌}
use Rattle.elf32_read.proofs.Kept.{kept_section, no_section}
use Rattle.elf32_read.proofs.image.Image.section.Goals as goal

pub returns-then-self-eq0 : goal.returns-then-self-eq0
returns-then-self-eq0 c =
    sym (no_section c.self.inside c.args.self.now c.args.name.now c.self.invariant c.self.view_is c.if-self-eq0.true)

pub returns : goal.returns
returns c =
    c.section_called.ensures
    ∙ rw (c.deref.ensures.value, c.names_of.ensures, c.deref-2.ensures.value, c.deref-3.ensures.value)
    (kept_section c.self.inside c.args.self.now c.args.name.now c.self.invariant c.self.view_is c.if-self-eq0.false)
