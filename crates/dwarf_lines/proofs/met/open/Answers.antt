use Rattle.dwarf_lines.proofs.Kept.{if_ok, opens_known, opens_new}
use Rattle.dwarf_lines.proofs.met.open.Goals as goal

pub returns-in-Some : goal.returns-in-Some
returns-in-Some c = opens_known c.args.texts.now.items c.args.section.now c.in-Some.start c.requires.ended (c.requires.known c.in-Some.start c.in-Some.is)

pub returns-in-None : goal.returns-in-None
returns-in-None c = if_ok _ (λ start k. opens_new c.args.texts.now.items c.keep.new.texts.items c.args.section.now start c.requires.ended k) c.keep.ensures
