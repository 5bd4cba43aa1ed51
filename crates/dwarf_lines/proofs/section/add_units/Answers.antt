use Rattle.std.proofs.Common.{arith, ◌∙◌}
use Rattle.line_rows.specs.Sections.{sections_shown}
use Rattle.dwarf_lines.specs.Adding.{named}
use Rattle.dwarf_lines.proofs.Sections.{begins, goes_on, met_around, met_within}
use Rattle.dwarf_lines.proofs.section.add_units.Goals as goal

pub loop-at-init : goal.loop-at-init
loop-at-init c = record {
  same = begins (sections_shown c.args.sections.now) _ c.requires.begins;
  met = c.requires.met;
  closed = c.requires.closed;
  within = omega arith;
}

pub add_at-requires-clause-met : goal.add_at-requires-clause-met
add_at-requires-clause-met c =
    met_within (sections_shown c.args.sections.now) (sections_shown c.up_to-unit.result) c.in-Ok.end c.loop-at.met c.up_to-unit.ensures c.loop-at.invariant.met

pub loop-at-preserved : goal.loop-at-preserved
loop-at-preserved c = record {
  same = goes_on (sections_shown c.args.sections.now) (sections_shown c.up_to-unit.result) _ c.loop-at.at c.in-Ok.end (named c.loop-at.rows c.loop-at.met) (named c.add_at.new.rows c.add_at.new.met)
      c.loop-at-test.true c.in-Ok.ensures.behind c.in-Ok.ensures.value c.text_ends-ends.ensures c.up_to-unit.ensures c.in_ok-add_at.ensures.same
      ∙ c.loop-at.invariant.same;
  met = met_around (sections_shown c.args.sections.now) (sections_shown c.up_to-unit.result) c.in-Ok.end c.add_at.new.met c.up_to-unit.ensures c.in_ok-add_at.ensures.kept;
  closed = c.in_ok-add_at.ensures.closed;
  within = c.in-Ok.ensures.within;
}
