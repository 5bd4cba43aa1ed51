use Rattle.std.proofs.Common.{sym, ap, ◌∙◌}
use Rattle.std.specs.Prelude.{None}
use Rattle.break_table.specs.Table.{with_wait}
use Rattle.engine_parts.proofs.Waitings.{began, still}
use Rattle.engine_parts.proofs.waiting.begin_wait.Goals as goal

pub returns-in_default-clause-table : goal.returns-in_default-clause-table
returns-in_default-clause-table c = still c.args.table.now c.args.h None c.requires.free ∙ ap (λ w. with_wait c.args.h w c.args.table.now) (sym c.in_default.is)

pub wait_at-requires-clause-place : goal.wait_at-requires-clause-place
wait_at-requires-clause-place c = c.requires.place c.in-Some.addr c.in-Some.is

pub plant_as_wanted-requires : goal.plant_as_wanted-requires
plant_as_wanted-requires c low = c.requires.text c.in-Some.addr c.in-Some.is

pub returns-clause-table : goal.returns-clause-table
returns-clause-table c = c.wait_at.ensures ∙ ap (λ w. with_wait c.args.h w c.args.table.now) (sym c.in-Some.is)

pub returns-clause-machine : goal.returns-clause-machine
returns-clause-machine c =
    began c.args.machine.now c.plant_as_wanted.new.machine c.args.table.now c.wait_at.new.self c.args.hold c.args.h c.in-Some.addr c.requires.planted c.requires.free c.plant_as_wanted.ensures.there c.wait_at.ensures
    c.plant_as_wanted.ensures.text c.plant_as_wanted.ensures.rest
