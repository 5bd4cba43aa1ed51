use Rattle.std.specs.Prelude.{None, Some}
use Rattle.break_table.specs.Table.{with_enabled}
use Rattle.engine_parts.proofs.Breaking.{place-shown}
use Rattle.engine_parts.proofs.Tabling.{number_at, enabled_words, none_changed}
use Rattle.dbg_engine.proofs.breaking.enable.Goals as goal

pub returns-in_default-clause-table : goal.returns-in_default-clause-table
returns-in_default-clause-table c =
    none_changed (with_enabled c.args.enabled) c.args.table.now c.args.number (number_at c.args.table.now c.entries.result.now c.args.number c.place_of.result None c.entries.ensures.entries c.place_of.ensures c.in_default.is)

pub plant_as_wanted-requires : goal.plant_as_wanted-requires
plant_as_wanted-requires c low =
    place-shown c.args.machine.now.text c.args.table.now.entries c.args.number c.in-Some.place c.requires.words
    (number_at c.args.table.now c.entries.result.now c.args.number c.place_of.result (Some c.in-Some.place) c.entries.ensures.entries c.place_of.ensures c.in-Some.is)

pub returns-clause-machine : goal.returns-clause-machine
returns-clause-machine c =
    let at = number_at c.args.table.now c.entries.result.now c.args.number c.place_of.result (Some c.in-Some.place) c.entries.ensures.entries c.place_of.ensures c.in-Some.is in
    enabled_words c.args.enabled c.args.machine.now c.plant_as_wanted.new.machine c.args.table.now c.enable_entry.new.table c.args.hold c.args.number c.in-Some.place c.requires c.entries.ensures.rising at
    c.enable_entry.ensures c.plant_as_wanted.ensures.text c.plant_as_wanted.ensures.rest
