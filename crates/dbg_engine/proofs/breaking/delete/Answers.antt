use Rattle.std.specs.Prelude.{None, Some}
use Rattle.engine_parts.proofs.Breaking.{place-shown}
use Rattle.engine_parts.proofs.Tabling.{number_at, deleted_words, none_deleted}
use Rattle.dbg_engine.proofs.breaking.delete.Goals as goal

pub returns-in_default-clause-table : goal.returns-in_default-clause-table
returns-in_default-clause-table c =
    none_deleted c.args.table.now c.args.number (number_at c.args.table.now c.entries.result.now c.args.number c.place_of.result None c.entries.ensures.entries c.place_of.ensures c.in_default.is)

pub plant_as_wanted-requires : goal.plant_as_wanted-requires
plant_as_wanted-requires c low =
    place-shown c.args.machine.now.text c.args.table.now.entries c.args.number c.in-Some.place c.requires.words
    (number_at c.args.table.now c.entries.result.now c.args.number c.place_of.result (Some c.in-Some.place) c.entries.ensures.entries c.place_of.ensures c.in-Some.is)

pub returns-clause-machine : goal.returns-clause-machine
returns-clause-machine c =
    let at = number_at c.args.table.now c.entries.result.now c.args.number c.place_of.result (Some c.in-Some.place) c.entries.ensures.entries c.place_of.ensures c.in-Some.is in
    deleted_words c.args.machine.now c.plant_as_wanted.new.machine c.args.table.now c.delete_entry.new.table c.args.hold c.args.number c.in-Some.place c.requires c.entries.ensures.rising at
    c.delete_entry.ensures c.plant_as_wanted.ensures.text c.plant_as_wanted.ensures.rest
