use Rattle.break_table.specs.Entry.{asked_of}
use Rattle.engine_parts.proofs.Tabling.{inserted_words}
use Rattle.dbg_engine.proofs.breaking.insert.Goals as goal

pub returns-clause-machine : goal.returns-clause-machine
returns-clause-machine c =
    inserted_words c.args.machine.now c.plant_as_wanted.new.machine c.args.table.now c.insert_entry.new.table c.args.hold (asked_of c.args.spec)
    c.requires.planted c.insert_entry.ensures c.plant_as_wanted.ensures.there c.plant_as_wanted.ensures.text c.plant_as_wanted.ensures.rest
