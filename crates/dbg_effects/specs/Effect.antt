-- What an effect changes, as the model has it. This project's own.
use Rattle.std.specs.Option.{option_map}
use Rattle.break_table.specs.Entry.{asked_of, condition_of}
use Rattle.dbg_model.specs.Outcome.{Change, stays, resumes, selects, interrupts, displaces, inserts, adds_watch, deletes, enables, conditions, ignores, pokes, exits}
use Rattle.dbg_effects.specs.declared.effect.Effect.{Effect}
use Rattle.dbg_effects.specs.declared.effect.Effect.TheVariants as effect

abbrev pub change_of : Effect → Change
change_of effect.Nothing = stays
change_of (effect.Resume threads plan) = resumes threads plan
change_of (effect.Interrupt threads) = interrupts threads
change_of (effect.Select thread) = selects thread
change_of (effect.Displace value) = displaces value
change_of (effect.Insert spec) = inserts (asked_of spec)
change_of (effect.Watch text b) = adds_watch text b
change_of (effect.Delete numbers) = deletes numbers
change_of (effect.Enable numbers enabled) = enables enabled numbers
change_of (effect.Condition number condition) = conditions number (option_map condition_of condition)
change_of (effect.After number count) = ignores number count
change_of (effect.Poke poke) = pokes poke
change_of effect.Exit = exits
