-- When the change that a line makes can be made. This project's own.
use Rattle.std.specs.Prelude.{◌<◌, ◌^◌, IsSome}
use Rattle.text_words.specs.Words.{Words, shown}
use Rattle.break_table.specs.Table.{Table}
use Rattle.dbg_effects.specs.Table.{CanBeMade}
use Rattle.dbg_effects.specs.declared.effect.Effect.{Effect}
use Rattle.dbg_effects.specs.declared.effect.Effect.TheVariants as effect

-- a change can be made: a new breakpoint has its word, room and thread
abbrev pub Applies : Words → Table → Effect → Type 0
Applies w t (effect.Insert spec) = CanBeMade t (effect.Insert spec) × (spec.address < 2 ^ 32 → IsSome (shown w spec.address))
Applies w t _ = Unit {0}
