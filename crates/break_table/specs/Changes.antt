-- What each change makes of an entry.
use Rattle.std.specs.Option.{option_map}
use Rattle.break_table.specs.Entry.{Entry, condition_of}
use Rattle.break_table.specs.Table.{with_enabled, with_condition, with_ignore}
use Rattle.break_table.specs.declared.change.Change.{Change}
use Rattle.break_table.specs.declared.change.Change.TheVariants.{Enabled, Condition, Ignore}

abbrev pub made : Change → Entry → Entry
made (Enabled enabled) e = with_enabled enabled e
made (Condition condition) e = with_condition (option_map condition_of condition) e
made (Ignore ignore) e = with_ignore ignore e
