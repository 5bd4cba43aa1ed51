-- What a command may see of a debuggee. This project's own.
use Rattle.dbg_model.specs.Sight.{Sight}
use Rattle.dbg_answers.specs.declared.debuggee.Debuggee.{Debuggee}

abbrev pub seen : Debuggee → Sight
seen d = record {
  image = d.image.now;
  sources = d.sources.now;
  memory = d.memory.now;
  threads = d.threads.now;
  breaks = d.table.now.entries;
  watches = d.watches.now;
  given = d.table.now.given;
  selected = d.selected;
  displaced = d.displaced;
}
