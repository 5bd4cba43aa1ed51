use Rattle.dbg_model.proofs.Founding.{watched_sized}
use Rattle.dbg_answers.proofs.watchpoints.watch.Goals as goal

pub are_data-requires : goal.are_data-requires
are_data-requires c = watched_sized c.symbols.result.now c.as_slice.result.now c.in_ok-watched.watched c.in_ok-watched.ensures
