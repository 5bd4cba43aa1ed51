use Rattle.std.proofs.Common.{◌≡◌}
use Rattle.dbg_model.specs.Journals.{first_place, replay_from}
use Rattle.dbg_replay.specs.Standing.{IsOf}
use Rattle.dbg_replay.proofs.replaying.go_through.Given as goal

-- what is left is gone through from here as all is from the beginning
abbrev pub invariant-loop-entry : goal.invariant-loop-entry
invariant-loop-entry l = record {
  rest : replay_from l.opening (first_place l.opening) l.fn.entries ≡ replay_from l.opening l.state.place l.entry-iterator;
  of : IsOf l.opening l.state;
}
