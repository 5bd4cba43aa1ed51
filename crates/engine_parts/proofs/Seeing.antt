-- Whether an engine is over.
use Rattle.std.proofs.Common.{◌≡◌, true, false}
use Rattle.std.specs.Prelude.{Some, None}
use Rattle.dbg_model.specs.Lawful.{may_go}
use Rattle.engine_parts.specs.Seen.{Engine, seen}
use Rattle.engine_parts.proofs.Bounding as bounding
use Rattle.engine_parts.specs.declared.ending.End.{End}
use Rattle.engine_parts.specs.declared.ending.End.TheVariants as end
use Rattle.engine_parts.specs.Calls.{OverBy}

pub may_go_by : (r : Engine) → OverBy None r → may_go r.opening (seen r) ≡ true
may_go_by r o = bounding.may_go_by r o.0 o.1 o.2

pub may_not_by : (e : End) (r : Engine) → OverBy (Some e) r → may_go r.opening (seen r) ≡ false
may_not_by end.Budget r o = bounding.may_not_budget r o
may_not_by end.History r o = bounding.may_not_history r o.1
may_not_by end.Exit r o = bounding.may_not_exited r o.2
