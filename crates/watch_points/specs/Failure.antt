-- How a failure of parsing is told.
use Rattle.cond_expr.specs.declared.fault.ParseError.{ParseError}
use Rattle.cond_expr.specs.declared.fault.ParseError.TheVariants as parsing
use Rattle.watch_points.specs.declared.fault.WatchFault.TheVariants.{Expr}
use Rattle.watch_points.specs.declared.fault.WatchError.{WatchError}
use Rattle.watch_points.specs.declared.fault.WatchError.TheVariants as failures

abbrev pub failure_of : ParseError → WatchError
failure_of parsing.NoMemory = failures.NoMemory
failure_of (parsing.Fault f) = failures.Fault (Expr f)
