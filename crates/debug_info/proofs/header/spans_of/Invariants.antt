-- The units so far, and those from here on.
use Rattle.debug_info.proofs.Words.{◌-◌, length, All, IsSpan}
use Rattle.debug_info.proofs.Spanned.{Spanned}
use Rattle.debug_info.proofs.header.spans_of.Given as goal

abbrev pub invariant-units : goal.invariant-units
invariant-units l =
    record {
      spans : All (IsSpan l.info) l.units.items;
      read : Spanned l.info l.units.items l.at;
    }

abbrev pub decreases-units : goal.decreases-units
decreases-units l = length l.info - l.at
