-- What a reader meets at each of its exits.
use Rattle.std.proofs.Common.{◌≡◌, ℕ, Option, Err, ◌∙◌}
use Rattle.cond_expr.specs.declared.fault.FaultKind.{FaultKind}
use Rattle.cond_expr.specs.declared.fault.ExprFault.{ExprFault}
use Rattle.cond_expr.specs.declared.fault.ParseError.{ParseError}
use Rattle.cond_expr.specs.declared.fault.ParseError.TheVariants as failures
use Rattle.cond_expr.specs.Fault.{fault, Meets, MeetsFault}

pub meets_fault : {X : Type 0} (kind : FaultKind) (at : ℕ) (before : Option ExprFault) (after : X → Option ExprFault) (f : ParseError)
    → f ≡ failures.Fault (record { kind = kind; at = at }) → before ≡ fault kind at → Meets (Err f) before after
meets_fault kind at before after f e h = rw e h

pub meets_through : {X Y : Type 0} (before middle : Option ExprFault) (after : X → Option ExprFault) (later : Y → Option ExprFault) (f : ParseError) → before ≡ middle → Meets (Err f) middle after → Meets (Err f) before later
meets_through before middle after later failures.NoMemory e h = tt
meets_through before middle after later (failures.Fault f) e h = e ∙ h

pub ends_in_fault : (X : Type 0) (kind : FaultKind) (at : ℕ) (first : Option ExprFault) (f : ParseError) → f ≡ failures.Fault (record { kind = kind; at = at }) → first ≡ fault kind at → MeetsFault {X = X} (Err f) first
ends_in_fault X kind at first f e h = rw e h
