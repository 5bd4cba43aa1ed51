-- One operation of a program, and its end.
use Rattle.std.proofs.Common.{◌≡◌, ◌<◌, ◌≤◌, ◌+◌, ◌-◌, ℕ, suc, zero, List, [], ◌∷◌, length, Result, Ok, Err, Option, Some, None, refl, sym, ap, ◌∙◌, arith}
use Rattle.std.proofs.lemmas.Bool.{lt-leb, le-leb}
use Rattle.line_rows.specs.RowList.{OpenUnit}
use Rattle.line_rows.specs.declared.fault.LineFault.{LineFault}
use Rattle.line_rows.specs.declared.fault.LineError.{LineError}
use Rattle.line_rows.specs.declared.fault.LineError.TheVariants.{Fault, NoMemory}
use Rattle.line_programs.specs.declared.operation.Operation.{Operation}
use Rattle.line_programs.specs.declared.parameters.Parameters.{Parameters}
use Rattle.line_programs.specs.Operations.{Operations, and_behind, no_operations, operation_at, operations_from}
use Rattle.line_programs.specs.Machine.{GivesRows, State, Steps, ran, run, settled, stepped}

begun : (n : ℕ) (p : Parameters) (lengths bytes : List ℕ) (at : ℕ) → at < length bytes → length bytes ≤ n + at
    → operations_from n p lengths bytes at ≡ and_behind (operation_at p lengths bytes at) (operations_from (n - 1) p lengths bytes)
unfolding operations_from
begun n p lengths bytes at h m =
    let k : n ≡ suc (n - 1) = omega arith in
    ap (λ (i : ℕ). operations_from i p lengths bytes at) k ∙ rw (lt-leb (length bytes) at h) refl

front : (p : Parameters) (bytes : List ℕ) (operation : Operation) (rest : Operations) (s s' : State) → stepped p bytes operation s ≡ Ok s'
    → ran p bytes (record { list = operation ∷ rest.list; fault = rest.fault }) s ≡ ran p bytes rest s'
unfolding run
front p bytes operation rest s s' e = rw e refl

front_fails : (p : Parameters) (bytes : List ℕ) (operation : Operation) (rest : Operations) (s : State) (f : LineFault) → stepped p bytes operation s ≡ Err f
    → ran p bytes (record { list = operation ∷ rest.list; fault = rest.fault }) s ≡ Err f
unfolding run
front_fails p bytes operation rest s f e = rw e refl

none : (p : Parameters) (bytes : List ℕ) (fault : Option LineFault) (s : State) → ran p bytes (record { list = []; fault = fault }) s ≡ settled fault s
unfolding run
none p bytes fault s = refl

pub goes_on : (n : ℕ) (p : Parameters) (lengths bytes : List ℕ) (at next : ℕ) (operation : Operation) (s s' : State) (total : Result OpenUnit LineFault)
    → at < length bytes → length bytes ≤ n + at → Ok (operation, next) ≡ operation_at p lengths bytes at → stepped p bytes operation s ≡ Ok s'
    → ran p bytes (operations_from n p lengths bytes at) s ≡ total → ran p bytes (operations_from (n - 1) p lengths bytes next) s' ≡ total
goes_on n p lengths bytes at next operation s s' total h m read step so_far =
    sym (front p bytes operation (operations_from (n - 1) p lengths bytes next) s s' step)
    ∙ ap (λ (d : Result (Operation × ℕ) LineFault). ran p bytes (and_behind d (operations_from (n - 1) p lengths bytes)) s) read
    ∙ ap (λ (o : Operations). ran p bytes o s) (sym (begun n p lengths bytes at h m))
    ∙ so_far

pub step_fails : (n : ℕ) (p : Parameters) (lengths bytes : List ℕ) (at next : ℕ) (operation : Operation) (s : State) (f : LineFault) (total : Result OpenUnit LineFault)
    → at < length bytes → length bytes ≤ n + at → Ok (operation, next) ≡ operation_at p lengths bytes at → stepped p bytes operation s ≡ Err f
    → ran p bytes (operations_from n p lengths bytes at) s ≡ total → total ≡ Err f
step_fails n p lengths bytes at next operation s f total h m read step so_far =
    sym so_far
    ∙ ap (λ (o : Operations). ran p bytes o s) (begun n p lengths bytes at h m)
    ∙ ap (λ (d : Result (Operation × ℕ) LineFault). ran p bytes (and_behind d (operations_from (n - 1) p lengths bytes)) s) (sym read)
    ∙ front_fails p bytes operation (operations_from (n - 1) p lengths bytes next) s f step

pub reading_fails : (n : ℕ) (p : Parameters) (lengths bytes : List ℕ) (at : ℕ) (s : State) (f : LineFault) (total : Result OpenUnit LineFault)
    → at < length bytes → length bytes ≤ n + at → Err f ≡ operation_at p lengths bytes at
    → ran p bytes (operations_from n p lengths bytes at) s ≡ total → total ≡ Err f
reading_fails n p lengths bytes at s f total h m read so_far =
    sym so_far
    ∙ ap (λ (o : Operations). ran p bytes o s) (begun n p lengths bytes at h m)
    ∙ ap (λ (d : Result (Operation × ℕ) LineFault). ran p bytes (and_behind d (operations_from (n - 1) p lengths bytes)) s) (sym read)
    ∙ none p bytes (Some f) s

past_end : (n : ℕ) (p : Parameters) (lengths bytes : List ℕ) (at : ℕ) → length bytes ≤ at → operations_from n p lengths bytes at ≡ no_operations
unfolding operations_from
past_end zero p lengths bytes at h = refl
past_end (suc n) p lengths bytes at h = rw (le-leb (length bytes) at h) refl

pub settles : (n : ℕ) (p : Parameters) (lengths bytes : List ℕ) (at : ℕ) (s : State) (total : Result OpenUnit LineFault)
    → length bytes ≤ at → ran p bytes (operations_from n p lengths bytes at) s ≡ total → total ≡ settled None s
settles n p lengths bytes at s total h so_far =
    sym so_far ∙ ap (λ (o : Operations). ran p bytes o s) (past_end n p lengths bytes at h) ∙ none p bytes None s

-- a step that fails ends the program with its fault
pub failed : (e : LineError) (n : ℕ) (p : Parameters) (lengths bytes : List ℕ) (at next : ℕ) (operation : Operation) (s : State) (rows kept : OpenUnit) (total : Result OpenUnit LineFault)
    → at < length bytes → length bytes ≤ n + at → Ok (operation, next) ≡ operation_at p lengths bytes at → Steps (Err e) (stepped p bytes operation s) rows
    → ran p bytes (operations_from n p lengths bytes at) s ≡ total → GivesRows (Err e) total kept
failed (Fault f) n p lengths bytes at next operation s rows kept total h m read step so_far = step_fails n p lengths bytes at next operation s f total h m read step so_far
failed NoMemory n p lengths bytes at next operation s rows kept total h m read step so_far = tt
