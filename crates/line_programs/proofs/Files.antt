-- The files of a program's rows are in the table of its unit.
use Rattle.std.proofs.Common.{◌≡◌, ◌<◌, ◌+◌, ◌-◌, ℕ, Bool, true, false, List, [], ◌∷◌, ◌++◌, length, Result, Ok, Err, Option, Some, None, refl, ap, subst, arith}
use Rattle.std.specs.Prelude.{All, nat_lt, if◌then◌else◌}
use Rattle.std.proofs.lemmas.Bool.Decides.{nat_tests}
use Rattle.std.proofs.lemmas.List.{length_push}
use Rattle.std.proofs.lemmas.List.Elements.{All-nil, All-push}
use Rattle.leb_read.specs.Leb.{text_at}
use Rattle.leb_read.specs.Reading.{◌>>=◌}
use Rattle.line_rows.specs.Reading.{read}
use Rattle.line_rows.specs.RowList.{OpenUnit, Sequence, ended_with, finished, last_address}
use Rattle.line_rows.specs.declared.row.Row.{Row}
use Rattle.line_rows.specs.declared.fault.LineFault.{LineFault}
use Rattle.line_rows.specs.declared.fault.LineFault.TheVariants.{File, Falls}
use Rattle.line_programs.specs.declared.operation.Operation.{Operation}
use Rattle.line_programs.specs.declared.operation.Operation.TheVariants.{Special, Copy, AdvancePc, AdvanceLine, SetFile, NegateStmt, ConstAddPc, FixedAdvancePc, SetPrologueEnd, EndSequence, SetAddress, DefineFile, Ignored}
use Rattle.line_programs.specs.declared.parameters.Parameters.{Parameters}
use Rattle.line_programs.specs.declared.registers.Registers.{Registers}
use Rattle.line_programs.specs.Operations.{operations_of}
use Rattle.line_programs.specs.Machine.{State, appended, defined, initial, is_file, moved, program_of, row_of, run, settled, shown, stepped}

abbrev pub InTable : Parameters → ℕ → Row → Type 0
InTable p defined r = r.file - p.first_file < p.file_count + defined

pub record AreFiles (p : Parameters) (u : OpenUnit) : Type 0 where
  pub sequences : All (λ s. All (InTable p (length u.names)) s.rows) u.sequences
  pub pending : All (InTable p (length u.names)) u.pending

-- by the two tests of a row
appended_by : (p : Parameters) (r : Registers) (u : OpenUnit) (s : State) (there falls : Bool) → is_file p (length u.names) r.file ≡ there → AreFiles p u
    → (if there then (if falls then Err Falls else Ok (shown r)) else Err File) >>= (λ row. Ok (record { registers = record r { prologue_end = false }; rows = record u { pending = u.pending ++ row ∷ [] } })) ≡ Ok s
    → AreFiles p s.rows
appended_by p r u s true false is h e =
    let new : OpenUnit = record u { pending = u.pending ++ shown r ∷ [] } in
    let row : InTable p (length u.names) (shown r) = grind (arith, nat_tests, is) in
    let all : AreFiles p new = record { sequences = h.sequences; pending = All-push (InTable p (length u.names)) u.pending (shown r) h.pending row } in
    subst (λ (v : OpenUnit). AreFiles p v) (ap rows_of e) all
  where
    rows_of : Result State LineFault → OpenUnit
    rows_of (Ok t) = t.rows
    rows_of (Err f) = u
appended_by p r u s true true is h e = absurd (cc)
appended_by p r u s false falls is h e = absurd (cc)

appended_in : (p : Parameters) (r : Registers) (u : OpenUnit) (s : State) → AreFiles p u → appended p r u ≡ Ok s → AreFiles p s.rows
appended_in p r u s h e = appended_by p r u s (is_file p (length u.names) r.file) (nat_lt r.address (last_address u.pending)) refl h e

ended_rows : (p : Parameters) (n : ℕ) (ss : List Sequence) (rows : List Row) (end : ℕ) → All (λ s. All (InTable p n) s.rows) ss → All (InTable p n) rows → All (λ s. All (InTable p n) s.rows) (ended_with ss rows end)
ended_rows p n ss [] end h g = h
ended_rows p n ss (r ∷ rows) end h g = All-push (λ (s : Sequence). All (InTable p n) s.rows) ss (record { rows = r ∷ rows; end = end }) h g

ended_by : (p : Parameters) (r : Registers) (u : OpenUnit) (s : State) (row : Result Row LineFault) → AreFiles p u
    → row >>= (λ row. Ok (record { registers = initial p; rows = record u { sequences = ended_with u.sequences u.pending row.address; pending = [] } })) ≡ Ok s
    → AreFiles p s.rows
ended_by p r u s (Ok row) h e =
    let new : OpenUnit = record u { sequences = ended_with u.sequences u.pending row.address; pending = [] } in
    let all : AreFiles p new = record { sequences = ended_rows p (length u.names) u.sequences u.pending row.address h.sequences h.pending; pending = All-nil (InTable p (length u.names)) } in
    subst (λ (v : OpenUnit). AreFiles p v) (ap rows_of e) all
  where
    rows_of : Result State LineFault → OpenUnit
    rows_of (Ok t) = t.rows
    rows_of (Err f) = u
ended_by p r u s (Err f) h e = absurd (cc)

-- a table that grows has what it had
more_in : (p : Parameters) (n : ℕ) (rows : List Row) → All (InTable p n) rows → All (InTable p (n + 1)) rows
more_in p n rows h k d within = omega (arith, h k d within)

defined_by : (p : Parameters) (s t : State) (name : Result (List ℕ × ℕ) LineFault) → AreFiles p s.rows
    → name >>= (λ name. Ok (record s { rows = record s.rows { names = s.rows.names ++ name.0 ∷ [] } })) ≡ Ok t → AreFiles p t.rows
defined_by p s t (Ok (name, next)) h e =
    let u = s.rows in
    let new : OpenUnit = record u { names = u.names ++ name ∷ [] } in
    let size : length u.names + 1 ≡ length (u.names ++ name ∷ []) = omega (arith, length_push u.names name) in
    let sequences : All (λ s. All (InTable p (length u.names + 1)) s.rows) u.sequences = λ k d within. more_in p (length u.names) _ (h.sequences k d within) in
    let all : AreFiles p new = record {
      sequences = subst (λ (n : ℕ). All (λ s. All (InTable p n) s.rows) u.sequences) size sequences;
      pending = subst (λ (n : ℕ). All (InTable p n) u.pending) size (more_in p (length u.names) u.pending h.pending);
    } in
    subst (λ (v : OpenUnit). AreFiles p v) (ap rows_of e) all
  where
    rows_of : Result State LineFault → OpenUnit
    rows_of (Ok t) = t.rows
    rows_of (Err f) = s.rows
defined_by p s t (Err f) h e = absurd (cc)

same_rows : (p : Parameters) (s t : State) (r : Registers) → AreFiles p s.rows → (let done : Result State LineFault = Ok (record s { registers = r }) in done ≡ Ok t) → AreFiles p t.rows
same_rows p s t r h e = subst (λ (v : OpenUnit). AreFiles p v) (ap rows_of e) h
  where
    rows_of : Result State LineFault → OpenUnit
    rows_of (Ok t) = t.rows
    rows_of (Err f) = s.rows

stepped_in : (p : Parameters) (bytes : List ℕ) (operation : Operation) (s t : State) → AreFiles p s.rows → stepped p bytes operation s ≡ Ok t → AreFiles p t.rows
stepped_in p bytes (Special k) s t h e = appended_in p (moved p (Special k) s.registers) s.rows t h e
stepped_in p bytes Copy s t h e = appended_in p s.registers s.rows t h e
stepped_in p bytes (AdvancePc n) s t h e = same_rows p s t (moved p (AdvancePc n) s.registers) h e
stepped_in p bytes (AdvanceLine n) s t h e = same_rows p s t (moved p (AdvanceLine n) s.registers) h e
stepped_in p bytes (SetFile n) s t h e = same_rows p s t (moved p (SetFile n) s.registers) h e
stepped_in p bytes NegateStmt s t h e = same_rows p s t (moved p NegateStmt s.registers) h e
stepped_in p bytes ConstAddPc s t h e = same_rows p s t (moved p ConstAddPc s.registers) h e
stepped_in p bytes (FixedAdvancePc n) s t h e = same_rows p s t (moved p (FixedAdvancePc n) s.registers) h e
stepped_in p bytes SetPrologueEnd s t h e = same_rows p s t (moved p SetPrologueEnd s.registers) h e
stepped_in p bytes EndSequence s t h e = ended_by p s.registers s.rows t (row_of p s.rows s.registers) h e
stepped_in p bytes (SetAddress n) s t h e = same_rows p s t (moved p (SetAddress n) s.registers) h e
stepped_in p bytes (DefineFile at) s t h e = defined_by p s t (read (text_at bytes at)) h e
stepped_in p bytes Ignored s t h e = same_rows p s t s.registers h e

run_by : (p : Parameters) (bytes : List ℕ) (rest : List Operation) (t : State) (mid : Result State LineFault) → ((m : State) → mid ≡ Ok m → run p bytes rest m ≡ Ok t → AreFiles p t.rows)
    → mid >>= run p bytes rest ≡ Ok t → AreFiles p t.rows
run_by p bytes rest t (Ok m) next e = next m refl e
run_by p bytes rest t (Err f) next e = absurd (cc)

-- one operation after another
run_in : (p : Parameters) (bytes : List ℕ) (operations : List Operation) (s t : State) → AreFiles p s.rows → run p bytes operations s ≡ Ok t → AreFiles p t.rows
unfolding run
run_in p bytes [] s t h e = same_rows p s t s.registers h e
run_in p bytes (operation ∷ rest) s t h e =
    run_by p bytes rest t (stepped p bytes operation s) (λ m is. run_in p bytes rest m t (stepped_in p bytes operation s m h is)) e

ran_by : (p : Parameters) (fault : Option LineFault) (total : Result State LineFault) (u : OpenUnit) → ((t : State) → total ≡ Ok t → AreFiles p t.rows) → total >>= settled fault ≡ Ok u → AreFiles p u
ran_by p None (Ok t) u h e =
    let all : AreFiles p (finished t.rows) = record { sequences = (h t refl).sequences; pending = All-nil (InTable p (length t.rows.names)) } in
    subst (λ (v : OpenUnit). AreFiles p v) (ap unit_of e) all
  where
    unit_of : Result OpenUnit LineFault → OpenUnit
    unit_of (Ok v) = v
    unit_of (Err f) = u
ran_by p (Some f) (Ok t) u h e = absurd (cc)
ran_by p fault (Err f) u h e = absurd (cc)

-- the files of all rows of a program are in the table
pub program_in_table : (p : Parameters) (lengths bytes : List ℕ) (at : ℕ) (u : OpenUnit) → program_of p lengths bytes at ≡ Ok u → AreFiles p u
unfolding program_of
program_in_table p lengths bytes at u e =
    let operations = operations_of p lengths bytes at in
    let start : State = record { registers = initial p; rows = record { sequences = []; pending = []; names = [] } } in
    let none : AreFiles p start.rows = record { sequences = All-nil (λ (s : Sequence). All (InTable p 0) s.rows); pending = All-nil (InTable p 0) } in
    ran_by p operations.fault (run p bytes operations.list start) u (λ t is. run_in p bytes operations.list start t none is) e
