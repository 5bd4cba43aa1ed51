-- The rows of all units, added one after another, are those that `rows_of` says at once.
use Rattle.std.proofs.Common.{◌≡◌, ℕ, ◌+◌, ◌-◌, ◌%◌, ◌<◌, ◌≤◌, ◌^◌, List, [], ◌∷◌, ◌++◌, length, map, refl, ◌∙◌, ap, sym, subst, append_assoc, append-nil, arith, get_or}
use Rattle.std.specs.Prelude.{flat_map, All, Result, Ok, Err}
use Rattle.std.proofs.Math.Nat.{mod-eq_of_lt}
use Rattle.std.proofs.lemmas.List.{length-append, length-map, map-append, get_or_append_left, get_or-append_right}
use Rattle.std.proofs.lemmas.List.Elements.{All-append, All-cons, All-head, All-nil, All-tail}
use Rattle.line_rows.specs.Reading.{Reading}
use Rattle.line_rows.specs.RowList.{Building, OpenUnit, RowList, Sequence, mapped, nothing_open, placed, renumbered}
use Rattle.line_rows.specs.Sections.{Sections}
use Rattle.line_rows.specs.declared.row.Row.{Row}
use Rattle.line_rows.specs.declared.fault.LineFault.{LineFault}
use Rattle.line_rows.specs.declared.fault.UnitFault.{UnitFault}
use Rattle.line_headers.specs.Header.{header_at}
use Rattle.line_headers.specs.Texts.{Texts, texts_in}
use Rattle.line_headers.specs.declared.header.Header.{Header}
use Rattle.line_headers.specs.declared.places.NamePlace.{NamePlace}
use Rattle.line_programs.proofs.Files.{program_in_table}
use Rattle.file_names.specs.Numbers.{distinct, number_of}
use Rattle.leb_read.specs.Leb.{text_from}
use Rattle.dwarf_lines.specs.Adding.{Adds, add_result, add_unit, add_units, added, named}
use Rattle.dwarf_lines.specs.Met.{Meets, names_met}
use Rattle.dwarf_lines.specs.Names.{name_in}
use Rattle.dwarf_lines.specs.Numbers.{UnitRows, numbered, numbered_sequences}
use Rattle.dwarf_lines.specs.Rows.{behind_header, fault_given, lengths_in, names_read, parameters_of, program_in, read_units, rows_given, rows_in, rows_of, unit_of, unit_rows, up_to, within_end}
use Rattle.dwarf_lines.specs.Units.{Unit, units_of}
use Rattle.dwarf_lines.specs.declared.met.MetNames.{MetNames}

abbrev pub closed : List Sequence → List (List ℕ) → List UnitFault → RowList
closed sequences names faults = record { sequences = sequences; names = names; faults = faults }

abbrev placed_unit : List (List ℕ) → UnitRows → List Sequence
placed_unit before u = map (mapped (placed (length before) u.first)) u.sequences

-- the sequences of units behind files with these names
abbrev pub placed_units : List (List ℕ) → List UnitRows → List Sequence
placed_units names [] = []
placed_units names (u ∷ us) = placed_unit names u ++ placed_units (names ++ u.names) us

abbrev pub all_names : List UnitRows → List (List ℕ)
all_names us = flat_map (λ u. u.names) us

unit_added : (unit : UnitRows) (done : List Sequence) (names : List (List ℕ)) (faults : List UnitFault) → add_unit unit (closed done names faults) ≡ closed (done ++ placed_unit names unit) (names ++ unit.names) faults
unfolding add_unit
unit_added unit done names faults = refl

abbrev given : Sections → List Unit → List UnitRows
given s units = flat_map (λ u. rows_given (unit_of s u)) units

abbrev blamed : Sections → List Unit → List UnitFault
blamed s units = flat_map (λ u. fault_given u.place (unit_of s u)) units

-- what is built of some units is what they give
abbrev AreAdded : Sections → List Unit → Type 0
AreAdded s units = (done : List Sequence) (names : List (List ℕ)) (faults : List UnitFault)
    → add_units s units (closed done names faults) ≡ closed (done ++ placed_units names (given s units)) (names ++ all_names (given s units)) (faults ++ blamed s units)

result_by : (s : Sections) (done : List Sequence) (names : List (List ℕ)) (faults : List UnitFault) (place : ℕ) (units : List Unit) (result : Result UnitRows LineFault) → AreAdded s units
    → add_units s units (add_result place (closed done names faults) result)
    ≡ closed (done ++ placed_units names (rows_given result ++ given s units)) (names ++ all_names (rows_given result ++ given s units)) (faults ++ (fault_given place result ++ blamed s units))
result_by s done names faults place units (Ok unit) rest =
    let mine = placed_unit names unit in
    let behind = given s units in
    ap (add_units s units) (unit_added unit done names faults)
    ∙ rest (done ++ mine) (names ++ unit.names) faults
    ∙ ap (λ (l : List Sequence). closed l (names ++ unit.names ++ all_names behind) (faults ++ blamed s units)) (append_assoc done mine (placed_units (names ++ unit.names) behind))
    ∙ ap (λ (l : List (List ℕ)). closed (done ++ (mine ++ placed_units (names ++ unit.names) behind)) l (faults ++ blamed s units)) (append_assoc names unit.names (all_names behind))
result_by s done names faults place units (Err f) rest =
    rest done names (faults ++ record { offset = place; fault = f } ∷ [])
    ∙ ap (λ (l : List UnitFault). closed (done ++ placed_units names (given s units)) (names ++ all_names (given s units)) l) (append_assoc faults (record { offset = place; fault = f } ∷ []) (blamed s units))

units_added : (s : Sections) (units : List Unit) → AreAdded s units
units_added s [] done names faults =
    ap (λ (l : List Sequence). closed l names faults) (sym (append-nil done))
    ∙ ap (λ (l : List UnitFault). closed (done ++ []) names l) (sym (append-nil faults))
    ∙ ap (λ (l : List (List ℕ)). closed (done ++ []) l (faults ++ [])) (sym (append-nil names))
units_added s (u ∷ units) done names faults = result_by s done names faults u.place units (unit_of s u) (units_added s units)

all_added : (s : Sections) → added s ≡ closed (placed_units [] (read_units s)) (all_names (read_units s)) (blamed s (units_of s.line))
unfolding added
all_added s = units_added s (units_of s.line) [] [] []

-- each row's file is in the table of its unit
abbrev AreOwn : ℕ → ℕ → List Row → Type 0
AreOwn first count rows = All (λ r. r.file - first < count) rows

abbrev IsOwn : UnitRows → Type 0
IsOwn u = All (λ s. AreOwn u.first (length u.names) s.rows) u.sequences

own_by : (s : Sections) (header : Header) (files : List NamePlace) (unit : UnitRows) (program : Result OpenUnit LineFault) → program_in header (length files) s.line ≡ program
    → unit_rows header (map (name_in s) files) program ≡ Ok unit → IsOwn unit
unfolding program_in
own_by s header files unit (Ok rows) is e =
    let cut : List ℕ → List ℕ = λ (name : List ℕ). text_from name 0 in
    let here : UnitRows = record { names = map (name_in s) files ++ map cut rows.names; first = header.first_file; sequences = rows.sequences } in
    let table = program_in_table (parameters_of header (length files)) (lengths_in s.line header) s.line header.program rows is in
    let size : length files + length rows.names ≡ length here.names =
    omega (arith, length-append (map (name_in s) files) (map cut rows.names), length-map files (name_in s), length-map rows.names cut) in
    let own : IsOwn here = subst (λ (n : ℕ). All (λ s. AreOwn header.first_file n s.rows) rows.sequences) size table.sequences in
    subst IsOwn (ap unit_is e) own
  where
    unit_is : Result UnitRows LineFault → UnitRows
    unit_is (Ok u) = u
    unit_is (Err f) = unit
own_by s header files unit (Err f) is e = absurd (cc)

own_behind : (s : Sections) (unit : UnitRows) (header : Reading (Header × List NamePlace)) → behind_header s header ≡ Ok unit → IsOwn unit
own_behind s unit (Ok ((header, files), next)) e = own_by s header files unit (program_in header (length files) s.line) refl e
own_behind s unit (Err f) e = absurd (cc)

own_in : (texts : Texts) (s : Sections) (at : ℕ) (unit : UnitRows) → rows_in texts s at ≡ Ok unit → IsOwn unit
unfolding rows_in
own_in texts s at unit e = own_behind s unit (header_at texts s.line at) e

own_within : (s : Sections) (place : ℕ) (end : Result ℕ LineFault) (unit : UnitRows) → within_end end (λ end. rows_in (texts_in s) (up_to end s) (place + 4)) ≡ Ok unit → IsOwn unit
own_within s place (Ok end) unit e = own_in (texts_in s) (up_to end s) (place + 4) unit e
own_within s place (Err f) unit e = absurd (cc)

own_result : (result : Result UnitRows LineFault) → ((unit : UnitRows) → result ≡ Ok unit → IsOwn unit) → All IsOwn (rows_given result)
own_result (Ok unit) own = All-cons IsOwn unit [] (own unit refl) (All-nil IsOwn)
own_result (Err f) own = All-nil IsOwn

own_given : (s : Sections) (units : List Unit) → All IsOwn (given s units)
own_given s [] = All-nil IsOwn
own_given s (u ∷ units) =
    All-append IsOwn (rows_given (unit_of s u)) (given s units) (own_result (unit_of s u) (λ unit e. own_within s u.place u.end unit e)) (own_given s units)

-- the number that stands where a file of a unit does
place_by : (f : List ℕ → ℕ) (before mine behind : List (List ℕ)) (k : ℕ) → length (before ++ (mine ++ behind)) < 2 ^ 32 → k < length mine
    → get_or (map f (before ++ (mine ++ behind))) ((length before + k) % 2 ^ 32) 0 ≡ get_or (map f mine) k 0
place_by f before mine behind k few below =
    let at : length before ≤ length before + k = omega arith in
    let low : length before + k < 2 ^ 32 = omega (arith, few, below, length-append before (mine ++ behind), length-append mine behind) in
    let size : length (map f before) ≡ length before = length-map before f in
    let own : length (map f mine) ≡ length mine = length-map mine f in
    let left : length before + k - length before ≡ k = omega arith in
    ap (λ (n : ℕ). get_or (map f (before ++ (mine ++ behind))) n 0) (mod-eq_of_lt low)
    ∙ ap (λ (l : List ℕ). get_or l (length before + k) 0) (map-append f before (mine ++ behind))
    ∙ get_or-append_right (map f before) (map f (mine ++ behind)) (length before) (length before + k) 0 size at
    ∙ ap (λ (n : ℕ). get_or (map f (mine ++ behind)) n 0) left
    ∙ ap (λ (l : List ℕ). get_or l k 0) (map-append f mine behind)
    ∙ get_or_append_left (map f mine) (map f behind) 0 k (omega (arith, below, own))

-- rows in one list of all names, and with the numbers of their names
abbrev Few : List (List ℕ) → Type 0
Few all = length all < 2 ^ 32

rows_numbered : (all names before behind : List (List ℕ)) (u : UnitRows) (rs : List Row) → Few all → all ≡ before ++ (u.names ++ behind) → AreOwn u.first (length u.names) rs
    → map (renumbered (map (number_of names) all)) (map (placed (length before) u.first) rs) ≡ map (numbered names u) rs
rows_numbered all names before behind u [] few e own = refl
rows_numbered all names before behind u (r ∷ rs) few e own =
    let k = r.file - u.first in
    let there : get_or (map (number_of names) all) ((length before + k) % 2 ^ 32) 0 ≡ get_or (map (number_of names) u.names) k 0 =
    ap (λ (l : List (List ℕ)). get_or (map (number_of names) l) ((length before + k) % 2 ^ 32) 0) e
    ∙ place_by (number_of names) before u.names behind k (subst (λ (l : List (List ℕ)). Few l) e few) (All-head (λ r. r.file - u.first < length u.names) r rs own) in
    let rest = rows_numbered all names before behind u rs few e (All-tail (λ r. r.file - u.first < length u.names) r rs own) in
    rw (there, rest) refl

sequences_numbered : (all names before behind : List (List ℕ)) (u : UnitRows) (ss : List Sequence) → Few all → all ≡ before ++ (u.names ++ behind) → All (λ s. AreOwn u.first (length u.names) s.rows) ss
    → map (mapped (renumbered (map (number_of names) all))) (map (mapped (placed (length before) u.first)) ss) ≡ map (mapped (numbered names u)) ss
sequences_numbered all names before behind u [] few e own = refl
sequences_numbered all names before behind u (s ∷ ss) few e own =
    let here = rows_numbered all names before behind u s.rows few e (All-head (λ s. AreOwn u.first (length u.names) s.rows) s ss own) in
    let rest = sequences_numbered all names before behind u ss few e (All-tail (λ s. AreOwn u.first (length u.names) s.rows) s ss own) in
    rw (here, rest) refl

units_numbered : (all names before : List (List ℕ)) (us : List UnitRows) → Few all → all ≡ before ++ all_names us → All IsOwn us
    → map (mapped (renumbered (map (number_of names) all))) (placed_units before us) ≡ flat_map (numbered_sequences names) us
units_numbered all names before [] few e own = refl
units_numbered all names before (u ∷ us) few e own =
    let change = mapped (renumbered (map (number_of names) all)) in
    let here = sequences_numbered all names before (all_names us) u u.sequences few e (All-head IsOwn u us own) in
    let rest = units_numbered all names (before ++ u.names) us few (e ∙ sym (append_assoc before u.names (all_names us))) (All-tail IsOwn u us own) in
    map-append change (placed_unit before u) (placed_units (before ++ u.names) us)
    ∙ ap (λ (l : List Sequence). l ++ map change (placed_units (before ++ u.names) us)) here
    ∙ ap (λ (l : List Sequence). numbered_sequences names u ++ l) rest

-- the rows that were added, with the numbers of their names
pub declared : (s : Sections) (rows : Building) (met names : List (List ℕ)) (numbers : List ℕ) → closed rows.kept met rows.faults ≡ added s → names ≡ distinct met → numbers ≡ map (number_of names) met → length numbers < 2 ^ 32
    → closed (map (mapped (renumbered numbers)) rows.kept) names rows.faults ≡ rows_of s
unfolding rows_of
declared s rows met names numbers built once each few =
    let are : closed rows.kept met rows.faults ≡ closed (placed_units [] (read_units s)) (all_names (read_units s)) (blamed s (units_of s.line)) = built ∙ all_added s in
    let sequences : rows.kept ≡ placed_units [] (read_units s) = ap (λ (b : RowList). b.sequences) are in
    let faults : rows.faults ≡ blamed s (units_of s.line) = ap (λ (b : RowList). b.faults) are in
    let all : met ≡ all_names (read_units s) = ap (λ (b : RowList). b.names) are in
    let names_are : names ≡ names_read s = once ∙ ap distinct all in
    let size : length met ≡ length numbers = sym (length-map met (number_of names)) ∙ sym (ap length each) in
    let low : Few met = omega (arith, size, few) in
    let numbered_all : map (mapped (renumbered numbers)) rows.kept ≡ flat_map (numbered_sequences names) (read_units s) =
    ap (λ (l : List Sequence). map (mapped (renumbered numbers)) l) sequences
    ∙ ap (λ (l : List ℕ). map (mapped (renumbered l)) (placed_units [] (read_units s))) each
    ∙ units_numbered met names [] (read_units s) low all (own_given s (units_of s.line)) in
    rw (numbered_all, names_are, faults) refl

-- a unit whose rows were built is added, with its names behind the others
pub unit_built : (s : Sections) (unit : UnitRows) (headers defined : List (List ℕ)) (count first : ℕ) (old new : Building) (before mid after : MetNames) → unit.names ≡ headers ++ defined
    → Meets s before mid headers → Meets s mid after defined
    → count ≡ length before.places.items → first ≡ unit.first → new ≡ record { kept = old.kept ++ map (mapped (placed count first)) unit.sequences; faults = old.faults; unit = nothing_open }
    → Adds (add_unit unit (named old before)) s after new
unfolding add_unit
unit_built s unit headers defined count first old new before mid after names_are meets_headers meets_defined count_is first_is is =
    let size : length (names_met before) ≡ length before.places.items = length-map before.places.items (text_from before.texts.items) in
    let names : names_met after ≡ names_met before ++ unit.names =
    meets_defined.names ∙ ap (λ (l : List (List ℕ)). l ++ defined) meets_headers.names ∙ append_assoc (names_met before) headers defined ∙ ap (λ (l : List (List ℕ)). names_met before ++ l) (sym names_are) in
    let base : count ≡ length (names_met before) = count_is ∙ sym size in
    let sequences : old.kept ++ map (mapped (placed count first)) unit.sequences ≡ old.kept ++ placed_unit (names_met before) unit =
    ap (λ (n : ℕ). old.kept ++ map (mapped (placed n first)) unit.sequences) base ∙ ap (λ (n : ℕ). old.kept ++ map (mapped (placed (length (names_met before)) n)) unit.sequences) first_is in
    record {
      same = ap (λ (b : Building). named b after) is ∙ ap (λ (l : List (List ℕ)). closed (old.kept ++ map (mapped (placed count first)) unit.sequences) l old.faults) names
          ∙ ap (λ (l : List Sequence). closed l (names_met before ++ unit.names) old.faults) sequences;
      kept = meets_defined.met;
      closed = ap (λ (b : Building). b.unit) is;
    }
