-- The steps from unit to unit.
use Rattle.std.proofs.Common.{◌≡◌, ℕ, ◌+◌, ◌-◌, ◌<◌, ◌≤◌, List, [], length, arith, ◌∙◌, ap, sym}
use Rattle.std.specs.Prelude.{◌∷◌, ◌++◌, Err, Ok}
use Rattle.line_rows.specs.declared.fault.LineFault.{LineFault}
use Rattle.line_rows.specs.Sections.{Sections}
use Rattle.line_headers.specs.Texts.{Texts, texts_in}
use Rattle.line_rows.specs.RowList.{Building, RowList, no_rows, nothing_built, nothing_open}
use Rattle.dwarf_lines.specs.Adding.{add_result, add_units, added, named}
use Rattle.dwarf_lines.specs.Met.{AreMet, names_met}
use Rattle.dwarf_lines.specs.declared.met.MetNames.{MetNames}
use Rattle.dwarf_lines.specs.Rows.{rows_in, up_to}
use Rattle.dwarf_lines.specs.Units.{Unit, unit_end, units_from}
use Rattle.dwarf_lines.proofs.Places.{units_at, units_behind}

-- what is built from some rows on by the units from a place on
abbrev pub behind : Sections → RowList → ℕ → RowList
behind s rows at = add_units s (units_from (length s.line - at) s.line at) rows

-- before the first unit
pub begins : (s : Sections) (first : RowList) → first ≡ no_rows → behind s first 0 ≡ added s
unfolding added
begins s first start =
    let whole : length s.line - 0 ≡ length s.line = omega arith in
    ap (λ (r : RowList). behind s r 0) start ∙ ap (λ (n : ℕ). add_units s (units_from n s.line 0) no_rows) whole

-- nothing is built yet where there are no rows and no names
pub none_named : (met : MetNames) (rows : Building) → rows ≡ nothing_built → names_met met ≡ [] → named rows met ≡ no_rows
none_named met rows none empty =
    ap (λ (r : Building). named r met) none ∙ ap (λ (l : List (List ℕ)). record no_rows { names = l }) empty

-- behind a unit
pub goes_on : (s unit : Sections) (texts : Texts) (at end : ℕ) (old new : RowList) → at < length s.line → at + 4 ≤ end → Ok end ≡ unit_end s.line at → texts ≡ texts_in s → unit ≡ up_to end s
    → new ≡ add_result at old (rows_in texts unit (at + 4)) → behind s new end ≡ behind s old at
goes_on s unit texts at end old new h after e same narrow is =
    let given : Texts → Sections → RowList = λ t u. add_result at old (rows_in t u (at + 4)) in
    let now : new ≡ given (texts_in s) (up_to end s) = is ∙ ap (given texts) narrow ∙ ap (λ (t : Texts). given t (up_to end s)) same in
    ap (λ (b : RowList). behind s b end) now
    ∙ ap (λ (us : List Unit). add_units s us (given (texts_in s) (up_to end s))) (sym (units_behind s.line at end h after))
    ∙ ap (λ (us : List Unit). add_units s us old) (sym (units_at s.line at (Ok end) h (sym e)))

-- a unit whose end can't be told is the last
pub stopped : (s : Sections) (at : ℕ) (f : LineFault) (met : MetNames) (old pushed : Building) → at < length s.line → Err f ≡ unit_end s.line at
    → pushed ≡ record old { faults = old.faults ++ record { offset = at; fault = f } ∷ []; unit = nothing_open } → named pushed met ≡ behind s (named old met) at
stopped s at f met old pushed h e push_is =
    ap (λ (r : Building). named r met) push_is ∙ ap (λ (us : List Unit). add_units s us (named old met)) (sym (units_at s.line at (Err f) h (sym e)))

-- behind the last unit
pub ended : (s : Sections) (at : ℕ) (rows : RowList) → length s.line ≤ at → rows ≡ behind s rows at
ended s at rows past = let none : length s.line - at ≡ 0 = omega arith in ap (λ (n : ℕ). add_units s (units_from n s.line at) rows) (sym none)

-- the names don't hang on where a unit ends
pub met_within : (s unit : Sections) (end : ℕ) (met : MetNames) → unit ≡ up_to end s → AreMet s met → AreMet unit met
met_within s unit end met is h =
    record {
      texts_end = h.texts_end;
      within = h.within;
      in_line_str = rw (ap (λ (t : Sections). t.line_str) is) h.in_line_str;
      in_strs = rw (ap (λ (t : Sections). t.strs) is) h.in_strs;
    }

pub met_around : (s unit : Sections) (end : ℕ) (met : MetNames) → unit ≡ up_to end s → AreMet unit met → AreMet s met
met_around s unit end met is h =
    record {
      texts_end = h.texts_end;
      within = h.within;
      in_line_str = rw (sym (ap (λ (t : Sections). t.line_str) is)) h.in_line_str;
      in_strs = rw (sym (ap (λ (t : Sections). t.strs) is)) h.in_strs;
    }
