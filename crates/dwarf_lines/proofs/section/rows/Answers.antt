use Rattle.std.proofs.Common.{◌≡◌, ◌∙◌, ℕ, List, map, ap, sym}
use Rattle.line_rows.specs.RowList.{Building, mapped, renumbered}
use Rattle.line_rows.specs.Sections.{sections_shown}
use Rattle.file_names.specs.Numbers.{distinct, names_at, number_of}
use Rattle.dwarf_lines.specs.Met.{names_met}
use Rattle.dwarf_lines.proofs.Placed.{closed, declared}
use Rattle.dwarf_lines.proofs.Sections.{none_named}
use Rattle.dwarf_lines.proofs.section.rows.Goals as goal

pub add_units-requires-clause-begins : goal.add_units-requires-clause-begins
add_units-requires-clause-begins c = none_named c.no_names-met.result _ c.new-rows.ensures c.no_names-met.ensures.names

pub add_units-requires-clause-met : goal.add_units-requires-clause-met
add_units-requires-clause-met c = c.no_names-met.ensures.met (sections_shown c.args.sections.now)

pub returns : goal.returns
returns c =
    let rows = c.add_units.new.rows in
    let met = names_met c.add_units.new.met in
    let names = c.in_ok-numbered.numbered.names.names in
    let numbers = c.in_ok-numbered.numbered.numbers.items in
    let given : names_at c.deref.result.now c.deref-2.result.now ≡ met =
    ap (λ (t : List ℕ). names_at t c.deref-2.result.now) c.deref.ensures.value ∙ ap (λ (p : List ℕ). names_at c.add_units.new.met.texts.items p) c.deref-2.ensures.value in
    let once : names ≡ distinct met = c.in_ok-numbered.ensures.names ∙ ap distinct given in
    let each : numbers ≡ map (number_of (distinct met)) met = c.in_ok-numbered.ensures.numbers ∙ ap (λ (l : List (List ℕ)). map (number_of (distinct l)) l) given in
    let by_names : map (number_of (distinct met)) met ≡ map (number_of names) met = ap (λ (l : List (List ℕ)). map (number_of l) met) (sym once) in
    c.finish.ensures
    ∙ ap (λ (b : Building). closed b.kept names b.faults) c.renumber.ensures
    ∙ ap (λ (l : List ℕ). closed (map (mapped (renumbered l)) rows.kept) names rows.faults) c.deref-3.ensures.value
    ∙ declared (sections_shown c.args.sections.now) rows met names numbers c.in_ok-add_units.ensures.same once (each ∙ by_names) c.in_ok-numbered.ensures.few
