use Rattle.std.proofs.Common.{◌≡◌, ◌<◌, ◌≤◌, ◌∙◌, ℕ, List, [], ◌∷◌, ◌++◌, length, map, take, ap, sym, subst, get_or, arith}
use Rattle.std.proofs.lemmas.List.{map_more, take_all}
use Rattle.std.proofs.lemmas.Option.{get_or_from_slice_get}
use Rattle.leb_read.specs.Leb.{text_from}
use Rattle.line_rows.specs.Sections.{sections_shown}
use Rattle.dwarf_lines.specs.Met.{Meets}
use Rattle.dwarf_lines.proofs.Kept.{met_both, met_none}
use Rattle.dwarf_lines.proofs.met.push_defined.Goals as goal

pub loop-k-init : goal.loop-k-init
loop-k-init c = met_none (sections_shown c.args.sections.now) c.args.met.now c.requires

pub push_name-requires : goal.push_name-requires
push_name-requires c = c.loop-k.invariant.met

pub loop-k-preserved : goal.loop-k-preserved
loop-k-preserved c =
    let s = sections_shown c.args.sections.now in
    let names = c.args.rows.now.unit.names in
    let cut : List ℕ → List ℕ = λ (name : List ℕ). text_from name 0 in
    let within : c.loop-k.k < length names = omega arith in
    let here : get_or names c.loop-k.k [] ≡ c.name.result.now = get_or_from_slice_get names c.loop-k.k c.name.result.now [] c.name.ensures in
    met_both s c.args.met.now c.loop-k.met c.push_name.new.met _ _ _ c.loop-k.invariant c.in_ok-push_name.ensures
    (ap (λ (n : List ℕ). map cut (take c.loop-k.k names) ++ cut n ∷ []) (sym here) ∙ sym (map_more cut names c.loop-k.k [] within))

pub returns : goal.returns
returns c =
    let s = sections_shown c.args.sections.now in
    let past = c.loop-k-test.false in
    let all : length c.args.rows.now.unit.names ≤ c.loop-k.k = omega (arith, past) in
    subst (λ (l : List (List ℕ)). Meets s c.args.met.now c.loop-k.met (map (λ name. text_from name 0) l)) (take_all c.loop-k.k c.args.rows.now.unit.names all) c.loop-k.invariant
