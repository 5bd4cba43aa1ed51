use Rattle.std.proofs.Common.{◌<◌, ◌≤◌, List, length, map, sym, subst, arith}
use Rattle.std.proofs.lemmas.List.{map_more, take_all}
use Rattle.line_rows.specs.Sections.{sections_shown}
use Rattle.line_headers.specs.declared.places.NamePlace.{NamePlace}
use Rattle.line_headers.specs.declared.places.NamePlace.TheVariants as place
use Rattle.dwarf_lines.specs.Met.{Meets}
use Rattle.dwarf_lines.specs.Names.{name_in}
use Rattle.dwarf_lines.proofs.Kept.{met_both, met_none}
use Rattle.dwarf_lines.proofs.met.push_files.Goals as goal

pub loop-place-init : goal.loop-place-init
loop-place-init c = met_none (sections_shown c.args.sections.now) c.args.met.now c.requires

pub push-requires : goal.push-requires
push-requires c = c.loop-place.invariant.met

pub loop-place-preserved : goal.loop-place-preserved
loop-place-preserved c =
    let s = sections_shown c.args.sections.now in
    let i = c.loop-place.place-index in
    let within : i < length c.args.files.now = omega arith in
    met_both s c.args.met.now c.loop-place.met c.push.new.met _ _ _ c.loop-place.invariant c.in_ok-push.ensures (sym (map_more (name_in s) c.args.files.now i place.Empty within))

pub returns : goal.returns
returns c =
    let s = sections_shown c.args.sections.now in
    let past = c.loop-place-test.false in
    let all : length c.args.files.now ≤ c.loop-place.place-index = omega (arith, past) in
    subst (λ (l : List NamePlace). Meets s c.args.met.now c.loop-place.met (map (name_in s) l)) (take_all c.loop-place.place-index c.args.files.now all) c.loop-place.invariant
