use Rattle.std.proofs.Common.{◌≡◌, ◌++◌, [], rules}
use Rattle.dwarf_frames.specs.Entries.{entries}
use Rattle.dwarf_frames.specs.Index.{cie_places}
use Rattle.dwarf_frames.proofs.Kept.{cies_here, list_start}
use Rattle.dwarf_frames.proofs.Places.{rise_more, rise_none}
use Rattle.dwarf_frames.proofs.Walk.{reaches_next}
use Rattle.dwarf_frames.proofs.cies.cie_places.Goals as goal

pub loop-at-init : goal.loop-at-init
loop-at-init c =
    let empty : c.new-places.result.items ≡ [] = search rules in
    record { places = list_start cie_places c.new-places.result.items c.args.section.now empty; rise = rise_none c.new-places.result.items empty }

pub loop-at-preserved : goal.loop-at-preserved
loop-at-preserved c =
    let section = c.args.section.now in
    let body = c.in-Ok.body.now in
    let items = c.loop-at.places.items in
    let more = c.push_cie.new.places.items in
    record {
      places = reaches_next (cie_places (entries section)) (λ rest. items ++ cie_places rest) (λ rest. more ++ cie_places rest) section body c.loop-at.at c.in-Ok.next c.loop-at-test.true c.in-Ok.ensures.within.behind c.in-Ok.ensures.value
          (cies_here items more c.loop-at.at body c.in_ok-push_cie.ensures) c.loop-at.invariant.places;
      rise = rise_more items body more c.loop-at.at c.in-Ok.next c.in-Ok.ensures.within.behind c.in_ok-push_cie.ensures c.loop-at.invariant.rise;
    }
