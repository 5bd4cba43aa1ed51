use Rattle.std.proofs.Common.{◌≡◌, ◌++◌, [], Ok, Some, rules, sym}
use Rattle.std.specs.Option.{option_map}
use Rattle.dwarf_frames.specs.Entries.{entries, fde_of}
use Rattle.dwarf_frames.specs.Gives.{seen_fde}
use Rattle.dwarf_frames.specs.Index.{fde_ranges, first_fault}
use Rattle.dwarf_frames.proofs.Kept.{fault_here, fdes_here, is_read, list_start, no_fault_here}
use Rattle.dwarf_frames.proofs.Walk.{reaches_break, reaches_found, reaches_next, reaches_start}
use Rattle.dwarf_frames.proofs.fdes.fdes_of.Goals as goal

pub loop-at-init : goal.loop-at-init
loop-at-init c =
    let section = c.args.section.now in
    let empty : c.new-ranges.result.items ≡ [] = search rules in
    record { ranges = list_start fde_ranges c.new-ranges.result.items section empty; fault = reaches_start first_fault section }

pub returns-in-Err-clause-fault : goal.returns-in-Err-clause-fault
returns-in-Err-clause-fault c =
    sym (reaches_break (first_fault (entries c.args.section.now)) first_fault c.args.section.now c.loop-at.at c.in-Err.fault c.loop-at-test.true c.in-Err.ensures.value c.loop-at.invariant.fault)

pub returns-in-Err-fde_of-clause-fault : goal.returns-in-Err-fde_of-clause-fault
returns-in-Err-fde_of-clause-fault c =
    let body = c.in-Ok.entry.0.now in
    sym (reaches_found (first_fault (entries c.args.section.now)) first_fault (Some c.in-Err-fde_of.fault) c.args.section.now body c.loop-at.at c.in-Ok.entry.1 c.loop-at-test.true c.in-Ok.ensures.value
    (fault_here c.loop-at.at body c.in-Err-fde_of.fault c.in-Err-fde_of.ensures) c.loop-at.invariant.fault)

pub loop-at-preserved : goal.loop-at-preserved
loop-at-preserved c =
    let section = c.args.section.now in
    let body = c.in-Ok.entry.0.now in
    let at = c.loop-at.at in
    let next = c.in-Ok.entry.1 in
    let read : fde_of body ≡ Ok (option_map seen_fde c.in-Ok-fde_of.fde) = is_read c.in-Ok-fde_of.fde (fde_of body) c.in-Ok-fde_of.ensures in
    record {
      ranges = reaches_next (fde_ranges (entries section)) (λ rest. c.loop-at.ranges.items ++ fde_ranges rest)
          (λ rest. c.push_fde.new.ranges.items ++ fde_ranges rest) section body at next c.loop-at-test.true c.in-Ok.ensures.within.behind c.in-Ok.ensures.value
          (fdes_here c.loop-at.ranges.items c.push_fde.new.ranges.items at body (option_map seen_fde c.in-Ok-fde_of.fde) read c.in_ok-push_fde.ensures) c.loop-at.invariant.ranges;
      fault = reaches_next (first_fault (entries section)) first_fault first_fault section body at next c.loop-at-test.true c.in-Ok.ensures.within.behind c.in-Ok.ensures.value
          (no_fault_here at body (option_map seen_fde c.in-Ok-fde_of.fde) read) c.loop-at.invariant.fault;
    }
