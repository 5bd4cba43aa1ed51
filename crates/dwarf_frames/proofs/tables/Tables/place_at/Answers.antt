use Rattle.std.proofs.Common.{◌≡◌, Option, None, Some, refl, sym}
use Rattle.dwarf_frames.specs.Entries.{entries}
use Rattle.dwarf_frames.specs.Index.{first_fault}
use Rattle.dwarf_frames.specs.declared.fault.FrameFault.{FrameFault}
use Rattle.dwarf_frames.proofs.Covering.{told_by}
use Rattle.dwarf_frames.proofs.tables.Tables.place_at.Goals as goal

pub returns-in-Some-default : goal.returns-in-Some-default
returns-in-Some-default c =
    let i = c.self.inside in
    told_by c.args.pc c.from.result c.args.self.now i.section.items c.args.self.now c.deref.result.now i.fdes.items i.fault (Some c.in-Some-default.place)
    (sym c.self.view_is) c.self.view_is c.self.invariant.fdes c.self.invariant.fault c.deref.ensures.value c.from.ensures c.in-Some-default.ensures

pub returns-in-None-Some : goal.returns-in-None-Some
returns-in-None-Some c =
    let i = c.self.inside in
    let fault : Some c.in-None-Some.fault ≡ first_fault (entries i.section.items) = cc (c.self.invariant.fault) in
    told_by c.args.pc c.from.result i.section.items i.section.items c.args.self.now c.deref.result.now i.fdes.items (Some c.in-None-Some.fault) None
    refl c.self.view_is c.self.invariant.fdes fault c.deref.ensures.value c.from.ensures c.in-None-Some.ensures

pub returns-in-None-None : goal.returns-in-None-None
returns-in-None-None c =
    let i = c.self.inside in
    let nothing : Option FrameFault = None in
    let fault : nothing ≡ first_fault (entries i.section.items) = cc (c.self.invariant.fault) in
    told_by c.args.pc c.from.result i.section.items i.section.items c.args.self.now c.deref.result.now i.fdes.items nothing None
    refl c.self.view_is c.self.invariant.fdes fault c.deref.ensures.value c.from.ensures c.in-None-None.ensures
