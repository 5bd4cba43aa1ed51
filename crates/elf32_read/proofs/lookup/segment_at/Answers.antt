use Rattle.std.proofs.Common.{sym, rules, ◌<◌, length}
use Rattle.elf32_read.specs.declared.header.ProgramHeader.{ProgramHeader}
use Rattle.elf32_read.proofs.Found.{numbered_some, numbered_none}
use Rattle.elf32_read.proofs.lookup.segment_at.Goals as goal

pub offset_bounds-segments-k : goal.offset_bounds-segments-k
offset_bounds-segments-k c =
    let found = numbered_some (λ (h : ProgramHeader). h.address) (λ (h : ProgramHeader). h.memory_size) c.args.segments.now c.args.sorted.now c.args.addr c.in-Some.k c.requires c.in-Some.ensures in
    let lt : c.in-Some.k < length c.args.segments.now = found.within in
    search rules

pub bounds-segments-k : goal.bounds-segments-k
bounds-segments-k c = (numbered_some (λ (h : ProgramHeader). h.address) (λ (h : ProgramHeader). h.memory_size) c.args.segments.now c.args.sorted.now c.args.addr c.in-Some.k c.requires c.in-Some.ensures).within

pub returns-in-Some : goal.returns-in-Some
returns-in-Some c = sym ((numbered_some (λ (h : ProgramHeader). h.address) (λ (h : ProgramHeader). h.memory_size) c.args.segments.now c.args.sorted.now c.args.addr c.in-Some.k c.requires c.in-Some.ensures).is _)

pub returns-in-None : goal.returns-in-None
returns-in-None c = sym (numbered_none (λ (h : ProgramHeader). h.address) (λ (h : ProgramHeader). h.memory_size) c.args.segments.now c.args.sorted.now c.args.addr c.requires c.in-None.ensures)
