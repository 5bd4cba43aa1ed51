use Rattle.std.proofs.Common.{sym, rules, ◌<◌, length}
use Rattle.elf32_read.specs.declared.tables.TextRange.{TextRange}
use Rattle.elf32_read.proofs.Found.{numbered_some, numbered_none}
use Rattle.elf32_read.proofs.lookup.text_at.Goals as goal

pub offset_bounds-text-k : goal.offset_bounds-text-k
offset_bounds-text-k c =
    let found = numbered_some (λ (h : TextRange). h.address) (λ (h : TextRange). h.size) c.args.text.now c.args.sorted.now c.args.addr c.in-Some.k c.requires c.in-Some.ensures in
    let lt : c.in-Some.k < length c.args.text.now = found.within in
    search rules

pub bounds-text-k : goal.bounds-text-k
bounds-text-k c = (numbered_some (λ (h : TextRange). h.address) (λ (h : TextRange). h.size) c.args.text.now c.args.sorted.now c.args.addr c.in-Some.k c.requires c.in-Some.ensures).within

pub returns-in-Some : goal.returns-in-Some
returns-in-Some c = sym ((numbered_some (λ (h : TextRange). h.address) (λ (h : TextRange). h.size) c.args.text.now c.args.sorted.now c.args.addr c.in-Some.k c.requires c.in-Some.ensures).is _)

pub returns-in-None : goal.returns-in-None
returns-in-None c = sym (numbered_none (λ (h : TextRange). h.address) (λ (h : TextRange). h.size) c.args.text.now c.args.sorted.now c.args.addr c.requires c.in-None.ensures)
