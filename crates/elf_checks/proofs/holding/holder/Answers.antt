use Rattle.std.proofs.Common.{sym}
use Rattle.elf_checks.proofs.Holders.{holder_found}
use Rattle.elf_checks.proofs.holding.holder.Goals as goal

pub returns-in-Some : goal.returns-in-Some
returns-in-Some c =
    let e = holder_found c.args.h.now c.args.segments.now c.args.sorted.now c.requires.some c.requires.sorted c.requires.filled in
    sym (rw (← c.in-Some.ensures, ← c.if-holds_text.ensures) at e)

pub returns-in_default : goal.returns-in_default
returns-in_default c =
    let e = holder_found c.args.h.now c.args.segments.now c.args.sorted.now c.requires.some c.requires.sorted c.requires.filled in
    sym (rw (← c.in-Some.ensures, ← c.if-holds_text.ensures) at e)

pub returns-in_default-2 : goal.returns-in_default-2
returns-in_default-2 c =
    let e = holder_found c.args.h.now c.args.segments.now c.args.sorted.now c.requires.some c.requires.sorted c.requires.filled in
    sym (rw (← c.segment_at.ensures, c.in_default.is) at e)
