use Rattle.std.proofs.Common.{◌≡◌, ◌%◌, sym, true, false, Some, inr, refl}
use Rattle.data_memory.specs.Blocks.{spot}
use Rattle.data_memory.specs.Paged.{are_writable, spelled}
use Rattle.data_memory.proofs.Pages.{room, paged_kept}
use Rattle.data_memory.proofs.Along.{aligned, amo_yes, amo_no}
use Rattle.data_memory.proofs.accesses.amo_at.Goals as goal

pub are_writable-requires-clause-within : goal.are_writable-requires-clause-within
are_writable-requires-clause-within c =
    let a : c.args.addr % 4 ≡ 0 = aligned _ _ c.if-not-is_aligned.ensures in
    rw c.spot-at.ensures (room c.args.pages.now c.args.frames.now c.args.addr 4 c.requires.kept (inr (inr refl)) a c.ranges.addr.fits)

pub returns-then-not-are_writable-clause-value : goal.returns-then-not-are_writable-clause-value
returns-then-not-are_writable-clause-value c =
    let a : c.args.addr % 4 ≡ 0 = aligned _ _ c.if-not-is_aligned.ensures in
    let w : are_writable c.args.frames.now (spot c.args.pages.now c.args.addr) 4 ≡ false = rw (← c.spot-at.ensures) (sym c.if-not-are_writable.ensures) in
    rw (amo_no c.args.pages.now c.args.frames.now c.args.op c.args.addr c.args.value a c.ranges.addr.fits w) refl

pub returns-then-not-are_writable-clause-memory : goal.returns-then-not-are_writable-clause-memory
returns-then-not-are_writable-clause-memory c =
    let a : c.args.addr % 4 ≡ 0 = aligned _ _ c.if-not-is_aligned.ensures in
    let w : are_writable c.args.frames.now (spot c.args.pages.now c.args.addr) 4 ≡ false = rw (← c.spot-at.ensures) (sym c.if-not-are_writable.ensures) in
    rw (amo_no c.args.pages.now c.args.frames.now c.args.op c.args.addr c.args.value a c.ranges.addr.fits w) refl

pub returns-clause-value : goal.returns-clause-value
returns-clause-value c =
    let a : c.args.addr % 4 ≡ 0 = aligned _ _ c.if-not-is_aligned.ensures in
    let w : are_writable c.args.frames.now (spot c.args.pages.now c.args.addr) 4 ≡ true = rw (← c.spot-at.ensures) (sym c.if-not-are_writable.ensures) in
    let is : spelled c.args.frames.now (spot c.args.pages.now c.args.addr) 4 ≡ Some c.in-Some.old = rw (← c.spot-at.ensures) (sym c.in-Some.ensures.value) in
    rw (amo_yes c.args.pages.now c.args.frames.now c.args.op c.args.addr c.args.value c.in-Some.old c.requires.kept a c.ranges.addr.fits w is) refl

pub returns-clause-memory : goal.returns-clause-memory
returns-clause-memory c =
    let a : c.args.addr % 4 ≡ 0 = aligned _ _ c.if-not-is_aligned.ensures in
    let w : are_writable c.args.frames.now (spot c.args.pages.now c.args.addr) 4 ≡ true = rw (← c.spot-at.ensures) (sym c.if-not-are_writable.ensures) in
    let is : spelled c.args.frames.now (spot c.args.pages.now c.args.addr) 4 ≡ Some c.in-Some.old = rw (← c.spot-at.ensures) (sym c.in-Some.ensures.value) in
    rw (amo_yes c.args.pages.now c.args.frames.now c.args.op c.args.addr c.args.value c.in-Some.old c.requires.kept a c.ranges.addr.fits w is, c.put.ensures, c.amo_value.ensures, c.spot-at.ensures) refl

pub returns-clause-kept : goal.returns-clause-kept
returns-clause-kept c =
    rw c.put.ensures (paged_kept c.args.pages.now c.args.frames.now c.spot-at.result 4 c.amo_value.result c.requires.kept (sym c.if-not-are_writable.ensures))
