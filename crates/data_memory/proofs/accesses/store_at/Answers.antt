use Rattle.std.proofs.Common.{◌≡◌, ◌%◌, sym, true, false, refl}
use Rattle.data_memory.specs.Blocks.{spot}
use Rattle.data_memory.specs.Paged.{are_writable}
use Rattle.data_memory.proofs.Pages.{room, paged_kept}
use Rattle.data_memory.proofs.Along.{aligned, store_yes, store_no}
use Rattle.data_memory.proofs.accesses.store_at.Goals as goal

pub are_writable-requires-clause-within : goal.are_writable-requires-clause-within
are_writable-requires-clause-within c =
    let a : c.args.addr % c.args.len ≡ 0 = aligned _ _ c.if-not-is_aligned.ensures in
    rw c.spot-at.ensures (room c.args.pages.now c.args.frames.now c.args.addr c.args.len c.requires.kept c.requires.len a c.ranges.addr.fits)

pub returns-then-not-are_writable-clause-value : goal.returns-then-not-are_writable-clause-value
returns-then-not-are_writable-clause-value c =
    let a : c.args.addr % c.args.len ≡ 0 = aligned _ _ c.if-not-is_aligned.ensures in
    let w : are_writable c.args.frames.now (spot c.args.pages.now c.args.addr) c.args.len ≡ false = rw (← c.spot-at.ensures) (sym c.if-not-are_writable.ensures) in
    rw (store_no c.args.pages.now c.args.frames.now c.args.addr c.args.len c.args.value c.requires.len a c.ranges.addr.fits w) refl

pub returns-then-not-are_writable-clause-memory : goal.returns-then-not-are_writable-clause-memory
returns-then-not-are_writable-clause-memory c =
    let a : c.args.addr % c.args.len ≡ 0 = aligned _ _ c.if-not-is_aligned.ensures in
    let w : are_writable c.args.frames.now (spot c.args.pages.now c.args.addr) c.args.len ≡ false = rw (← c.spot-at.ensures) (sym c.if-not-are_writable.ensures) in
    rw (store_no c.args.pages.now c.args.frames.now c.args.addr c.args.len c.args.value c.requires.len a c.ranges.addr.fits w) refl

pub returns-clause-value : goal.returns-clause-value
returns-clause-value c =
    let a : c.args.addr % c.args.len ≡ 0 = aligned _ _ c.if-not-is_aligned.ensures in
    let w : are_writable c.args.frames.now (spot c.args.pages.now c.args.addr) c.args.len ≡ true = rw (← c.spot-at.ensures) (sym c.if-not-are_writable.ensures) in
    rw (store_yes c.args.pages.now c.args.frames.now c.args.addr c.args.len c.args.value c.requires.kept c.requires.len a c.ranges.addr.fits w) refl

pub returns-clause-memory : goal.returns-clause-memory
returns-clause-memory c =
    let a : c.args.addr % c.args.len ≡ 0 = aligned _ _ c.if-not-is_aligned.ensures in
    let w : are_writable c.args.frames.now (spot c.args.pages.now c.args.addr) c.args.len ≡ true = rw (← c.spot-at.ensures) (sym c.if-not-are_writable.ensures) in
    rw (store_yes c.args.pages.now c.args.frames.now c.args.addr c.args.len c.args.value c.requires.kept c.requires.len a c.ranges.addr.fits w, c.put.ensures, c.spot-at.ensures) refl

pub returns-clause-kept : goal.returns-clause-kept
returns-clause-kept c =
    rw c.put.ensures (paged_kept c.args.pages.now c.args.frames.now c.spot-at.result c.args.len c.args.value c.requires.kept (sym c.if-not-are_writable.ensures))
