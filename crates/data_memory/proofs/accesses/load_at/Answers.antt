use Rattle.std.proofs.Common.{◌≡◌, ◌%◌, ap, sym, ◌∙◌}
use Rattle.rv_exec.specs.Memory.{or_fault}
use Rattle.data_memory.proofs.Pages.{room}
use Rattle.data_memory.proofs.Along.{aligned, load_is, or_fault_is}
use Rattle.data_memory.proofs.accesses.load_at.Goals as goal

pub number-requires-clause-within : goal.number-requires-clause-within
number-requires-clause-within c =
    let a : c.args.addr % c.args.len ≡ 0 = aligned _ _ c.if-not-is_aligned.ensures in
    rw c.spot.ensures (room c.args.pages.now c.args.frames.now c.args.addr c.args.len c.requires.kept c.requires.len a c.ranges.addr.fits)

pub returns-clause-value : goal.returns-clause-value
returns-clause-value c =
    let a : c.args.addr % c.args.len ≡ 0 = aligned _ _ c.if-not-is_aligned.ensures in
    c.ok_or.ensures.value ∙ or_fault_is c.number.result ∙ ap or_fault c.number.ensures.value ∙ (rw c.spot.ensures (sym (load_is c.args.pages.now c.args.frames.now c.args.addr c.args.len c.requires.len a c.ranges.addr.fits)))
