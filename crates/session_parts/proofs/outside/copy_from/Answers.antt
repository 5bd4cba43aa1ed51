use Rattle.std.proofs.Common.{◌≡◌, ◌+◌, ◌-◌, take, drop, arith}
use Rattle.dbg_traits.proofs.Front.{take_copied}
use Rattle.session_parts.proofs.outside.copy_from.Goals as goal

pub returns-clause-grows : goal.returns-clause-grows
returns-clause-grows c =
    let n = c.min-n.result in
    let same : (c.args.at + n) - c.args.at ≡ n = omega arith in
    let is : c.copy_from_slice.new.self ≡ take n (drop c.args.at c.args.from.now) = rw same at c.copy_from_slice.ensures.after in
    take_copied c.args.at n c.args.from.now c.copy_from_slice.new.self (drop n c.args.into.now) is (omega arith)
