use Rattle.std.proofs.Common.{◌≡◌, ◌%◌, ◌^◌, ◌<◌, true, false, rules, arith}
use Rattle.std.specs.Prelude.{◌==◌}
use Rattle.unpatched_machine.proofs.Trapping.{misaligned, unwritable, writable}
use Rattle.unpatched_machine.proofs.instruction.store_trap.Goals as goal

pub returns-then-addr-len-ne0 : goal.returns-then-addr-len-ne0
returns-then-addr-len-ne0 c =
    let is : (c.args.addr % c.args.len == 0) ≡ false = search rules in
    λ v. misaligned c.args.memory.now c.args.addr c.args.len v is

pub returns-in-None : goal.returns-in-None
returns-in-None c =
    let is : (c.args.addr % c.args.len == 0) ≡ true = search rules in
    let aligned : c.args.addr % c.args.len ≡ 0 = search rules in
    let low : c.args.addr < 2 ^ 32 = omega (arith, c.ranges.addr) in
    λ v. writable c.args.memory.now c.args.addr c.args.len v c.requires aligned is low c.in-None.ensures

pub returns-in-Some : goal.returns-in-Some
returns-in-Some c =
    let is : (c.args.addr % c.args.len == 0) ≡ true = search rules in
    let aligned : c.args.addr % c.args.len ≡ 0 = search rules in
    let low : c.args.addr < 2 ^ 32 = omega (arith, c.ranges.addr) in
    λ v. unwritable c.args.memory.now c.args.addr c.args.len v c.in-Some.field-0 c.requires aligned is low c.in-Some.ensures
