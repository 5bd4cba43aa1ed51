use Rattle.std.proofs.Common.{◌≤◌, ◌-◌, length, take, drop, arith}
use Rattle.std.proofs.lemmas.List.{length-take}
use Rattle.watch_points.proofs.Sizing.{three_bytes}
use Rattle.watch_points.proofs.words.+spelled.Goals as goal

pub overflow_mul-result : goal.overflow_mul-result
overflow_mul-result t c =
    let xs = c.args.bytes.now in
    let rest = take (length xs - 1) (drop 1 xs) in
    let le : length rest ≤ 3 = omega (arith, length-take (length xs - 1) (drop 1 xs), c.requires) in
    omega (arith, three_bytes (length rest) le, c.spelled.ensures.range)

pub overflow_add-result : goal.overflow_add-result
overflow_add-result t c =
    let xs = c.args.bytes.now in
    let rest = take (length xs - 1) (drop 1 xs) in
    let le : length rest ≤ 3 = omega (arith, length-take (length xs - 1) (drop 1 xs), c.requires) in
    omega (arith, three_bytes (length rest) le, c.spelled.ensures.range, c.from.ensures, c.type_inv.bytes 0)
