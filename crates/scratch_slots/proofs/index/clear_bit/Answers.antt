use Rattle.std.proofs.Common.{arith, ◌%◌, ◌/◌, length, ◌≡◌}
use Rattle.std.specs.Int.{w64}
use Rattle.std.specs.Prelude.{slice_index}
use Rattle.std.proofs.lemmas.Nat.Bits.{bit_at_clear_same, bit_at_clear_other}
use Rattle.scratch_slots.proofs.Rows.{one_group}
use Rattle.scratch_slots.proofs.index.clear_bit.Goals as goal

pub returns : goal.returns
returns c =
    let long : length c.args.groups.now ≡ 8 = c.told-groups in
    one_group c.args.groups.now c.args.k _ 0 (omega arith)
    (bit_at_clear_same w64 (slice_index c.args.groups.now (c.args.k / 64)) (c.args.k % 64) (omega arith))
    (λ i l ne. bit_at_clear_other w64 (slice_index c.args.groups.now (c.args.k / 64)) (c.args.k % 64) (omega arith) i l ne)
