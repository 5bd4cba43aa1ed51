use Rattle.std.proofs.Common.{◌≤◌, ◌^◌, ◌+◌, ◌*◌, ◌∙◌, length, refl, sym, ap, arith}
use Rattle.cond_expr.specs.Lex.{digit_value}
use Rattle.cond_expr.proofs.Turns.{kept_on, digit_goes_on, small_number, large_number}
use Rattle.cond_expr.proofs.lex.digits.Goals as goal

pub digits-init : goal.digits-init
digits-init c = (c.requires.room, omega arith, (c.args.so_far, omega (arith, c.requires.room), refl))

pub digits-preserved : goal.digits-preserved
digits-preserved c =
    let kept = c.digits.invariant.2 in
    let seen = c.in-Some.ensures in (
      omega (arith, c.min-value.ensures),
      omega (arith, c.digits.invariant.1, ap length seen.1),
      (
        kept.0 * c.args.base + digit_value seen.0,
        kept_on c.args.base seen.0 kept.0 c.digits.value c.min-value.result _ _ seen.2 kept.1 c.min-value.ensures c.from.ensures (c.from-in-Some.ensures ∙ seen.3),
        sym (digit_goes_on c.args.base seen.0 kept.0 c.digits.rest.now c.in-Some.more.now seen.1 seen.2) ∙ kept.2,
      ),
    )

pub returns-in-Ok-clause-sees : goal.returns-in-Ok-clause-sees
returns-in-Ok-clause-sees c =
    let e = c.in-Ok.ensures in
    let kept = c.digits.invariant.2 in
    small_number c.args.base c.args.bytes.now c.digits.rest.now c.args.so_far kept.0 c.digits.value c.in-Ok.n kept.2 c.in_default.ensures kept.1 e.0 e.1

pub returns-in-Err-clause-sees : goal.returns-in-Err-clause-sees
returns-in-Err-clause-sees c =
    let large : 2 ^ 32 ≤ c.digits.value = omega (arith, c.in-Err.ensures) in
    let kept = c.digits.invariant.2 in
    large_number c.args.base c.args.bytes.now c.digits.rest.now c.args.so_far kept.0 c.digits.value kept.2 c.in_default.ensures kept.1 large
