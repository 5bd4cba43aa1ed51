use Rattle.std.proofs.Common.{◌-◌, length, sym, ap, arith}
use Rattle.cond_expr.proofs.Turns.{blank_goes_on, token_goes_on, all_read}
use Rattle.cond_expr.proofs.lex.tokens.Goals as goal

pub turns-preserved-then-is_blank : goal.turns-preserved-then-is_blank
turns-preserved-then-is_blank c =
    let l = c.turns.invariant in
    let cut = ap length c.in-Some.ensures in (
      l.0 - 1,
      omega (arith, l.1, cut),
      blank_goes_on c.args.symbols.now (length c.args.text.now) c.turns.wants l.0 c.in-Some.first _ _ c.turns.rest.now c.in-Some.more.now c.in-Some.ensures l.1 (sym c.if-is_blank.ensures) l.2,
      omega (arith, l.3, cut),
    )

pub turns-preserved : goal.turns-preserved
turns-preserved c =
    let l = c.turns.invariant in
    let cut = ap length c.in-Some.ensures in
    let shorter = c.spot-token.ensures.shorter in (
      l.0 - 1,
      omega (arith, l.1, cut, shorter),
      token_goes_on c.args.symbols.now (length c.args.text.now) c.turns.wants _ l.0 c.in-Some.first _ _ _ _ c.turns.rest.now c.in-Some.more.now c.spot-token.result.2.now c.in-Some.ensures l.1
          (sym c.if-is_blank.ensures) c.spot-token.ensures.sees c.wants_operand-wants.ensures c.in_ok-push.ensures.items l.2,
      omega (arith, l.3, cut, shorter),
    )

pub returns : goal.returns
returns c = let l = c.turns.invariant in all_read c.args.symbols.now (length c.args.text.now) c.turns.wants l.0 _ _ c.turns.rest.now c.in_default.ensures l.2
