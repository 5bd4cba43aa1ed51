use Rattle.std.proofs.Common.{◌-◌, length, sym, ap, arith}
use Rattle.cond_expr.proofs.BareTurns.{blank_goes_on, token_goes_on, all_read, row_goes_on, row_longer}
use Rattle.cond_expr.proofs.bare.bare_names.Goals as goal

pub turns-preserved-then-is_blank : goal.turns-preserved-then-is_blank
turns-preserved-then-is_blank c =
    let l = c.turns.invariant in
    let cut = ap length c.in-Some.ensures in (
      l.0 - 1,
      omega (arith, l.1, cut),
      blank_goes_on (length c.args.text.now) c.turns.wants l.0 c.in-Some.first _ _ c.turns.rest.now c.in-Some.more.now c.in-Some.ensures l.1 (sym c.if-is_blank.ensures) l.2,
      omega (arith, l.3, cut),
      row_longer _ _ _ _ (omega (arith, l.3, cut)) l.4,
    )

pub turns-preserved : goal.turns-preserved
turns-preserved c =
    let l = c.turns.invariant in
    let cut = ap length c.in-Some.ensures in
    let behind = c.behind_token-next_wants in
    let pushed = c.in_ok-push_name.ensures in (
      l.0 - 1,
      omega (arith, l.1, cut, behind.ensures.shorter),
      token_goes_on (length c.args.text.now) c.turns.wants _ l.0 c.in-Some.first _ _ _ c.turns.rest.now c.in-Some.more.now behind.result.1.now c.in-Some.ensures l.1
          (sym c.if-is_blank.ensures) behind.ensures.wants behind.ensures.behind pushed l.2,
      omega (arith, l.3, cut, behind.ensures.shorter),
      rw pushed (row_goes_on 0 (length c.args.text.now - length c.turns.rest.now) (length c.args.text.now - length behind.result.1.now) c.in-Some.first _ c.turns.names.items
          (omega arith) (omega (arith, l.3, cut, behind.ensures.shorter)) (omega (arith, l.3, cut, behind.ensures.shorter)) l.4),
    )

pub returns : goal.returns
returns c =
    let l = c.turns.invariant in record {
      names = all_read (length c.args.text.now) c.turns.wants l.0 _ _ c.turns.rest.now c.in_default.ensures l.2;
      row = row_longer _ _ _ _ (omega arith) l.4;
    }
