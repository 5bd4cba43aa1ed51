use Rattle.std.proofs.lemmas.Result.{on_ok_weaker}
use Rattle.mi_text.proofs.Kept.{keeps_on}
use Rattle.mi_reports.proofs.Pieces.{listed_written}
use Rattle.mi_reports.proofs.watches.write_fields.Goals as goal

pub returns : goal.returns
returns c =
    let word = c.in_ok-write_word.ensures in
    let kind = c.in_ok-write_kind.ensures in
    let text = c.in_ok-write_text.ensures in (
      on_ok_weaker c.write_number.result (listed_written c.args.watch.now _ _ _ _ _ _ _ c.enabled.ensures c.as_slice.ensures word.0 kind.0 text.0) c.write_number.ensures.0,
      keeps_on _ _ _ word.1 (keeps_on _ _ _ kind.1 (keeps_on _ _ _ text.1 c.write_number.ensures.1)),
    )
