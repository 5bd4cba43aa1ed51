use Rattle.std.proofs.Common.{◌++◌, refl, ap, sym, subst, ◌∙◌}
use Rattle.session_log.specs.Rows.{row_text, MayStand}
use Rattle.session_log.proofs.Guesses.{is_guess}
use Rattle.session_log.proofs.Alike.{not_alike}
use Rattle.session_log.proofs.row.read_row.Goals.{else-may_stand-via-then-may_stand+else-eq, else-may_stand-via-else-may_stand}
use Rattle.session_log.proofs.row.read_row.Goals as goal

pub returns : goal.returns
returns c = (
  refl,
  λ r s.
      let same = is_guess r c.in_ok-row.row c.args.line.now c.in_ok-row.ensures s in
      elim c.else-may_stand.branch [
        | else-may_stand-via-then-may_stand+else-eq w ↦
            not_alike w.as_slice.result.now c.args.line.now
            (w.as_slice.ensures.value ∙ c.in_ok-write_row.ensures.written ∙ ap (λ l. l ++ row_text c.in_ok-row.row) c.clear.ensures.items ∙ ap row_text same ∙ sym s.text)
            w.if-eq.ensures
        | else-may_stand-via-else-may_stand w ↦
            let yes = w.if-may_stand.ensures.1 (subst MayStand (sym same) s.fits.stands) in
            let no = w.if-may_stand.false in
            cc
      ],
)
