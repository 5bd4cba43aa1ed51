use Rattle.debug_info.proofs.Words.{◌≡◌, ℕ, Option, Some, sym, ◌∙◌, ap, declaration_at, found, code_in, Declaration}
use Rattle.debug_info.proofs.Tabled.{lead_more}
use Rattle.debug_info.proofs.tables.Table.meet.Goals as goal

pub places-preserved : goal.places-preserved
places-preserved c =
    let w = c.in-Ok-Some-default in
    let read : code_in (declaration_at c.args.abbrevs.now c.places.place) ≡ Some (w.field-0-0-0.0, w.next) =
    ap code_in (sym w.ensures.value ∙ ap (λ (o : Option (ℕ × Declaration)). found o w.next) w.field-0-0-is) in
    record {
      table = c.in_ok-drop_before.ensures.table;
      before = lead_more c.args.abbrevs.now c.args.at c.places.place w.next c.places.before.items _ c.places.invariant.before (record { code = w.field-0-0-0.0; is = read }) c.in_ok-push-in-Ok-Some-default.ensures.items;
      within = w.ensures.within.within;
    }
