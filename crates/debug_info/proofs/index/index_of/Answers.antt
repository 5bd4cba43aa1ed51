use Rattle.debug_info.proofs.Words.{◌≡◌, ◌-◌, length, arith, subst, sym, IsRun, Run}
use Rattle.debug_info.proofs.Runs.{one_more}
use Rattle.debug_info.proofs.index.index_of.Goals as goal

pub places-preserved : goal.places-preserved
places-preserved c =
    let abbrevs = c.args.abbrevs.now in
    let runs = c.places.runs.items in
    let place : length abbrevs - length runs ≡ c.places.left - 1 = omega arith in
    record {
      runs = one_more (λ k (run : Run). IsRun abbrevs (length abbrevs - k) run) runs _ _ c.in_ok-push.ensures.items c.places.invariant.runs (subst (λ at. IsRun abbrevs at c.run_at-run.result) (sym place) c.run_at-run.ensures);
      count = omega (arith, c.in_ok-push.ensures);
    }

pub returns : goal.returns
returns c = record { runs = c.places.invariant.runs; count = omega arith; short = c.requires }
