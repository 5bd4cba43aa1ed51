use Rattle.std.proofs.Common.{◌≤◌, length, refl, sym, subst, ap, ◌∙◌, arith}
use Rattle.std.specs.Prelude.{slice_index}
use Rattle.break_table.specs.Table.{Table}
use Rattle.dbg_model.proofs.Counting.{length-replicated}
use Rattle.replay_parts.proofs.Beginning.{length_first, none_counted}
use Rattle.replay_parts.proofs.loading.first_parts.Goals as goal

pub returns-clause-state : goal.returns-clause-state
returns-clause-state c =
    let kept = c.in_ok-kept.ensures in
    rw (kept.harts, kept.passed, kept.watches, kept.table, c.in-Ok.ensures.memory, c.new-out.ensures.items) refl

pub returns-clause-kept : goal.returns-clause-kept
returns-clause-kept c =
    let o = c.args.opening.now in
    let table = c.in_ok-kept.ensures.table in
    let given = ap (λ (t : Table). t.given) table in
    record {
      sources = c.in-Ok.ensures.sources;
      words = c.in-Ok.ensures.words;
      harts = ap length c.in_ok-kept.ensures.harts ∙ length_first o.image o.settings.harts o.settings.harts;
      places = c.in_ok-kept.ensures.places;
      waits = ap (λ (t : Table). length t.waits) table ∙ length-replicated o.settings.harts _;
      given = omega (arith, given);
      few = c.requires.harts.1;
      budget = c.requires.budget.1;
      counts = ap length c.in_ok-kept.ensures.passed ∙ length-replicated o.settings.harts _;
      passed = λ k. subst (λ ns. slice_index ns k ≤ 0) (sym c.in_ok-kept.ensures.passed) (none_counted o.settings.harts k);
      sets = omega arith;
      noted = omega arith;
      owing = λ p is. omega arith;
    }
