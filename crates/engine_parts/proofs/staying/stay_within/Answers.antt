use Rattle.std.proofs.Common.{sym, ◌∙◌, arith, inl, inr}
use Rattle.engine_parts.specs.Staying.{line_view}
use Rattle.engine_parts.proofs.Gone.{no_watches}
use Rattle.engine_parts.proofs.Holding.{get_within}
use Rattle.engine_parts.proofs.Strides.{stays_far, stays_unwatched}
use Rattle.engine_parts.proofs.staying.stay_within.Goals as goal

pub returns-then-is_empty-clause-stays : goal.returns-then-is_empty-clause-stays
returns-then-is_empty-clause-stays c =
    let o = c.args.on.now in
    let b = c.args.bounds in
    let n = c.run_within.result in
    stays_unwatched (line_view o) b.start b.end c.requires.none (no_watches o.watches.now (sym c.is_empty.ensures ∙ c.if-is_empty.true)) n.count n.last c.args.machine.now c.run_within.new.self c.run_within.ensures.runs

pub returns-then-is_empty-clause-rests : goal.returns-then-is_empty-clause-rests
returns-then-is_empty-clause-rests c = λ none. inl (c.run_within.ensures.far (omega (arith, none, c.requires.some)))

pub returns-then-is_near-clause-rests : goal.returns-then-is_near-clause-rests
returns-then-is_near-clause-rests c = λ none. inr (λ k at. sym (c.is_near.ensures k at) ∙ c.if-is_near.true)

pub returns-clause-stays : goal.returns-clause-stays
returns-clause-stays c =
    let o = c.args.on.now in
    let b = c.args.bounds in
    let n = c.run_within-2.result in
    let k = get_within c.args.machine.now.cores o.hart c.requires.hart in
    stays_far (line_view o) b.start b.end c.requires.none n.count n.last c.args.machine.now c.run_within-2.new.self k.0 c.run_within-2.ensures.limit k.1 (sym (c.is_near.ensures k.0 k.1) ∙ c.if-is_near.false) c.run_within-2.ensures.runs

pub returns-clause-rests : goal.returns-clause-rests
returns-clause-rests c = λ none. inl (c.run_within-2.ensures.far (omega (arith, none)))
