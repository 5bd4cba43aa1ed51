use Rattle.std.proofs.Common.{ap, ◌∙◌, arith, cond}
use Rattle.std.specs.Prelude.{Bool}
use Rattle.dbg_model.specs.Keeping.{entry_of}
use Rattle.session_parts.specs.Summary.{is_left, is_stop}
use Rattle.journal_laws.proofs.Summing.{few_pass, passes_on, steps_on}
use Rattle.session_parts.proofs.summary.summed.Goals as goal

pub overflow_add-retired : goal.overflow_add-retired
overflow_add-retired c =
    let l = c.loop-entry in
    let on = steps_on l.retired c.ran-retired.result (entry_of c.in-Some.entry) l.entry-iterator c.next.new.self c.args.journal.now c.in-Some.ensures.steps c.ran-retired.ensures l.invariant.retired in
    omega (arith, c.requires, on)

pub overflow_add-stops : goal.overflow_add-stops
overflow_add-stops c =
    let l = c.loop-entry in
    let one = c.one_if-stops.ensures ∙ ap (λ (b : Bool). cond b 1 0) c.is_stop.ensures in
    let on = passes_on is_stop l.stops c.one_if-stops.result (entry_of c.in-Some.entry) l.entry-iterator c.next.new.self c.args.journal.now c.in-Some.ensures.steps one l.invariant.stops in
    omega (arith, c.entries-entry-items.ensures.few, few_pass is_stop c.args.journal.now, on)

pub overflow_add-lefts : goal.overflow_add-lefts
overflow_add-lefts c =
    let l = c.loop-entry in
    let one = c.one_if-lefts.ensures ∙ ap (λ (b : Bool). cond b 1 0) c.is_left.ensures in
    let on = passes_on is_left l.lefts c.one_if-lefts.result (entry_of c.in-Some.entry) l.entry-iterator c.next.new.self c.args.journal.now c.in-Some.ensures.steps one l.invariant.lefts in
    omega (arith, c.entries-entry-items.ensures.few, few_pass is_left c.args.journal.now, on)

pub loop-entry-preserved : goal.loop-entry-preserved
loop-entry-preserved c =
    let l = c.loop-entry in
    let e = entry_of c.in-Some.entry in
    let stop = c.one_if-stops.ensures ∙ ap (λ (b : Bool). cond b 1 0) c.is_stop.ensures in
    let left = c.one_if-lefts.ensures ∙ ap (λ (b : Bool). cond b 1 0) c.is_left.ensures in
    record {
      retired = steps_on l.retired c.ran-retired.result e l.entry-iterator c.next.new.self c.args.journal.now c.in-Some.ensures.steps c.ran-retired.ensures l.invariant.retired;
      stops = passes_on is_stop l.stops c.one_if-stops.result e l.entry-iterator c.next.new.self c.args.journal.now c.in-Some.ensures.steps stop l.invariant.stops;
      lefts = passes_on is_left l.lefts c.one_if-lefts.result e l.entry-iterator c.next.new.self c.args.journal.now c.in-Some.ensures.steps left l.invariant.lefts;
    }
