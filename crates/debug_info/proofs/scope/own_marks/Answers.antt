use Rattle.debug_info.proofs.Words.{◌≡◌, ap, drop, map, sym, ◌∙◌, List, entries_in, mark_of, Mark, drop-map}
use Rattle.debug_info.proofs.Walked.{again_drop, walked_end, walked_hidden, walked_over, walked_seen, walked_start}
use Rattle.debug_info.proofs.scope.own_marks.Goals as goal
use Rattle.debug_info.proofs.scope.own_marks.Goals.{then-not-is_below+in_ok-push_named, else-not-is_below}

pub loop-mark-init : goal.loop-mark-init
loop-mark-init c = walked_start c.args.pc c.args.function (drop c.args.number (entries_in c.args.unit.now)) _ c.new-found.ensures.items

pub returns-then-mark-function : goal.returns-then-mark-function
returns-then-mark-function c =
    let es = entries_in c.args.unit.now in
    let same : c.args.behind.now ≡ map mark_of (drop c.args.number es) = c.requires.behind ∙ ap (λ (ms : List Mark). drop c.args.number ms) c.requires.unit.marks ∙ drop-map mark_of c.args.number es in
    walked_over c.args.pc c.args.function _ _ _ c.args.behind.now (drop c.args.number es) c.loop-mark.mark-index _ same c.loop-mark-test.true c.if-mark-function.true c.loop-mark.invariant

pub returns : goal.returns
returns c =
    let es = entries_in c.args.unit.now in
    let same : c.args.behind.now ≡ map mark_of (drop c.args.number es) = c.requires.behind ∙ ap (λ (ms : List Mark). drop c.args.number ms) c.requires.unit.marks ∙ drop-map mark_of c.args.number es in
    walked_end c.args.pc c.args.function _ _ _ c.args.behind.now (drop c.args.number es) c.loop-mark.mark-index same c.loop-mark-test.false c.loop-mark.invariant

pub loop-mark-preserved : goal.loop-mark-preserved
loop-mark-preserved c =
    let u = c.args.unit.now in
    let es = entries_in u in
    let same : c.args.behind.now ≡ map mark_of (drop c.args.number es) = c.requires.behind ∙ ap (λ (ms : List Mark). drop c.args.number ms) c.requires.unit.marks ∙ drop-map mark_of c.args.number es in
    elim c.if-not-is_below.branch [
      | then-not-is_below+in_ok-push_named w ↦
          rw (w.found-is, w.shut-is)
          (walked_seen u c.args.pc c.args.function _ _ _ _ _ w.is_entered-entered.result c.args.behind.now (drop c.args.number es) c.loop-mark.mark-index _ same (again_drop u c.args.number es c.requires.unit.again)
          c.loop-mark-test.true c.if-mark-function.false (sym c.is_below.ensures ∙ w.if-not-is_below.true) w.is_entered-entered.ensures w.shut_by-shut.ensures w.in_ok-push_named.ensures c.loop-mark.invariant)
      | else-not-is_below w ↦
          rw (w.found-is, w.shut-is)
          (walked_hidden c.args.pc c.args.function _ _ _ c.args.behind.now (drop c.args.number es) c.loop-mark.mark-index _ same c.loop-mark-test.true c.if-mark-function.false
          (sym c.is_below.ensures ∙ w.if-not-is_below.false) c.loop-mark.invariant)
    ]
