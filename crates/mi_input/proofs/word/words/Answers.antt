use Rattle.std.proofs.lemmas.Result.{err_from_is_err_and}
use Rattle.mi_input.specs.Split.{word_view}
use Rattle.mi_input.proofs.Words.{wording_turns, wording_ends, wording_fails, blanks_end, word_shorter}
use Rattle.mi_input.proofs.word.words.Goals as goal

pub returns-then-is_empty : goal.returns-then-is_empty
returns-then-is_empty c =
    wording_ends c.args.bytes.now c.turns.rest.now c.after_blanks-start.result.now c.turns.words.items c.turns.invariant c.after_blanks-start.ensures c.if-is_empty.ensures

pub word-requires : goal.word-requires
word-requires c = blanks_end c.turns.rest.now c.after_blanks-start.result.now c.after_blanks-start.ensures c.if-is_empty.ensures

pub returns-in_err-next : goal.returns-in_err-next
returns-in_err-next c =
    let p = err_from_is_err_and c.from_residual.result c.from_residual.ensures.1 in
    rw (p.1, p.2) (wording_fails c.args.bytes.now c.turns.rest.now c.after_blanks-start.result.now c.turns.words.items c.in_err-next.field-0.0 c.turns.invariant c.after_blanks-start.ensures c.if-is_empty.ensures c.in_err-next.ensures)

pub turns-smaller : goal.turns-smaller
turns-smaller c = word_shorter c.after_blanks-start.result.now c.turns.rest.now c.in_ok-next.more.now (word_view c.in_ok-next.next) c.after_blanks-start.ensures c.in_ok-next.ensures

pub turns-preserved : goal.turns-preserved
turns-preserved c =
    wording_turns c.args.bytes.now c.turns.rest.now c.after_blanks-start.result.now c.in_ok-next.more.now c.turns.words.items c.push.new.self.items
    c.in_ok-next.next c.turns.invariant c.after_blanks-start.ensures c.if-is_empty.ensures c.in_ok-next.ensures c.in_ok-push.ensures.items
