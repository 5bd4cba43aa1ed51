use Rattle.std.proofs.Common.{sym}
use Rattle.mi_input.proofs.LineSplits.{next_cut, next_ended, no_line, no_rest, are_first}
use Rattle.mi_input.proofs.lines.next_line.Goals as goal

pub returns-in-Some-clause-next : goal.returns-in-Some-clause-next
returns-in-Some-clause-next c = next_cut c.args.ended c.args.rest.now c.in-Some.k c.text_length.result (sym c.in-Some.ensures.at) c.text_length.ensures.within c.text_length.ensures.text

pub returns-in-None-clause-next : goal.returns-in-None-clause-next
returns-in-None-clause-next c = next_ended c.args.ended c.args.rest.now c.if-ended.true (sym c.in-None.ensures.at) c.if-not-is_empty.ensures

pub returns-in-None-2-2-clause-none : goal.returns-in-None-2-2-clause-none
returns-in-None-2-2-clause-none c =
    let not_ended = c.if-ended.false in
    no_line c.args.rest.now c.args.ended (sym c.in-None.ensures.at) (no_rest c.args.rest.now c.args.ended not_ended)

pub returns-in-Some-clause-first : goal.returns-in-Some-clause-first
returns-in-Some-clause-first c = are_first c.args.rest.now

pub returns-in-None-clause-first : goal.returns-in-None-clause-first
returns-in-None-clause-first c = are_first c.args.rest.now

pub returns-in-None-2-clause-first : goal.returns-in-None-2-clause-first
returns-in-None-2-clause-first c = are_first c.args.rest.now

pub returns-in-None-2-2-clause-first : goal.returns-in-None-2-2-clause-first
returns-in-None-2-2-clause-first c = are_first c.args.rest.now
