use Rattle.debug_info.proofs.Words.{◌<◌, List, length, get_or, ◌≡◌, subst, refl, ◌∙◌, ap, get_or_default, length-set, take_all, given, reading_shown, Span, Turn}
use Rattle.debug_info.proofs.Orderly.{AreRead, read_more, read_shown}
use Rattle.debug_info.proofs.unit.read_turns.Goals as goal

pub loop-turn-preserved : goal.loop-turn-preserved
loop-turn-preserved c =
    let source = c.args.source.now in
    let spans = c.args.spans.now in
    let turns = c.args.turns.now in
    let i = c.loop-turn.turn-index in
    let first : Turn = record { rank = 0; number = 0 } in
    let turn : Turn = get_or turns i first in
    let new = c.in_ok-readings-2.field-0 in
    let read = c.in_ok-readings-2.ensures in
    let h : i < length turns = c.loop-turn-test.true in
    let within : turn.number < length spans = c.requires.turns.within i first h in
    let none : Span = record { at = 0; end = 0 } in
    let one : (s : Span) → reading_shown new ≡ given source.abbrevs.now source.strs.now source.info.now (get_or spans turn.number s) = λ s.
    (read.value ∙ ap (given source.abbrevs.now source.strs.now source.info.now) (get_or_default spans turn.number none s within)) in
    record {
      table = read.table;
      count = length-set c.loop-turn.readings.items turn.number new ∙ c.loop-turn.invariant.count;
      read = read_more source.abbrevs.now source.strs.now source.info.now spans turns c.loop-turn.readings.items _ i turn new h (get_or_default turns i first turn h) within c.loop-turn.invariant.count refl one c.loop-turn.invariant.read;
    }

pub returns : goal.returns
returns c =
    let source = c.args.source.now in
    let spans = c.args.spans.now in
    let turns = c.args.turns.now in
    let readings = c.loop-turn.readings.items in
    let all : AreRead source.abbrevs.now source.strs.now source.info.now spans turns readings =
    subst (λ (ts : List Turn). AreRead source.abbrevs.now source.strs.now source.info.now spans ts readings) (take_all c.loop-turn.turn-index turns c.loop-turn-test.false) c.loop-turn.invariant.read in
    read_shown source.abbrevs.now source.strs.now source.info.now spans turns readings c.loop-turn.invariant.count c.requires.turns all
