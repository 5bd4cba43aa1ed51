use Rattle.mi_text.proofs.Symbols.{symbol_shorter}
use Rattle.mi_text.proofs.Texts.{reading_turns, reading_ends, reading_fails}
use Rattle.mi_text.proofs.escape.body.Goals as goal

pub returns-in-Some : goal.returns-in-Some
returns-in-Some c = reading_ends c.args.bytes.now c.turns.rest.now c.turns.text.items c.in-Some.end.now c.turns.invariant c.in-Some.ensures

pub returns-in_default-symbol : goal.returns-in_default-symbol
returns-in_default-symbol c = reading_fails c.args.bytes.now c.turns.rest.now c.turns.text.items c.turns.invariant c.in_default.ensures c.in_default-symbol.ensures

pub turns-smaller : goal.turns-smaller
turns-smaller c = symbol_shorter c.turns.rest.now c.in-Some-symbol.more.now c.in-Some-symbol.b c.in-Some-symbol.ensures

pub turns-preserved : goal.turns-preserved
turns-preserved c =
    reading_turns c.args.bytes.now c.turns.rest.now c.in-Some-symbol.more.now c.turns.text.items c.push.new.self.items c.in-Some-symbol.b c.turns.invariant c.in-Some-symbol.ensures c.in_ok-push.ensures.items
