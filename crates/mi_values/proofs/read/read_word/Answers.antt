use Rattle.std.proofs.Common.{vec_len, sym, arith}
use Rattle.std.proofs.lemmas.Bool.{eqb-true}
use Rattle.mi_values.proofs.Names.{naming_turns, empty_word}
use Rattle.mi_values.proofs.read.read_word.Goals as goal

pub turns-preserved : goal.turns-preserved
turns-preserved c =
    let found = c.in-Some.ensures in
    naming_turns c.args.bytes.now c.turns.rest.now c.in-Some.more.now c.turns.name.items c.push.new.self.items c.in-Some.b c.turns.invariant found.0 found.1 c.in_ok-push.ensures.items

pub returns-then-is_empty : goal.returns-then-is_empty
returns-then-is_empty c =
    empty_word c.args.bytes.now c.turns.rest.now c.turns.name.items c.turns.invariant (omega (arith, eqb-true (vec_len c.turns.name) 0 (sym c.if-is_empty.ensures), c.turns.name.ok.0)) c.in_default.ensures
