use Rattle.std.proofs.Common.{◌≡◌, true, rules, sym, ◌∙◌, arith}
use Rattle.dbg_model.specs.Lawful.{may_do}
use Rattle.replay_parts.specs.Parts.{state_of}
use Rattle.replay_parts.proofs.Changing.{can_be_made, can_be_watched, history_low, numbers_low}
use Rattle.dbg_replay.proofs.Answering.{changes_so, line_comes}
use Rattle.dbg_replay.proofs.lines.do_seen.Goals as goal

pub answer_to-requires-clause-given : goal.answer_to-requires-clause-given
answer_to-requires-clause-given c =
    let is : c.may_do.result ≡ true = search rules in
    numbers_low c.args.opening.now c.args.parts.now c.args.line.now c.requires.kept (sym (c.may_do.ensures c.args.line.now c.in_ok-read.ensures.commands) ∙ is)

pub make-requires-clause-given : goal.make-requires-clause-given
make-requires-clause-given c =
    let is : c.may_do.result ≡ true = search rules in
    numbers_low c.args.opening.now c.args.parts.now c.args.line.now c.requires.kept (sym (c.may_do.ensures c.args.line.now c.in_ok-read.ensures.commands) ∙ is)

pub make-requires-clause-may : goal.make-requires-clause-may
make-requires-clause-may c =
    let answers = c.in-Ok.ensures c.args.line.now c.in_ok-read.ensures.commands in
    can_be_made c.args.opening.now c.args.parts.now c.args.line.now c.in-Ok.answered.answer.effect c.requires.kept (changes_so c.args.opening.now (state_of c.args.parts.now) c.args.line.now c.in-Ok.answered answers)

pub make-requires-clause-watch : goal.make-requires-clause-watch
make-requires-clause-watch c =
    let answers = c.in-Ok.ensures c.args.line.now c.in_ok-read.ensures.commands in
    can_be_watched c.args.opening.now c.args.parts.now c.args.line.now c.in-Ok.answered.answer.effect (changes_so c.args.opening.now (state_of c.args.parts.now) c.args.line.now c.in-Ok.answered answers)

pub make-requires-clause-room : goal.make-requires-clause-room
make-requires-clause-room c =
    let is : c.may_do.result ≡ true = search rules in
    let low = history_low c.args.opening.now (state_of c.args.parts.now) c.args.line.now (sym (c.may_do.ensures c.args.line.now c.in_ok-read.ensures.commands) ∙ is) in
    omega (arith, low)

pub make-requires-clause-sets : goal.make-requires-clause-sets
make-requires-clause-sets c =
    let is : c.may_do.result ≡ true = search rules in
    let low = history_low c.args.opening.now (state_of c.args.parts.now) c.args.line.now (sym (c.may_do.ensures c.args.line.now c.in_ok-read.ensures.commands) ∙ is) in
    let sets = c.requires.kept.sets in
    omega (arith, low, sets)

pub returns : goal.returns
returns c =
    let o = c.args.opening.now in
    let old = c.args.parts.now in
    let line = c.args.line.now in
    let is : c.may_do.result ≡ true = search rules in
    let may : may_do o (state_of old) line ≡ true = sym (c.may_do.ensures line c.in_ok-read.ensures.commands) ∙ is in
    let answers = c.in-Ok.ensures line c.in_ok-read.ensures.commands in
    line_comes o old c.make.new.parts line c.in-Ok.answered (may_do o (state_of old) line) c.requires.kept may may answers c.make.ensures.state c.make.ensures.table c.make.ensures.sources c.make.ensures.words
