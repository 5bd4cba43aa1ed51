use Rattle.std.proofs.Common.{◌∙◌}
use Rattle.dbg_words.proofs.Asking.{asked_named, given_words, refused_words}
use Rattle.dbg_words.proofs.read.read_words.Goals as goal

pub returns-in-None-clause-whole : goal.returns-in-None-clause-whole
returns-in-None-clause-whole c = refused_words c.args.words.now (rw c.in-None.is at c.in_ok-given_by.ensures.refused)

pub returns-in-Some-clause-whole : goal.returns-in-Some-clause-whole
returns-in-Some-clause-whole c =
    c.request_of.ensures.value ∙ given_words c.args.words.now c.in-Some.given (rw c.in-Some.is at c.in_ok-given_by.ensures.accepted)

pub returns-in-Some-clause-named : goal.returns-in-Some-clause-named
returns-in-Some-clause-named c = asked_named c.args.words.now c.request_of.result (returns-in-Some-clause-whole c)
