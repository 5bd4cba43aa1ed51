use Rattle.dbg_words.proofs.Giving.{words_accepted, words_refused}
use Rattle.dbg_words.proofs.read.given_by.Goals as goal

pub returns-in-None-clause-refused : goal.returns-in-None-clause-refused
returns-in-None-clause-refused c =
    words_refused c.args.words.now c.check_text.ensures (rw c.in-None.is at c.in_ok-parsed.ensures.refused)

pub returns-in-Some-clause-accepted : goal.returns-in-Some-clause-accepted
returns-in-Some-clause-accepted c =
    let a = rw c.in-Some.is at c.in_ok-parsed.ensures.accepted in
    words_accepted c.args.words.now c.check_text.ensures a.0 _ a.1 _ c.taken.ensures
