use Rattle.run_tape.proofs.coder.Coder.+push_digits.Given as goal

abbrev pub decreases-push_digits : goal.decreases-push_digits
decreases-push_digits l = l.digits
