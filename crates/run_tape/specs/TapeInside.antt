-- The fields of `Tape`: this project's own.
use Rattle.std.specs.Prelude.{◌≡◌}
use Rattle.run_tape.specs.declared.tape.Tape.TheInside.{Inside}
use Rattle.run_tape.specs.Taped.{Taped}

abbrev pub taped_of : Inside → Taped
taped_of t = record { marks = t.coder.marks; room = t.coder.room }

-- no digits stand at its end
abbrev pub Ended : Inside → Type 0
Ended t = t.coder.number ≡ 0
