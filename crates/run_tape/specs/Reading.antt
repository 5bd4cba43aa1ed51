-- What is left of a tape that is being read: this project's own.
use Rattle.std.specs.Prelude.{ℕ, Bool, true, List, [], ◌∷◌, ◌||◌, not, nat_lt}
use Rattle.run_tape.specs.declared.marks.Mark.{Mark}
use Rattle.run_tape.specs.declared.marks.Reader.{Reader}
use Rattle.run_tape.specs.Telling.{decoded}

abbrev pub left_of : Reader → List Mark
left_of r = decoded r.turns r.bytes.now

-- the first byte, if there is one, ends a mark
abbrev pub ends_mark : List ℕ → Bool
ends_mark [] = true
ends_mark (b ∷ bs) = nat_lt b 128 || not (nat_lt b 224)
