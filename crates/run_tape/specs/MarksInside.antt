-- The fields of `Marks`, which reads a tape: this project's own.
use Rattle.std.specs.Prelude.{List}
use Rattle.run_tape.specs.declared.marks.Mark.{Mark}
use Rattle.run_tape.specs.declared.marks.Marks.TheInside.{Inside}
use Rattle.run_tape.specs.Reading.{left_of}

abbrev pub marks_left : Inside → List Mark
marks_left i = left_of i.reader
