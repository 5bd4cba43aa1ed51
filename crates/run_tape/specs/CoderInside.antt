-- The fields of `Coder`, which writes marks as bytes: this project's own.
use Rattle.std.specs.Prelude.{◌≡◌, ◌-◌, map, vec_len, vec_capacity}
use Rattle.run_tape.specs.declared.coder.Coder.TheInside.{Inside}
use Rattle.run_tape.specs.Turning.{start}
use Rattle.run_tape.specs.Tokens.{token}
use Rattle.run_tape.specs.Telling.{behind, decoded}
use Rattle.run_tape.specs.Coded.{Coded}

abbrev pub coded_of : Inside → Coded
coded_of c = record {
  marks = decoded start c.bytes.items;
  expected = c.turns.expected;
  number = c.turns.number;
  room = vec_capacity c.bytes - vec_len c.bytes;
}

-- what is known is what is known behind the bytes
abbrev pub Sound : Inside → Type 0
Sound c = c.turns ≡ behind start (map token c.bytes.items)
