-- Which hart is expected to run next, and the number that digits tell: this project's own.
use Rattle.std.specs.Prelude.{ℕ, ◌+◌, ◌*◌, ◌%◌, ◌^◌, [], ◌∷◌, slice_index, slice_set}
use Rattle.run_tape.specs.declared.turns.Turns.{Turns}

unfoldable pub start : Turns
start = record { follow = 0 ∷ 0 ∷ 0 ∷ 0 ∷ 0 ∷ 0 ∷ 0 ∷ 0 ∷ 0 ∷ 0 ∷ 0 ∷ 0 ∷ 0 ∷ 0 ∷ 0 ∷ 0 ∷ []; last = 0; expected = 0; number = 0 }

-- the expected hart ran: it came behind the one that ran last, and next is expected what came behind it the last time
unfoldable pub gone : Turns → Turns
gone t = record {
  follow = slice_set t.follow (t.last % 16) t.expected;
  last = t.expected;
  expected = slice_index (slice_set t.follow (t.last % 16) t.expected) (t.expected % 16);
  number = 0;
}

-- a byte's last six bits behind the number
abbrev pub with_digit : Turns → ℕ → Turns
with_digit t b = record t { number = t.number % 2 ^ 58 * 64 + b % 64 }

-- the hart is expected whose number has a byte's last five bits behind the number that was told
abbrev pub expecting : Turns → ℕ → Turns
expecting t b = record t { expected = t.number % 2 ^ 27 * 32 + b % 32; number = 0 }

-- the number with a byte's last seven bits behind it
abbrev pub count_at : Turns → ℕ → ℕ
count_at t b = t.number % 2 ^ 57 * 128 + b % 128
