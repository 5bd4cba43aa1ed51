-- The limits of a session. This project's own.
use Rattle.std.specs.Prelude.{ℕ}

-- a journal with this many entries other than `Ran` ends its session
abbrev pub history : ℕ
history = 4194304

-- so many bytes of polled input end a session
abbrev pub input : ℕ
input = 67108864

-- so many breakpoints of the user stand at most
abbrev pub breakpoints : ℕ
breakpoints = 128
