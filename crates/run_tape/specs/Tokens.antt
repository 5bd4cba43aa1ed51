-- What each byte of a tape means: this project's own.
use Rattle.std.specs.Prelude.{ℕ, nat_lt, if◌then◌else◌}
use Rattle.run_tape.specs.declared.token.Token.{Token}
use Rattle.run_tape.specs.declared.token.Token.TheVariants.{Count, Digit, Hart, Note}

abbrev pub token : ℕ → Token
token b = if nat_lt b 128 then Count b else (if nat_lt b 192 then Digit b else (if nat_lt b 224 then Hart b else Note))
