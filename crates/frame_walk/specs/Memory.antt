-- The words that a program can load, little-endian and at any address.
use Rattle.std.specs.Prelude.{ℕ, Option, None, if◌then◌else◌}
use Rattle.std.specs.Result.{result_ok}
use Rattle.elf32_read.specs.Program.{Program, in_text}
use Rattle.dbg_traits.specs.Numbers.{number_at}

-- the bytes that a program can load: those of text it can't
abbrev pub data_bytes : Program → (ℕ → Option ℕ) → ℕ → Option ℕ
data_bytes image bytes addr = if in_text image addr then None else bytes addr

-- the word at an address; none where one of its bytes can't be read
abbrev pub word_at : (ℕ → Option ℕ) → ℕ → Option ℕ
word_at bytes addr = result_ok (number_at bytes 4 addr)
