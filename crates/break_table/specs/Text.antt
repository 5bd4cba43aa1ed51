-- Where a breakpoint may stand.
use Rattle.std.specs.Prelude.{ℕ, ◌%◌, Bool, ◌==◌, ◌&&◌, List}
use Rattle.std.specs.List.{list_any}
use Rattle.elf32_read.specs.Program.{Program, in_text}
use Rattle.elf32_read.specs.Spans.{covers}
use Rattle.elf32_read.specs.declared.spans.Span.{Span}

-- a multiple of 4 in text, by the ranges of the text sections
abbrev pub is_place : List Span → ℕ → Bool
is_place text addr = (addr % 4 == 0) && list_any (covers addr) text

-- the same by the program
abbrev pub is_instruction : Program → ℕ → Bool
is_instruction p addr = (addr % 4 == 0) && in_text p addr
