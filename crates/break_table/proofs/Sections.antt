-- Where text stands, by the program and by the ranges of its sections.
use Rattle.std.proofs.Common.{◌≡◌, ℕ, ◌%◌, Bool, ap}
use Rattle.std.specs.Prelude.{◌==◌, ◌&&◌}
use Rattle.elf32_read.specs.Program.{Program}
use Rattle.elf32_read.specs.TextSpans.{text_spans}
use Rattle.elf32_read.proofs.Ordered.{any_text_span}
use Rattle.break_table.specs.Text.{is_instruction, is_place}

pub is_place-text_spans : (p : Program) (addr : ℕ) → is_place (text_spans p) addr ≡ is_instruction p addr
is_place-text_spans p addr = ap (λ (inside : Bool). (addr % 4 == 0) && inside) (any_text_span p addr)
