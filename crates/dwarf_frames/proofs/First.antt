-- The rules before any operation.
use Rattle.std.proofs.Common.{◌<◌, ℕ, refl, arith}
use Rattle.std.proofs.lemmas.List.Elements.{All-replicate}
use Rattle.dwarf_frames.specs.Table.{first_rules}
use Rattle.dwarf_frames.specs.Within.{AreWithin, NamesRegister}
use Rattle.dwarf_frames.specs.declared.rules.RegisterRule.TheVariants.{Unspecified}

pub first_within : (column : ℕ) → column < 32 → AreWithin (first_rules column)
first_within column h =
    record { cfa = omega arith; return_column = h; registers = refl; named = All-replicate NamesRegister 32 Unspecified tt }
