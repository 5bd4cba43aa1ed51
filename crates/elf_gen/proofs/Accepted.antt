-- A generated file fails no check, and which program it has. Both compute, since only four bytes of its data are open.
use Rattle.std.proofs.Common.{◌≡◌, ℕ, None, refl}
use Rattle.elf_checks.specs.Checks.{fault_of}
use Rattle.elf32_read.specs.Fields.{u16_at, u32_at, name_at}
use Rattle.elf32_read.specs.Headers.{program_of}
use Rattle.elf_checks.specs.Reading.{IsImage}
use Rattle.elf_gen.specs.Generated.{generated_file, generated_program}

generated_accepted : (number : ℕ) → fault_of (generated_file number) ≡ None
unfolding fault_of u16_at u32_at name_at
generated_accepted number = refl

generated_read : (number : ℕ) → generated_program number ≡ program_of (generated_file number)
unfolding program_of u16_at u32_at name_at
generated_read number = refl

pub generated_image : (number : ℕ) → IsImage (generated_file number) (generated_program number)
generated_image number = record { accepted = generated_accepted number; read = generated_read number }
