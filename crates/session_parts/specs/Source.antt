-- Where the program and the lines of a run come from: from a file and the input, or from a number. This project's own.
use Rattle.std.specs.Prelude.{ℕ, Bool, true, List, Option, Some}
use Rattle.dbg_traits.specs.Told.{Told}
use Rattle.elf_gen.specs.Generated.{generated_file}
use Rattle.elf_gen.specs.Script.{script_text}
use Rattle.session_parts.specs.declared.file.Source.{Source}
use Rattle.session_parts.specs.declared.file.Source.TheVariants.{File, Generated}

-- the bytes of the program's file, where they are told
abbrev pub file_bytes : Source → Told → Option (List ℕ)
file_bytes (File name) t = t.file_taken
file_bytes (Generated n) t = Some (generated_file n)

-- the input, where it is told
abbrev pub input_bytes : Source → Told → Option (List ℕ)
input_bytes (File name) t = t.polled
input_bytes (Generated n) t = Some (script_text n)

-- whether the input has ended
abbrev pub input_ended : Source → Told → Bool
input_ended (File name) t = t.poll_ended
input_ended (Generated n) t = true
