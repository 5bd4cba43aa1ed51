-- The file is the definition's, which has this program.
use Rattle.std.proofs.Common.{◌≡◌, ℕ, List, rules, sym, subst}
use Rattle.elf_checks.specs.Reading.{IsImage}
use Rattle.elf_gen.specs.Generated.{generated_file, generated_program}
use Rattle.elf_gen.proofs.Accepted.{generated_image}
use Rattle.elf_gen.proofs.generated.generate.Goals as goal

pub returns-clause-image : goal.returns-clause-image
returns-clause-image c =
    let bytes : c.put_debug.new.file.items ≡ generated_file c.args.number = search rules in
    let P : List ℕ → Type 0 = λ file. IsImage file (generated_program c.args.number) in
    subst P (sym bytes) (generated_image c.args.number)
