-- The file is the definition's, which has this program.
use Rattle.std.proofs.Common.{ℕ, List, sym, subst}
use Rattle.std.proofs.Math.Facts.{Fits-lt-pow}
use Rattle.elf_checks.specs.Reading.{IsImage}
use Rattle.elf_gen.specs.Plain.{plain_program}
use Rattle.elf_gen.proofs.Shown.{plain_image, AreWords}
use Rattle.elf_gen.proofs.bare.plain.Goals as goal

pub returns-clause-image : goal.returns-clause-image
returns-clause-image c = λ plain.
    let words = c.args.words.now in
    let data_bytes = c.args.bytes.now in
    let P : List ℕ → Type 0 = λ file. IsImage file (plain_program words data_bytes) in
    let fit : AreWords words = λ k. Fits-lt-pow (c.type_inv.words k) in
    subst P (sym c.in_ok-laid_out.ensures) (plain_image words data_bytes plain.some plain.below plain.memory fit)
