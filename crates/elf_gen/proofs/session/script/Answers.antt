-- The lines before the number, its digits, and the lines behind it.
use Rattle.std.proofs.Common.{ℕ, ◌*◌, ◌∙◌, ap}
use Rattle.std.specs.Prelude.{decimal}
use Rattle.elf_gen.proofs.Joined.{joined_twice}
use Rattle.elf_gen.proofs.session.script.Goals as goal

pub returns : goal.returns
returns c =
    let digits = c.as_bytes.ensures.value ∙ c.format.ensures.text ∙ ap (λ (n : ℕ). decimal (2 * n)) c.from.ensures in
    joined_twice _ _ _ _ _ _ _ c.in_ok-text.ensures.items digits c.in_ok-extend_from_slice.ensures.items c.in_ok-extend_from_slice-2.ensures.items
