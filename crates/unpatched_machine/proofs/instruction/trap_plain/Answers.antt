use Rattle.std.proofs.Common.{ap, sym, ◌∙◌}
use Rattle.elf32_read.specs.Program.{text_word}
use Rattle.unpatched_machine.proofs.Trapping.{plain_trap}
use Rattle.unpatched_machine.proofs.instruction.trap_plain.Goals as goal

pub returns : goal.returns
returns c =
    let p = c.args.image.now in
    let r = c.args.regs.now in
    c.instruction_trap.ensures ∙ sym (plain_trap p r c.args.memory.now c.in-Some.word c.in-Some-decode.instruction (c.in-Some.ensures ∙ ap (text_word p) c.pc.ensures) c.in-Some-decode.ensures)
