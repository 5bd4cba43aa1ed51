-- A step of one hart, as a step of the machine; and the harts as they start.
use Rattle.std.proofs.Common.{◌≡◌, ℕ, suc, false, [], ◌∷◌, ◌++◌, map, refl, subst}
use Rattle.std.specs.Prelude.{Some, slice_get, slice_set}
use Rattle.std.proofs.lemmas.List.{map-append}
use Rattle.rv_exec.specs.Registers.{Registers}
use Rattle.rv_exec.specs.Memory.{Memory}
use Rattle.rv_exec.specs.declared.effect.Stepped.{Stepped}
use Rattle.elf32_read.specs.Program.{Program}
use Rattle.plain_machine.specs.Answers.{StepGives}
use Rattle.plain_machine.specs.Plain.{plain, first_registers}
use Rattle.plain_machine.specs.PlainRun.{first_harts}
use Rattle.unpatched_machine.specs.Unpatched.{Unpatched, PlainStepsTo, registers_of}

-- the same where the machine and the registers are known by other names
pub steps_to : (n n' : Unpatched) (h : ℕ) (r q r' : Registers) (memory : Memory) (s : Stepped) → n ≡ n' → slice_get n'.harts h ≡ Some r → q ≡ r
    → StepGives s (plain n.program q n.memory) q r' n.memory memory → PlainStepsTo s n' h r (record n { harts = slice_set n.harts h r'; memory = memory })
steps_to n n' h r q r' memory s e at same gives =
    let P : Unpatched → Type 0 = λ o. slice_get o.harts h ≡ Some r → PlainStepsTo s o h r (record n { harts = slice_set n.harts h r'; memory = memory }) in
    let Q : Registers → Type 0 = λ b. StepGives s (plain n.program b n.memory) b r' n.memory memory in
    subst P e (λ at'. record { regs = r'; memory = memory; gives = subst Q same gives; machine = refl }) at

-- one more hart
pub one_more : (p : Program) (harts n : ℕ) → map registers_of (first_harts p harts (suc n)) ≡ map registers_of (first_harts p harts n) ++ first_registers p.entry harts n ∷ []
one_more p harts n = map-append registers_of (first_harts p harts n) (record { regs = first_registers p.entry harts n; has_exited = false } ∷ [])
