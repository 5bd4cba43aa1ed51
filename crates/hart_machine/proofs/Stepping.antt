-- A step of one hart, as a step of the machine.
use Rattle.std.proofs.Common.{◌≡◌, ℕ, ◌<◌, ◌^◌, Bool, true, false, List, refl, ap, ◌∙◌, subst, arith}
use Rattle.std.specs.Prelude.{Option, Some, None, slice_get, slice_set, if◌then◌else◌}
use Rattle.rv_exec.specs.Registers.{Registers}
use Rattle.rv_exec.specs.Memory.{Memory}
use Rattle.rv_exec.specs.declared.effect.Stepped.{Stepped}
use Rattle.rv_exec.specs.declared.effect.Stepped.TheVariants as stepped
use Rattle.text_words.specs.declared.fetch.Fetch.{Fetch}
use Rattle.text_words.specs.declared.fetch.Fetch.TheVariants as fetch
use Rattle.hart_machine.specs.declared.hart.Core.{Core}
use Rattle.hart_machine.specs.Patched.{Patched}
use Rattle.hart_machine.specs.Stepping.{CoreSteps, FetchGives, StepsTo, fetch_of, has_run, is_in_slot, counted}
use Rattle.hart_machine.proofs.Places.{set_known}

-- the same where the machine and the core are known by other names
pub steps_to : (m m' : Patched) (h : ℕ) (c d c' : Core) (memory : Memory) (s : Stepped) → m ≡ m' → slice_get m'.cores h ≡ Some c → d ≡ c
    → d.regs.pc < 2 ^ 32 → CoreSteps s (fetch_of m d) d c' m.memory memory → StepsTo s m' h c (record m { cores = slice_set m.cores h c'; memory = memory })
steps_to m m' h c d c' memory s e at same low k =
    let P : Patched → Type 0 = λ n. slice_get n.cores h ≡ Some c → StepsTo s n h c (record m { cores = slice_set m.cores h c'; memory = memory }) in
    let Q : Core → Type 0 = λ b. CoreSteps s (fetch_of m b) b c' m.memory memory in
    let goes : CoreSteps s (fetch_of m c) c c' m.memory memory = subst Q same k in
    let below : c.regs.pc < 2 ^ 32 = omega (arith, low, ap (λ (b : Core). b.regs.pc) same) in
    subst P e (λ at'. record { core = c'; memory = memory; below = below; steps = goes; machine = refl }) at

-- a step that executes no instruction leaves registers and memory
gives_same : (s : Stepped) (f : Fetch) (r r' : Registers) (m m' : Memory) → has_run s ≡ false → FetchGives s f r r' m m' → (r' ≡ r) × (m' ≡ m)
gives_same s fetch.Planted r r' m m' e g = (g.1, g.2)
gives_same stepped.Hit fetch.Absent r r' m m' e g = absurd g
gives_same stepped.Hit fetch.Illegal r r' m m' e g = absurd g
gives_same stepped.Hit (fetch.Instruction i) r r' m m' e g = absurd g
gives_same (stepped.Trap cause) fetch.Absent r r' m m' e g = (g.1, g.2)
gives_same (stepped.Trap cause) fetch.Illegal r r' m m' e g = (g.1, g.2)
gives_same (stepped.Trap cause) (fetch.Instruction i) r r' m m' e g = (g.1, g.2)
gives_same stepped.Ran f r r' m m' e g = cc
gives_same (stepped.Wrote addr len) f r r' m m' e g = cc
gives_same (stepped.HartExit code) f r r' m m' e g = cc
gives_same (stepped.AllExit code) f r r' m m' e g = cc

counts_same : (s : Stepped) (b : Bool) (n : ℕ) → has_run s ≡ false → (if b then counted s n else n) ≡ n
counts_same stepped.Hit true n e = refl
counts_same (stepped.Trap cause) true n e = refl
counts_same s false n e = refl
counts_same stepped.Ran true n e = cc
counts_same (stepped.Wrote addr len) true n e = cc
counts_same (stepped.HartExit code) true n e = cc
counts_same (stepped.AllExit code) true n e = cc

-- and everything else of its hart
pub core_same : (s : Stepped) (f : Fetch) (c c' : Core) (m m' : Memory) → has_run s ≡ false → CoreSteps s f c c' m m' → (c' ≡ c) × (m' ≡ m)
core_same s f c c' m m' e k =
    let same : (c'.regs ≡ c.regs) × (m' ≡ m) = gives_same s f c.regs c'.regs m m' e k.gives in
    let retired : c'.retired ≡ c.retired = k.retired ∙ counts_same s true c.retired e in
    let copied : c'.copied ≡ c.copied = k.copied ∙ counts_same s (is_in_slot c) c.copied e in
    let entered : c'.entered ≡ c.entered = k.entered ∙ ap (λ b. if b then None else c.entered) e in
    let core : c' ≡ c =
    ap (λ (r : Registers). let d : Core = record { regs = r; retired = c'.retired; copied = c'.copied; entered = c'.entered } in d) same.0
    ∙ (ap (λ (n : ℕ). let d : Core = record { regs = c.regs; retired = n; copied = c'.copied; entered = c'.entered } in d) retired
    ∙ (ap (λ (n : ℕ). let d : Core = record { regs = c.regs; retired = c.retired; copied = n; entered = c'.entered } in d) copied
    ∙ ap (λ (o : Option ℕ). let d : Core = record { regs = c.regs; retired = c.retired; copied = c.copied; entered = o } in d) entered)) in
    (core, same.1)

pub machine_same : (s : Stepped) (old new : Patched) (h : ℕ) (c : Core) → slice_get old.cores h ≡ Some c → has_run s ≡ false → StepsTo s old h c new → new ≡ old
machine_same s old new h c at e t =
    let same : (t.core ≡ c) × (t.memory ≡ old.memory) = core_same s (fetch_of old c) c t.core old.memory t.memory e t.steps in
    t.machine ∙ (ap (λ (d : Core). record old { cores = slice_set old.cores h d; memory = t.memory }) same.0
    ∙ (ap (λ (m : Memory). record old { cores = slice_set old.cores h c; memory = m }) same.1
    ∙ ap (λ (cs : List Core). record old { cores = cs }) (set_known old.cores h c at)))
