-- A step of the machine is the next step of a run.
use Rattle.std.proofs.Common.{◌≡◌, ℕ, zero, suc, false, cond, List, [], ◌∷◌, map, refl, sym, ap, ◌∙◌, subst}
use Rattle.std.specs.Prelude.{MatchOption, Option, None, Some, slice_get, slice_set}
use Rattle.rv_exec.specs.Registers.{Registers}
use Rattle.rv_exec.specs.Memory.{Memory}
use Rattle.rv_exec.specs.declared.effect.Stepped.{Stepped}
use Rattle.rv_exec.specs.declared.effect.Stepped.TheVariants as stepped
use Rattle.elf32_read.specs.Program.{Program}
use Rattle.plain_machine.specs.Environment.{Answer, Goes, Leave, Stays, LeavesAlone, LeavesAll}
use Rattle.plain_machine.specs.Answers.{StepGives}
use Rattle.plain_machine.specs.Plain.{plain}
use Rattle.plain_machine.specs.PlainRun.{PlainHart, PlainState, Step, gone, gone_at, without_leavers, plain_after, plain_step, take_item}
use Rattle.unpatched_machine.specs.Unpatched.{Unpatched, PlainSteps, Shows, IsTrap, GoesOn, registers_of}

same_some : {A : Type 0} (x y : A) → Some x ≡ Some y → x ≡ y
same_some x y h = cc

at_map : (xs : List PlainHart) (h : ℕ) (x : PlainHart) → slice_get xs h ≡ Some x → slice_get (map registers_of xs) h ≡ Some x.regs
at_map [] h x e = cc
at_map (y ∷ ys) zero x e = ap (λ z. Some (registers_of z)) (same_some y x e)
at_map (y ∷ ys) (suc h) x e = at_map ys h x e

map-set : (xs : List PlainHart) (h : ℕ) (x : PlainHart) → map registers_of (slice_set xs h x) ≡ slice_set (map registers_of xs) h x.regs
map-set [] h x = refl
map-set (y ∷ ys) zero x = refl
map-set (y ∷ ys) (suc h) x = ap (λ rs. y.regs ∷ rs) (map-set ys h x)

map-gone : (xs : List PlainHart) → map registers_of (map gone xs) ≡ map registers_of xs
map-gone [] = refl
map-gone (x ∷ xs) = ap (λ rs. x.regs ∷ rs) (map-gone xs)

-- a hart keeps its registers when it leaves
gone_here : (xs : List PlainHart) (h : ℕ) (x : PlainHart) → slice_get xs h ≡ Some x → map registers_of (slice_set xs h (gone x)) ≡ map registers_of xs
gone_here [] h x e = refl
gone_here (y ∷ ys) zero x e = ap (λ z. registers_of z ∷ map registers_of ys) (sym (same_some y x e))
gone_here (y ∷ ys) (suc h) x e = ap (λ rs. y.regs ∷ rs) (gone_here ys h x e)

map-gone_at : (xs : List PlainHart) (h : ℕ) (o : Option PlainHart) → slice_get xs h ≡ o → map registers_of (gone_at xs h o) ≡ map registers_of xs
map-gone_at xs h None e = refl
map-gone_at xs h (Some x) e = gone_here xs h x e

map-leavers : (xs : List PlainHart) (h : ℕ) (leave : Leave) → map registers_of (without_leavers xs h leave) ≡ map registers_of xs
map-leavers xs h Stays = refl
map-leavers xs h (LeavesAlone code) = map-gone_at xs h (slice_get xs h) refl
map-leavers xs h (LeavesAll code) = map-gone xs

-- the machine after a step of a hart
abbrev stepped_to : Program → PlainState → ℕ → Registers → Memory → Unpatched
stepped_to p t h r m = record { program = p; harts = slice_set (map registers_of t.harts) h r; memory = m }

goes : (p : Program) (t : PlainState) (h : ℕ) (r : Registers) (m : Memory) (out : List ℕ) (leave : Leave) (T : Type 0) → MatchOption (plain_after t h (Goes r m out leave)) T (λ u. Shows (stepped_to p t h r m) u)
goes p t h r m out leave T =
    let x : PlainHart = record { regs = r; has_exited = false } in
    record { harts = map-leavers (slice_set t.harts h x) h leave ∙ map-set t.harts h x; memory = refl }

on_answer : (s : Stepped) (p : Program) (t : PlainState) (h : ℕ) (q r : Registers) (m : Memory) (a : Answer) → StepGives s a q r t.memory m → MatchOption (plain_after t h a) (IsTrap s) (λ u. Shows (stepped_to p t h r m) u)
on_answer stepped.Ran p t h q r m a e = subst (λ b. MatchOption (plain_after t h b) ⊥ (λ u. Shows (stepped_to p t h r m) u)) (sym e) (goes p t h r m [] Stays ⊥)
on_answer (stepped.Wrote addr len) p t h q r m a e = subst (λ b. MatchOption (plain_after t h b) ⊥ (λ u. Shows (stepped_to p t h r m) u)) (sym e.3) (goes p t h r m e.0 Stays ⊥)
on_answer (stepped.HartExit code) p t h q r m a e = subst (λ b. MatchOption (plain_after t h b) ⊥ (λ u. Shows (stepped_to p t h r m) u)) (sym e) (goes p t h r m [] (LeavesAlone code) ⊥)
on_answer (stepped.AllExit code) p t h q r m a e = subst (λ b. MatchOption (plain_after t h b) ⊥ (λ u. Shows (stepped_to p t h r m) u)) (sym e) (goes p t h r m [] (LeavesAll code) ⊥)
on_answer stepped.Hit p t h q r m a e = absurd e
on_answer (stepped.Trap cause) p t h q r m a e = subst (λ b. MatchOption (plain_after t h b) (Unit {0}) (λ u. Shows (stepped_to p t h r m) u)) (sym e.0) tt

item_is : (p : Program) (t : PlainState) (h : ℕ) (x : PlainHart) → slice_get t.harts h ≡ Some x → x.has_exited ≡ false → take_item p t (Step h) ≡ plain_after t h (plain p x.regs t.memory)
item_is p t h x at live = ap (plain_step p t h) at ∙ ap (λ b. cond b None (plain_after t h (plain p x.regs t.memory))) live

pub goes_on : (s : Stepped) (old new : Unpatched) (h : ℕ) → PlainSteps s old h new → GoesOn s old h new
goes_on s old new h steps t x shows at live =
    let there : slice_get old.harts h ≡ Some x.regs = subst (λ rs. slice_get rs h ≡ Some x.regs) shows.harts (at_map t.harts h x at) in
    let step = steps x.regs there in
    let gives : StepGives s (plain old.program x.regs t.memory) x.regs step.regs t.memory step.memory = subst (λ m. StepGives s (plain old.program x.regs m) x.regs step.regs m step.memory) (sym shows.memory) step.gives in
    let P : Unpatched → Type 0 = λ n. MatchOption (take_item old.program t (Step h)) (IsTrap s) (λ u. Shows n u) in
    let done : P (stepped_to old.program t h step.regs step.memory) = subst
    (λ o. MatchOption o (IsTrap s) (λ u. Shows (stepped_to old.program t h step.regs step.memory) u)) (sym (item_is old.program t h x at live))
    (on_answer s old.program t h x.regs step.regs step.memory (plain old.program x.regs t.memory) gives) in
    let there' : P (record old { harts = slice_set old.harts h step.regs; memory = step.memory }) = subst (λ rs. P (record old { harts = slice_set rs h step.regs; memory = step.memory })) shows.harts done in
    subst P (sym step.machine) there'
