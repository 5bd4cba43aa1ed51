-- Steps of a hart that stays within some addresses, as steps of the machine.
use Rattle.std.proofs.Common.{◌≡◌, ℕ, zero, suc, ◌+◌, ◌<◌, ◌^◌, Bool, true, List, ap, sym, ◌∙◌, subst, refl, arith, add-one}
use Rattle.std.specs.Prelude.{Some, None, slice_get, slice_set}
use Rattle.rv_exec.specs.declared.effect.Stepped.TheVariants as stepped
use Rattle.rv_exec.specs.Memory.{Memory}
use Rattle.rv_exec.specs.Registers.{Registers}
use Rattle.text_words.specs.Words.{Words, fetched}
use Rattle.hart_machine.specs.declared.hart.Core.{Core}
use Rattle.hart_machine.specs.Patched.{Patched}
use Rattle.hart_machine.specs.Stepping.{FetchGives, counted}
use Rattle.hart_machine.specs.Slices.{taken_core}
use Rattle.hart_machine.specs.Within.{AllRanAt, CoreRanAt, RegistersRanAt, StepsAt, is_inner}
use Rattle.hart_machine.proofs.Places.{set_known, get-set_same}
use Rattle.hart_machine.proofs.Runs.{fetched_step, lifted}
use Rattle.hart_machine.proofs.Slices.{none_taken}

-- one more step of the registers
pub one_more_at : (P : ℕ → Bool) (n earlier : ℕ) (t : Words) (old mid new : Registers) (m q m' : Memory) (addr : ℕ) → mid.pc ≡ addr
    → RegistersRanAt P n earlier t old m mid q → mid.pc < 2 ^ 32 → P addr ≡ true → is_inner (fetched t mid.pc) ≡ true
    → FetchGives stepped.Ran (fetched t mid.pc) mid new q m' → RegistersRanAt P (n + 1) addr t old m new m'
one_more_at P n earlier t old mid new m q m' addr pc ran low holds inner gives =
    rw add-one (record { regs = mid; memory = q; earlier = earlier; before = ran; below = low; pc = pc; holds = holds; inner = subst (λ a. is_inner (fetched t a) ≡ true) pc inner; gives = gives })

-- of a hart that counts them
pub core_at : (P : ℕ → Bool) (n last : ℕ) (t : Words) (c d : Core) (m m' : Memory) → c.entered ≡ None → c.retired < 2 ^ 64 → RegistersRanAt P n last t c.regs m d.regs m' → d ≡ taken_core c n d.regs → CoreRanAt P n last t c m d m'
core_at P zero last t c d m m' out few k is = (is ∙ none_taken c d.regs few (sym k.0), k.1)
core_at P (suc n) last t c d m m' out few k is = record { out = out; few = few; runs = k; core = is }

-- a machine with this hart and this memory
abbrev with_hart : Patched → ℕ → Core → Memory → Patched
with_hart old h d m = record old { cores = slice_set old.cores h d; memory = m }

module _ (P : ℕ → Bool) (old : Patched) (h : ℕ) (c : Core) (at : slice_get old.cores h ≡ Some c) (out : c.entered ≡ None) (few : c.retired < 2 ^ 64) where
  -- the machine with these registers of the hart after n instructions, and this memory
  abbrev after : ℕ → Registers → Memory → Patched
  after n r m = with_hart old h (taken_core c n r) m

  step_at : (n addr : ℕ) (r r' : Registers) (m m' : Memory) → r.pc < 2 ^ 32 → r.pc ≡ addr → P addr ≡ true → is_inner (fetched old.text addr) ≡ true
      → FetchGives stepped.Ran (fetched old.text r.pc) r r' m m' → StepsAt P addr (after n r m) h (after (suc n) r' m')
  step_at n addr r r' m m' low pc holds inner gives =
      let d : Core = taken_core c n r in
      let d' : Core = taken_core c (suc n) r' in
      let one : d'.retired ≡ counted stepped.Ran d.retired = omega arith in
      record {
        core = d;
        at = get-set_same old.cores h d c at;
        pc = pc;
        holds = holds;
        inner = inner;
        step = lifted old h c at stepped.Ran d d' m m' low (fetched_step old.text old.slots d d' m m' out gives one refl refl);
      }

  pub ran_at : (n last : ℕ) (r : Registers) (m : Memory) → RegistersRanAt P n last old.text c.regs old.memory r m → AllRanAt P n last old h (after n r m)
  ran_at zero last r m k =
      ap (λ (e : Core). with_hart old h e m) (none_taken c r few (sym k.0)) ∙ ap (λ (q : Memory). with_hart old h c q) k.1 ∙ ap (λ (cs : List Core). record old { cores = cs }) (set_known old.cores h c at)
  ran_at (suc n) last r m k =
      record { machine = after n k.regs k.memory; earlier = k.earlier; before = ran_at n k.earlier k.regs k.memory k.before; step = step_at n last k.regs r k.memory m k.below k.pc k.holds k.inner k.gives }

core_ran_at : (P : ℕ → Bool) (m : Patched) (h : ℕ) (c d : Core) (q : Memory) (n last : ℕ) → slice_get m.cores h ≡ Some c
    → CoreRanAt P n last m.text c m.memory d q → AllRanAt P n last m h (record m { cores = slice_set m.cores h d; memory = q })
core_ran_at P m h c d q zero last at k =
    ap (λ (e : Core). let b : Patched = record m { cores = slice_set m.cores h e; memory = q } in b) k.0 ∙ ap (λ (u : Memory). let b : Patched = record m { cores = slice_set m.cores h c; memory = u } in b) k.1
    ∙ ap (λ (cs : List Core). record m { cores = cs }) (set_known m.cores h c at)
core_ran_at P m h c d q (suc n) last at k =
    let B : Core → Type 0 = λ e. AllRanAt P (suc n) last m h (record m { cores = slice_set m.cores h e; memory = q }) in
    subst B (sym k.core) (ran_at P m h c at k.out k.few (suc n) last d.regs q k.runs)

-- the same where the machine is known by another name
pub machine_ran_at : (P : ℕ → Bool) (m m' : Patched) (h : ℕ) (c d : Core) (q : Memory) (n last : ℕ) → m ≡ m' → slice_get m.cores h ≡ Some c
    → CoreRanAt P n last m.text c m.memory d q → AllRanAt P n last m' h (record m { cores = slice_set m.cores h d; memory = q })
machine_ran_at P m m' h c d q n last e at k = subst (λ (b : Patched). AllRanAt P n last b h (record m { cores = slice_set m.cores h d; memory = q })) e (core_ran_at P m h c d q n last at k)
