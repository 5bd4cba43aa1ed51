-- A slice of a hart, as steps of the machine.
use Rattle.std.proofs.Common.{◌≡◌, ℕ, zero, suc, ◌+◌, ◌-◌, ◌*◌, ◌/◌, ◌%◌, ◌^◌, ◌<◌, Bool, true, false, true≢false, nat_le, ◌≤◌, ◌&&◌, List, [], ◌∷◌, length, length-set, min, refl, ap, sym, ◌∙◌, subst, arith}
use Rattle.std.specs.Prelude.{Option, Some, None, IsSome, slice_get, slice_set, if◌then◌else◌, ◌==◌}
use Rattle.std.specs.Option.{option_map, option_and_then}
use Rattle.std.proofs.lemmas.Bool.Decides.{nat_tests}
use Rattle.rv_decode.specs.declared.instr.Instr.{Instr}
use Rattle.rv_decode.specs.declared.instr.Instr.TheVariants.{Ebreak}
use Rattle.rv_decode.specs.Decode.{decode}
use Rattle.rv_exec.specs.Registers.{Registers}
use Rattle.rv_exec.specs.Memory.{Memory, no_bytes}
use Rattle.rv_exec.specs.Step.{Outcome, Done, Call, Trap, step}
use Rattle.rv_exec.specs.declared.effect.Stepped.TheVariants as stepped
use Rattle.reg_slices.specs.Slices.{SliceOf, is_register_only, moved, own_step, ran, registers_of, with_memory, word_at}
use Rattle.reg_slices.proofs.Alone.{alone}
use Rattle.plain_machine.specs.Environment.{Goes, Stays}
use Rattle.plain_machine.specs.Plain.{on_outcome}
use Rattle.text_words.specs.declared.fetch.Fetch.TheVariants.{Instruction}
use Rattle.text_words.specs.Words.{Words, IsStoredAt, ebreak, decoded_as, fetched, fetched_as, is_planted, shown, stored}
use Rattle.hart_machine.specs.declared.hart.Core.{Core}
use Rattle.hart_machine.specs.Patched.{Patched}
use Rattle.hart_machine.specs.Poking.{IsOut}
use Rattle.hart_machine.specs.Copying.{with_core}
use Rattle.hart_machine.specs.Stepping.{CoreSteps, InstructionGives, fetched_by, counted}
use Rattle.hart_machine.specs.Slices.{AllInPlace, AreStored, Fits, StretchOf, StretchesTo, TakesSlice, taken_core, window}
use Rattle.hart_machine.proofs.Places.{same_some, set_known, get-set_same}
use Rattle.hart_machine.proofs.Runs.{lifted, text_step}
use Rattle.hart_machine.proofs.Windows.{ebreak_is, window_stored}

-- ---- one instruction of a window

record Moves (words : List ℕ) (addr : ℕ) (r r' : Registers) : Type 0 where
  word : ℕ
  instruction : Instr
  stands : word_at words addr r.pc ≡ Some word
  decodes : decode word ≡ Some instruction
  steps : own_step r instruction ≡ Some r'

by_instruction : (words : List ℕ) (addr : ℕ) (r r' : Registers) (w : ℕ) (o : Option Instr) → word_at words addr r.pc ≡ Some w → decode w ≡ o → option_and_then (own_step r) o ≡ Some r' → Moves words addr r r'
by_instruction words addr r r' w None at e h = cc
by_instruction words addr r r' w (Some i) at e h = record { word = w; instruction = i; stands = at; decodes = e; steps = h }

by_word : (words : List ℕ) (addr : ℕ) (r r' : Registers) (o : Option ℕ) → word_at words addr r.pc ≡ o → option_and_then (own_step r) (option_and_then decode o) ≡ Some r' → Moves words addr r r'
by_word words addr r r' None at h = cc
by_word words addr r r' (Some w) at h = by_instruction words addr r r' w (decode w) at refl h

moves : (words : List ℕ) (addr : ℕ) (r r' : Registers) → moved words addr r ≡ Some r' → Moves words addr r r'
unfolding moved
moves words addr r r' h = by_word words addr r r' (word_at words addr r.pc) refl h

-- the word of a window at pc is one of its words
record Among (words : List ℕ) (addr pc w : ℕ) : Type 0 where
  place : ℕ
  at : pc ≡ addr + 4 * place
  is : slice_get words place ≡ Some w

among_by : (b : Bool) (words : List ℕ) (addr pc w : ℕ) → (b ≡ true → pc ≡ addr + 4 * ((pc - addr) / 4)) → (if b then slice_get words ((pc - addr) / 4) else None) ≡ Some w → Among words addr pc w
among_by true words addr pc w at h = record { place = (pc - addr) / 4; at = at refl; is = h }
among_by false words addr pc w at h = cc

on_place : (addr pc : ℕ) → (nat_le addr pc && ((pc - addr) % 4 == 0)) ≡ true → pc ≡ addr + 4 * ((pc - addr) / 4)
on_place addr pc e = grind (arith, nat_tests)

among : (words : List ℕ) (addr pc w : ℕ) → word_at words addr pc ≡ Some w → Among words addr pc w
among words addr pc w h = among_by (nat_le addr pc && ((pc - addr) % 4 == 0)) words addr pc w (on_place addr pc) h

-- it is stored at pc
stored_at : (t : Words) (words : List ℕ) (addr pc w : ℕ) → AreStored t addr words → word_at words addr pc ≡ Some w → (pc < 2 ^ 32) × (stored t pc ≡ Some w)
stored_at t words addr pc w all h =
    let a : Among words addr pc w = among words addr pc w h in
    let s : IsStoredAt t addr a.place w = all a.place w a.is in
    (omega (arith, a.at, s.0), ap (stored t) a.at ∙ s.1)

-- ---- what is executed

tested : (b : Bool) (o : Option Registers) (r : Registers) → (if b then o else None) ≡ Some r → b ≡ true
tested true o r e = refl
tested false o r e = cc

only_registers : (r r' : Registers) (i : Instr) → own_step r i ≡ Some r' → is_register_only i ≡ true
only_registers r r' i h = tested (is_register_only i) (registers_of (step i r no_bytes)) r' h

-- no breakpoint is planted at an instruction that touches registers alone
unplanted : (o : Option ℕ) (b : Bool) (w : ℕ) (i : Instr) → option_map (λ v. if b then ebreak else v) o ≡ Some w → decode w ≡ Some i → is_register_only i ≡ true
    → IsSome o × ((b ≡ false) × (fetched_as o b ≡ Instruction i))
unplanted None b w i e d only = cc
unplanted (Some v) true w i e d only =
    let same : Ebreak ≡ i = same_some Ebreak i (ebreak_is ∙ (ap decode (same_some ebreak w e) ∙ d)) in
    absurd (true≢false (sym (ap is_register_only same ∙ only)))
unplanted (Some v) false w i e d only = (refl, (refl, ap decoded_as (ap decode (same_some v w e) ∙ d)))

-- it is done in any memory
done : (o : Outcome) (m : Memory) (r r' : Registers) → registers_of o ≡ Some r' → on_outcome r m (with_memory m o) ≡ Goes r' m [] Stays
done (Done q n) m r r' e = ap (λ s. Goes s m [] Stays) (same_some q r' e)
done Call m r r' e = cc
done (Trap cause) m r r' e = cc

gives : (r r' : Registers) (i : Instr) (m : Memory) → own_step r i ≡ Some r' → InstructionGives stepped.Ran i r r' m m
gives r r' i m h =
    let only : is_register_only i ≡ true = only_registers r r' i h in
    let is : registers_of (step i r no_bytes) ≡ Some r' = ap (λ b. if b then registers_of (step i r no_bytes) else None) (sym only) ∙ h in
    ap (on_outcome r m) (alone i r m no_bytes only) ∙ done (step i r no_bytes) m r r' is

-- ---- as many steps

pub none_taken : (c : Core) (r : Registers) → c.retired < 2 ^ 64 → c.regs ≡ r → taken_core c 0 r ≡ c
none_taken c r low same =
    let few : min (c.retired + 0) (2 ^ 64 - 1) ≡ c.retired = omega arith in
    ap (λ (q : Registers). let d : Core = record c { regs = q; retired = min (c.retired + 0) (2 ^ 64 - 1) } in d) (sym same)
    ∙ ap (λ (n : ℕ). let d : Core = record c { retired = n } in d) few

record Parts (words : List ℕ) (addr : ℕ) (o : Option Registers) (r : Registers) : Type 0 where
  before : Registers
  is : o ≡ Some before
  moves : moved words addr before ≡ Some r

parts : (words : List ℕ) (addr : ℕ) (o : Option Registers) (r : Registers) → option_and_then (moved words addr) o ≡ Some r → Parts words addr o r
parts words addr None r h = cc
parts words addr (Some q) r h = record { before = q; is = refl; moves = h }

module _ (old : Patched) (h : ℕ) (c : Core) (at : slice_get old.cores h ≡ Some c) (out : c.entered ≡ None) (few : c.retired < 2 ^ 64) (words : List ℕ) (addr : ℕ) (all : AreStored old.text addr words) where
  all_in_place : (n : ℕ) (r : Registers) → ran words addr c.regs n ≡ Some r → AllInPlace n old h (with_core old h (taken_core c n r))
  all_in_place zero r e =
      ap (with_core old h) (none_taken c r few (same_some c.regs r e)) ∙ ap (λ (cs : List Core). record old { cores = cs }) (set_known old.cores h c at)
  all_in_place (suc n) r e =
      let p : Parts words addr (ran words addr c.regs n) r = parts words addr (ran words addr c.regs n) r e in
      let q : Registers = p.before in
      let d : Core = taken_core c n q in
      let d' : Core = taken_core c (suc n) r in
      let k : Moves words addr q r = moves words addr q r p.moves in
      let s : (q.pc < 2 ^ 32) × (stored old.text q.pc ≡ Some k.word) = stored_at old.text words addr q.pc k.word all k.stands in
      let u : IsSome (shown old.text q.pc) × ((is_planted old.text q.pc ≡ false) × (fetched old.text q.pc ≡ Instruction k.instruction)) =
      unplanted (shown old.text q.pc) (is_planted old.text q.pc) k.word k.instruction s.1 k.decodes (only_registers q r k.instruction k.steps) in
      let one : d'.retired ≡ counted stepped.Ran d.retired = omega arith in
      let goes : CoreSteps stepped.Ran (fetched_by old.text old.slots d) d d' old.memory old.memory =
      text_step old.text old.slots d d' old.memory old.memory k.instruction out u.1.1 (gives q r k.instruction old.memory k.steps) one refl refl in
      record {
        machine = with_core old h d;
        before = all_in_place n q p.is;
        core = d;
        there = get-set_same old.cores h d c at;
        out = out;
        low = s.0;
        in_text = u.0;
        unplanted = u.1.0;
        step = lifted old h c at stepped.Ran d d' old.memory old.memory s.0 goes;
        kept = refl;
      }

-- a slice that is taken where it fits is as many steps, none of them at a breakpoint
pub slice_is_steps : (old new : Patched) (h addr n : ℕ) (r after : Registers) (words : List ℕ) → (f : Fits old h r addr words) → f.core.retired < 2 ^ 64 → SliceOf r addr words n after
    → TakesSlice old h n after new → AllInPlace n old h new
slice_is_steps old new h addr n r after words f few slice takes =
    subst (λ (m : Patched). AllInPlace n old h m) (sym (takes f.core f.there))
    (all_in_place old h f.core f.there f.out few words addr f.stored n after (ap (λ q. ran words addr q n) f.regs ∙ slice))

-- the registers after a slice, put into a machine that is known by another name
pub takes_slice : (m m' : Patched) (h n : ℕ) (r : Registers) (c : Core) (retired : ℕ) → m ≡ m' → slice_get m.cores h ≡ Some c → retired ≡ min (c.retired + n) (2 ^ 64 - 1)
    → TakesSlice m' h n r (record m { cores = slice_set m.cores h (record c { regs = r; retired = retired }) })
takes_slice m m' h n r c retired e at counts =
    let new : Patched = record m { cores = slice_set m.cores h (record c { regs = r; retired = retired }) } in
    subst (λ (b : Patched). TakesSlice b h n r new) e
    (λ d seen.
    ap (λ (k : ℕ). with_core m h (record c { regs = r; retired = k })) counts
    ∙ ap (λ (b : Core). with_core m h (taken_core b n r)) (same_some c d (sym at ∙ seen)))

-- ---- a window that is executed where it stands

pub core_there : (cs : List Core) (h : ℕ) → h < length cs → (c : Core) × (slice_get cs h ≡ Some c)
core_there [] h low = absurd (omega arith)
core_there (c ∷ cs) zero low = (c, refl)
core_there (c ∷ cs) (suc h) low = core_there cs h (omega arith)

-- a hart in no slot, its registers and the window at its pc
pub fits_window : (m : Patched) (h hart at : ℕ) (r : Registers) (words : List ℕ) (c : Core) → hart ≡ h → slice_get m.cores h ≡ Some c → c.entered ≡ None → r ≡ c.regs → at < 2 ^ 32 → words ≡ window m.text at → Fits m hart r at words
fits_window m h hart at r words c same there out is low are =
    record { core = c; there = ap (slice_get m.cores) same ∙ there; out = out; regs = sym is; stored = subst (AreStored m.text at) (sym are) (window_stored m.text at low) }

pub as_many_harts : (old new : Patched) (h n : ℕ) (r : Registers) → h < length old.cores → TakesSlice old h n r new → length new.cores ≡ length old.cores
as_many_harts old new h n r low takes =
    let c = core_there old.cores h low in
    ap (λ (m : Patched). length m.cores) (takes c.0 c.1) ∙ length-set old.cores h (taken_core c.0 n r)

module _ (m m' : Patched) (h limit n at retired : ℕ) (k : Core) (after : Registers) (is : m ≡ m') (there : slice_get m.cores h ≡ Some k) (pc : at ≡ k.regs.pc) (leads : SliceOf k.regs at (window m.text at) n after)
    (counts : retired ≡ min (k.retired + n) (2 ^ 64 - 1)) where
  abbrev new : Patched
  new = record m { cores = slice_set m.cores h (record k { regs = after; retired = retired }) }

  pub stretched : ((i : ℕ) (q : Registers) → i ≤ limit → SliceOf k.regs at (window m.text at) i q → i ≤ n) → StretchesTo m' h limit n new
  stretched greatest =
      let stretch : StretchOf m h limit n new k = record {
        after = after;
        leads = subst (λ a. SliceOf k.regs a (window m.text a) n after) pc leads;
        greatest = subst (λ a. (i : ℕ) (q : Registers) → i ≤ limit → SliceOf k.regs a (window m.text a) i q → i ≤ n) pc greatest;
        takes = takes_slice m m h n after k retired refl there counts;
      } in
      subst (λ (b : Patched). StretchesTo b h limit n new) is
      (λ c seen. subst (λ (d : Core). StretchOf m h limit n new d) (same_some k c (sym there ∙ seen)) stretch)

  pub stretched_steps : at < 2 ^ 32 → k.retired < 2 ^ 64 → IsOut m' h → AllInPlace n m' h new
  unfolding fits_window
  stretched_steps low few =
      subst (λ (b : Patched). IsOut b h → AllInPlace n b h new) is
      (λ out. slice_is_steps m new h at n k.regs after (window m.text at) (fits_window m h h at k.regs (window m.text at) k refl there (out k there) refl low refl) few leads (takes_slice m m h n after k retired refl there counts))
