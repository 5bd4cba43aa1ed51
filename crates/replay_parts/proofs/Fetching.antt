-- Instructions by their places in the text, and those that were executed one behind another.
use Rattle.std.proofs.Common.{◌≡◌, ◌≤◌, ◌<◌, ◌+◌, ◌^◌, ℕ, zero, suc, Bool, true, false, cond, List, [], ◌∷◌, length, map, refl, sym, ap, ◌∙◌, arith, inl, inr, not, nat_le}
use Rattle.std.specs.Prelude.{◌==◌, ◌&&◌, ◌||◌, min, max, Option, Some, None, IfSome, option_and_then, slice_get, slice_set}
use Rattle.std.specs.FinSet as set
use Rattle.std.specs.FinSet.{contains-empty}
use Rattle.std.proofs.lemmas.Bool.{and_parts}
use Rattle.std.proofs.lemmas.Bool.Decides.{nat_tests}
use Rattle.rv_decode.specs.Decode.{decode}
use Rattle.rv_decode.specs.declared.instr.Instr.{Instr}
use Rattle.rv_exec.specs.Registers.{Registers}
use Rattle.rv_exec.specs.Memory.{Memory}
use Rattle.rv_exec.specs.declared.operation.Operation.{Operation}
use Rattle.rv_exec.specs.Step.{Outcome, Done, Call, Trap, step}
use Rattle.elf32_read.specs.Program.{Program, text_word}
use Rattle.text_words.specs.Words.{Words, decoded_as, fetched, fetched_as, shown, unpatched}
use Rattle.text_words.specs.declared.fetch.Fetch.{Fetch}
use Rattle.text_words.specs.declared.fetch.Fetch.TheVariants.{Absent, Planted, Illegal, Instruction}
use Rattle.text_words.proofs.Below.{word_below}
use Rattle.straight_runs.specs.Runs as runs
use Rattle.straight_runs.specs.Runs.{Ends, EndsAt, RanBy}
use Rattle.plain_machine.specs.Environment.{Goes, Stays}
use Rattle.plain_machine.specs.Plain.{on_word, plain}
use Rattle.break_table.specs.Entry.{Entry as BreakEntry}
use Rattle.break_table.specs.Table.{stands}
use Rattle.step_plans.specs.declared.plan.Plan.{Plan}
use Rattle.dbg_model.specs.Judging.{instruction_at, is_kept}
use Rattle.replay_parts.specs.Further.{AllGo, goes_alone, instruction_of, is_alone, is_done}

-- ---- what is fetched

decoded_instr : (o : Option Instr) → instruction_of (decoded_as o) ≡ o
decoded_instr None = refl
decoded_instr (Some i) = refl

fetched_instr : (o : Option ℕ) (planted : Bool) → planted ≡ false → instruction_of (fetched_as o planted) ≡ option_and_then decode o
fetched_instr None planted off = refl
fetched_instr (Some w) planted off = ap (λ b. instruction_of (fetched_as (Some w) b)) off ∙ decoded_instr (decode w)

found_plain : (p : Program) (addr : ℕ) → addr < 2 ^ 32 → instruction_of (fetched (unpatched p) addr) ≡ instruction_at p addr
found_plain p addr low =
    fetched_instr (shown (unpatched p) addr) (set.contains (unpatched p).planted addr) (contains-empty _ addr)
    ∙ ap (option_and_then decode) (word_below (text_word p) (2 ^ 32) addr low)

-- in text that nothing is planted in
pub found : (p : Program) (t : Words) (addr : ℕ) (f : Fetch) → addr < 2 ^ 32 → t ≡ unpatched p → f ≡ fetched t addr → instruction_of f ≡ instruction_at p addr
found p t addr f low is at = ap instruction_of (at ∙ ap (λ (u : Words). fetched u addr) is) ∙ found_plain p addr low

-- ---- what is executed

by_word : (r r' : Registers) (m m' : Memory) (i : Instr) (w : Option ℕ) → option_and_then decode w ≡ Some i → step i r m ≡ Done r' m' → on_word r m w ≡ Goes r' m' [] Stays
by_word r r' m m' i None at done = cc
by_word r r' m m' i (Some w) at done = rw (at, done) refl

pub plain_goes : (p : Program) (r r' : Registers) (m m' : Memory) (i : Instr) → Some i ≡ instruction_at p r.pc → step i r m ≡ Done r' m' → plain p r m ≡ Goes r' m' [] Stays
unfolding plain
plain_goes p r r' m m' i at done = by_word r r' m m' i (text_word p r.pc) (sym at) done

abbrev pub freely : Plan → List BreakEntry → ℕ → Operation → Bool
freely plan es pc op = is_kept plan pc && not (stands pc es)

not_true : (b : Bool) → not b ≡ true → b ≡ false
not_true true e = sym e
not_true false e = refl

-- instructions that were executed one behind another
pub all_go : (n last : ℕ) (p : Program) (t : Words) (es : List BreakEntry) (plan : Plan) (r r' : Registers) (m m' : Memory) → t ≡ unpatched p → RanBy (freely plan es) n last t r m r' m' → AllGo n p es plan r m r' m'
all_go zero last p t es plan r r' m m' same ran = ran
all_go (suc n) last p t es plan r r' m m' same ran =
    let q : Registers = ran.regs in
    let parts = and_parts (is_kept plan last) (not (stands last es)) ran.allowed in
    let at : Some ran.instruction ≡ instruction_at p last = found p t last (Instruction ran.instruction) (rw ran.pc at ran.below) same (sym ran.stands) in
    record {
      regs = q;
      memory = ran.memory;
      before = all_go n ran.earlier p t es plan r q m ran.memory same ran.before;
      kept = ap (is_kept plan) ran.pc ∙ parts.0;
      clear = ap (λ pc. stands pc es) ran.pc ∙ not_true (stands last es) parts.1;
      gives = plain_goes p q r' ran.memory m' ran.instruction (at ∙ ap (instruction_at p) (sym ran.pc)) ran.done;
    }

-- ---- where it ends

-- the plan doesn't stay, or a breakpoint stands there
pub ends_before : (p : Program) (es : List BreakEntry) (plan : Plan) (r : Registers) (m : Memory) → (is_kept plan r.pc && not (stands r.pc es)) ≡ false → goes_alone p es plan r m ≡ false
ends_before p es plan r m is = by (is_kept plan r.pc) (not (stands r.pc es)) (is_alone (instruction_at p r.pc) r m) is
  where
    by : (a b c : Bool) → (a && b) ≡ false → (a && (b && c)) ≡ false
    by true true c h = cc
    by true false c h = refl
    by false b c h = refl

-- or no instruction is there that is executed by itself
pub ends_there : (p : Program) (es : List BreakEntry) (plan : Plan) (r : Registers) (m : Memory) (i : Option Instr) → i ≡ instruction_at p r.pc → is_alone i r m ≡ false → goes_alone p es plan r m ≡ false
ends_there p es plan r m i at is = by (is_kept plan r.pc) (not (stands r.pc es)) (is_alone (instruction_at p r.pc) r m) (ap (λ j. is_alone j r m) (sym at) ∙ is)
  where
    by : (a b c : Bool) → c ≡ false → (a && (b && c)) ≡ false
    by true true c h = h
    by true false c h = refl
    by false b c h = refl

ends_by : (p : Program) (t : Words) (es : List BreakEntry) (plan : Plan) (r : Registers) (m : Memory) (f : Fetch) → f ≡ fetched t r.pc → r.pc < 2 ^ 32 → t ≡ unpatched p → EndsAt (freely plan es) f r m → goes_alone p es plan r m ≡ false
ends_by p t es plan r m Absent e low same ends = ends_there p es plan r m None (found p t r.pc Absent low same e) refl
ends_by p t es plan r m Planted e low same ends = ends_there p es plan r m None (found p t r.pc Planted low same e) refl
ends_by p t es plan r m Illegal e low same ends = ends_there p es plan r m None (found p t r.pc Illegal low same e) refl
ends_by p t es plan r m (Instruction i) e low same ends =
    elim ends [
      | inl refused ↦ ends_before p es plan r m refused
      | inr stop ↦ ends_there p es plan r m (Some i) (found p t r.pc (Instruction i) low same e) (not_done (step i r m) stop)
    ]
  where
    not_done : (o : Outcome) → runs.is_done o ≡ false → is_done o ≡ false
    not_done (Done r m) e = e
    not_done Call e = refl
    not_done (Trap c) e = refl

-- such a run ends where the hart doesn't go on by itself
pub ends_so : (p : Program) (t : Words) (es : List BreakEntry) (plan : Plan) (r : Registers) (m : Memory) → r.pc < 2 ^ 32 → t ≡ unpatched p → Ends (freely plan es) t r m → goes_alone p es plan r m ≡ false
ends_so p t es plan r m low same ends = ends_by p t es plan r m (fetched t r.pc) refl low same ends
