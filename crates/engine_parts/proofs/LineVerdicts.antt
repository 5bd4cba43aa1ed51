-- Where no other line begins, behind an instruction that neither calls nor returns, the plan of a line goes on.
use Rattle.std.proofs.Common.{◌≡◌, ℕ, ◌+◌, ◌%◌, ◌^◌, ◌<◌, Bool, true, false, cond, refl, sym, ap, ◌∙◌, subst, not}
use Rattle.std.specs.Prelude.{List, Option, Some, None, option_and_then, ◌||◌, ◌&&◌, ◌==◌}
use Rattle.std.specs.Option.{option_map, option_map_or}
use Rattle.rv_decode.specs.Decode.{decode}
use Rattle.rv_decode.specs.declared.instr.Instr.{Instr}
use Rattle.rv_decode.specs.declared.instr.Instr.TheVariants.{Lui, Auipc, Jal, Jalr, Branch, Load, Store, OpImm, Op, MulDiv, Amo, Fence, FenceI, Ecall, Ebreak}
use Rattle.rv_exec.specs.Memory.{Memory}
use Rattle.elf32_read.specs.Program.{Program}
use Rattle.text_words.specs.Words.{decoded_as, fetched, fetched_as, is_planted, shown}
use Rattle.hart_machine.specs.declared.hart.Core.{Core}
use Rattle.hart_machine.specs.Within.{calls_or_returns, is_inner}
use Rattle.line_index.specs.Lines.{begins_another}
use Rattle.break_table.specs.Arrival.{due_of}
use Rattle.break_table.specs.Entry.{Entry as BreakEntry}
use Rattle.step_plans.specs.Arrivals.{jump_by, jump_of}
use Rattle.step_plans.specs.declared.arrival.Jump.TheVariants.{Call, Return, Other}
use Rattle.step_plans.specs.declared.plan.Last.{Last}
use Rattle.step_plans.specs.declared.plan.Plan.{Plan}
use Rattle.step_plans.specs.declared.plan.Plan.TheVariants as plans
use Rattle.step_plans.specs.declared.plan.Verdict.{Verdict}
use Rattle.step_plans.specs.declared.plan.Verdict.TheVariants as verdicts
use Rattle.step_plans.proofs.Cases.{lines_go_on}
use Rattle.dbg_model.specs.Sources.{Sources, sources_of}
use Rattle.dbg_model.specs.Views.{register, shown_byte}
use Rattle.dbg_model.specs.declared.hart.Hart.{Hart}
use Rattle.dbg_model.specs.declared.course.Course.{Course}
use Rattle.dbg_model.specs.Courses.{noted_with}
use Rattle.dbg_model.specs.Judging.{instruction_at, judgement_of, last_at, plan_after, verdict_behind}
use Rattle.dbg_model.specs.State.{State, due}
use Rattle.watch_points.specs.Watches.{fired_by}
use Rattle.engine_parts.specs.declared.mind.Mind.{Mind}
use Rattle.engine_parts.specs.Minds.{ran_mind}
use Rattle.engine_parts.specs.Facts.{Sound, wants_of}
use Rattle.engine_parts.specs.Seen.{Engine, seen, seen_hart}
use Rattle.engine_parts.specs.Staying.{came_within}
use Rattle.engine_parts.proofs.Kept.{kept_by}
use Rattle.engine_parts.proofs.Planting.{shown_image}
use Rattle.engine_parts.proofs.Stepping.{ran_of}

-- ---- what an instruction is for a plan

jump_jal : (b : Bool) (back : ℕ) → not b ≡ true → cond b (Call back) Other ≡ Other
jump_jal true back e = cc
jump_jal false back e = refl

jump_jalr : (a b : Bool) (back : ℕ) → not (a || b) ≡ true → cond a (Call back) (cond b Return Other) ≡ Other
jump_jalr true b back e = cc
jump_jalr false true back e = cc
jump_jalr false false back e = refl

jump_other : (i : Instr) (a : ℕ) → not (calls_or_returns i) ≡ true → jump_of i a ≡ Other
jump_other (Lui rd imm) a e = refl
jump_other (Auipc rd imm) a e = refl
jump_other (Jal rd imm) a e = jump_jal (rd == 1) ((a + 4) % 2 ^ 32) e
jump_other (Jalr rd rs1 imm) a e = jump_jalr (rd == 1) ((rd == 0) && (rs1 == 1)) ((a + 4) % 2 ^ 32) e
jump_other (Branch op rs1 rs2 imm) a e = refl
jump_other (Load op rd rs1 imm) a e = refl
jump_other (Store op rs1 rs2 imm) a e = refl
jump_other (OpImm op rd rs1 imm) a e = refl
jump_other (Op op rd rs1 rs2) a e = refl
jump_other (MulDiv op rd rs1 rs2) a e = refl
jump_other (Amo op rd rs1 rs2) a e = refl
jump_other Fence a e = refl
jump_other FenceI a e = refl
jump_other Ecall a e = refl
jump_other Ebreak a e = refl

noted_by : (o : Option Instr) (addr : ℕ) → option_map_or (λ i. not (calls_or_returns i)) o true ≡ true → jump_by (option_map (λ i. let last : Last = record { instruction = i; address = addr } in last) o) ≡ Other
noted_by None addr e = refl
noted_by (Some i) addr e = jump_other i addr e

noted_other : (p : Program) (noted : Option ℕ) → came_within p noted ≡ true → jump_by (option_and_then (last_at p) noted) ≡ Other
noted_other p None e = refl
noted_other p (Some a) e = noted_by (instruction_at p a) a e

inner_decoded : (o : Option Instr) → is_inner (decoded_as o) ≡ true → option_map_or (λ i. not (calls_or_returns i)) o true ≡ true
inner_decoded None e = cc
inner_decoded (Some i) e = e

inner_word : (o : Option ℕ) (b : Bool) → is_inner (fetched_as o b) ≡ true → option_map_or (λ i. not (calls_or_returns i)) (option_and_then decode o) true ≡ true
inner_word None b e = cc
inner_word (Some w) true e = cc
inner_word (Some w) false e = inner_decoded (decode w) e

-- an instruction of the machine's text is the image's
pub came_next : (q : Engine) (a : ℕ) → Sound q → a < 2 ^ 32 → is_inner (fetched q.machine.text a) ≡ true → came_within q.opening.image (Some a) ≡ true
came_next q a f low inner =
    let image = shown_image q.opening.image q.machine.text (wants_of q) a f.planted low in
    ap (λ (o : Option ℕ). option_map_or (λ i. not (calls_or_returns i)) (option_and_then decode o) true) (sym image) ∙ inner_word (shown q.machine.text a) (is_planted q.machine.text a) inner

-- ---- what is judged

behind_line : (p : Program) (sources : Sources) (file line : ℕ) (into : Bool) (rs : ℕ → ℕ) (noted : Option ℕ) → came_within p noted ≡ true → begins_another file line sources.lines (rs 32) ≡ false
    → verdict_behind p sources (plans.Line file line into) rs noted ≡ verdicts.Go (plans.Line file line into)
unfolding verdict_behind
behind_line p sources file line into rs noted came none = lines_go_on file line into (option_and_then (last_at p) noted) rs sources.lines sources.names (noted_other p noted came) none

course_line : (p : Program) (sources : Sources) (es : List BreakEntry) (h : ℕ) (c : Course) (rs : ℕ → ℕ) (bytes : ℕ → Option ℕ) (file line : ℕ) (into : Bool) → c.plan ≡ plans.Line file line into
    → came_within p c.last ≡ true → begins_another file line sources.lines (rs 32) ≡ false
    → (judgement_of p sources es h c rs bytes).verdict ≡ verdicts.Go c.plan
unfolding judgement_of
course_line p sources es h c rs bytes file line into is came none =
    let V : Plan → Type 0 = λ q. verdict_behind p sources q rs c.last ≡ verdicts.Go q in
    kept_by c.fresh (due_of h rs bytes es) c.fired (verdict_behind p sources c.plan rs c.last) c.plan (subst V (sym is) (behind_line p sources file line into rs c.last came none))

pub line_verdict : (p : Program) (s : State) (h : ℕ) (x : Hart) (file line : ℕ) (into : Bool) → x.course.plan ≡ plans.Line file line into → came_within p x.course.last ≡ true → begins_another file line (sources_of p).lines x.regs.pc ≡ false
    → (due p s h x).verdict ≡ verdicts.Go x.course.plan
unfolding due
line_verdict p s h x file line into is came none = course_line p (sources_of p) s.breaks h x.course (register x.regs) (shown_byte p s.memory) file line into is came none

-- what is kept of a hart on a line after an instruction at this address that made no watch fire
abbrev pub line_ran : ℕ → Mind → Mind
line_ran addr x = ran_mind x.course.plan (Some addr) None x

line_noted : (q : Plan) (file line : ℕ) (into : Bool) (pc : ℕ) → q ≡ plans.Line file line into → noted_with q pc ≡ Some pc
line_noted q file line into pc is = ap (λ (r : Plan). noted_with r pc) is

pub ran_line : (q : Engine) (h : ℕ) (c : Core) (x : Mind) (m : Memory) (file line : ℕ) (into : Bool) → x.course.plan ≡ plans.Line file line into
    → (due q.opening.image (seen q) h (seen_hart q.opening.image c x)).verdict ≡ verdicts.Go x.course.plan
    → fired_by q.watches q.machine.memory m ≡ None → ran_of q h c x m ≡ line_ran (seen_hart q.opening.image c x).regs.pc x
ran_line q h c x m file line into is goes none =
    let y = seen_hart q.opening.image c x in
    let f = fired_by q.watches q.machine.memory m in
    ap (λ (v : Verdict). ran_mind (plan_after v) (noted_with (plan_after v) y.regs.pc) f x) goes
    ∙ (ap (λ o. ran_mind x.course.plan o f x) (line_noted x.course.plan file line into y.regs.pc is) ∙ ap (λ w. ran_mind x.course.plan (Some y.regs.pc) w x) none)
