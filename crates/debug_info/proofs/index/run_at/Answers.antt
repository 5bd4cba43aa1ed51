use Rattle.debug_info.proofs.Words.{◌≡◌, Option, None, Some, sym, ◌∙◌, ap, refl, arith, subst, specification_at, IsRun, packed, with_flag, found, Specification, Flags, Run}
use Rattle.debug_info.proofs.Runs.{run_end, run_fault, run_flag, run_of, run_other}
use Rattle.debug_info.proofs.index.run_at.Goals as goal

pub returns-then-specification-eq-FLAG_PRESENT : goal.returns-then-specification-eq-FLAG_PRESENT
returns-then-specification-eq-FLAG_PRESENT c =
    let w = c.in-Ok-Some-default in
    let read : specification_at c.args.abbrevs.now c.args.at ≡ found (Some w.specification) w.next = sym w.ensures.value ∙ ap (λ (o : Option Specification). found o w.next) w.field-0-0-is in
    let behind = w.ensures.within.behind in
    let within = w.ensures.within.within in
    let count = c.requires.count in
    run_flag c.args.abbrevs.now c.args.at w.next w.specification _ _ read c.if-specification-eq-FLAG_PRESENT.true
    (run_of c.args.abbrevs.now c.args.later.now w.next _ c.requires.runs within (omega arith)) (c.packed-flags.ensures ∙ ap packed (c.with_flag.ensures ∙ ap (λ (f : Flags). with_flag f w.specification.name) c.unpacked.ensures)) refl refl

pub returns-else-specification-eq-FLAG_PRESENT : goal.returns-else-specification-eq-FLAG_PRESENT
returns-else-specification-eq-FLAG_PRESENT c =
    let w = c.in-Ok-Some-default in
    let read : specification_at c.args.abbrevs.now c.args.at ≡ found (Some w.specification) w.next = sym w.ensures.value ∙ ap (λ (o : Option Specification). found o w.next) w.field-0-0-is in
    let behind = w.ensures.within.behind in
    let within = w.ensures.within.within in
    let count = c.requires.count in
    subst (λ (run : Run). IsRun c.args.abbrevs.now c.args.at run) (sym c.lone_run.ensures)
    (run_other c.args.abbrevs.now c.args.at w.next w.specification _ (omega arith) read (run_of c.args.abbrevs.now c.args.later.now w.next _ c.requires.runs within (omega arith)))

pub returns-in-Ok-None-default : goal.returns-in-Ok-None-default
returns-in-Ok-None-default c =
    let w = c.in-Ok-None-default in
    let read : specification_at c.args.abbrevs.now c.args.at ≡ found None w.field-0-1 = sym w.ensures.value ∙ ap (λ (o : Option Specification). found o w.field-0-1) w.field-0-0-is in
    let count = c.requires.count in
    subst (λ (run : Run). IsRun c.args.abbrevs.now c.args.at run) (sym c.lone_run-in-Ok-None-default.ensures) (run_end c.args.abbrevs.now c.args.at w.field-0-1 (omega arith) read)

pub returns-in-Err : goal.returns-in-Err
returns-in-Err c =
    let w = c.in-Err in
    let count = c.requires.count in
    subst (λ (run : Run). IsRun c.args.abbrevs.now c.args.at run) (sym c.lone_run-in-Err.ensures) (run_fault c.args.abbrevs.now c.args.at w.field-0 (omega arith) (sym w.ensures.value))
