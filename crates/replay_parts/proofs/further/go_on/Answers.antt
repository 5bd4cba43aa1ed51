use Rattle.std.proofs.Common.{◌≡◌, ◌≤◌, ◌<◌, ◌+◌, false, inl, inr, refl, ap, ◌∙◌, arith}
use Rattle.std.specs.Prelude.{Some, slice_get, slice_set}
use Rattle.std.specs.Vec.{with_item}
use Rattle.std.proofs.lemmas.Bool.{cases_lt}
use Rattle.dbg_model.specs.declared.hart.Hart.{Hart}
use Rattle.replay_parts.specs.Parts.{state_of}
use Rattle.replay_parts.specs.Further.{goes_alone}
use Rattle.replay_parts.proofs.Alone.{Free, get_set}
use Rattle.replay_parts.proofs.Gone.{ends_alone, ends_budget, still_kept, went, went_on}
use Rattle.replay_parts.proofs.further.go_on.Goals as goal

pub returns-clause-lengthens : goal.returns-clause-lengthens
returns-clause-lengthens c =
    let o = c.args.opening.now in
    let old = c.args.parts.now in
    let h = c.args.h in
    let x = c.in-Some.hart in
    let n = c.go-count.result in
    let found = c.in-Some.ensures.hart in
    let room = c.in-Some.ensures.room.0 in
    let free : Free o (state_of old) h x n = record { at = found.0; may = found.1; none = found.2; unfired = found.3; room = omega (arith, room, c.min-limit.ensures, c.go-count.ensures.limit) } in
    let some : 0 < n = omega arith in
    went_on n o old h x (with_item old.harts h c.gone_on.result) c.go-count.new.regs c.go-count.new.memory some free (c.go-count.ensures.goes o.image c.requires.words) (ap (slice_set old.harts.items h) c.gone_on.ensures)

pub returns-clause-far : goal.returns-clause-far
returns-clause-far c =
    λ low.
    let o = c.args.opening.now in
    let old = c.args.parts.now in
    let h = c.args.h in
    let x = c.in-Some.hart in
    let y = c.gone_on.result in
    let n = c.go-count.result in
    let m = c.go-count.new.memory in
    let s = state_of (went old (with_item old.harts h y) m n) in
    elim (cases_lt n c.min-limit.result) [
      | inl lt ↦ ends_alone o s h y (get_set old.harts.items h y x c.in-Some.ensures.hart.0)
          (ap (λ (w : Hart). goes_alone o.image old.table.entries w.course.plan w.regs m) c.gone_on.ensures ∙ c.go-count.ensures.ends o.image c.requires.words lt)
      | inr le ↦ ends_budget o s h (omega (arith, le, low, c.min-limit.ensures))
    ]

pub returns-clause-kept : goal.returns-clause-kept
returns-clause-kept c =
    still_kept c.go-count.result c.args.opening.now c.args.parts.now c.args.h c.gone_on.result (with_item c.args.parts.now.harts c.args.h c.gone_on.result) c.go-count.new.memory c.requires c.in-Some.ensures.room.1 refl
