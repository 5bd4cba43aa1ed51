use Rattle.debug_info.proofs.Words.{false, arith, Mark}
use Rattle.debug_info.specs.declared.entry.Tag.TheVariants as tag
use Rattle.debug_info.proofs.Rising.{found_nowhere, found_there}
use Rattle.debug_info.proofs.scope.mark_with.Goals as goal
use Rattle.debug_info.proofs.scope.mark_with.Goals.{else-count-marks-via-then-count-marks+else-marks-count, else-count-marks-via-else-count-marks}

abbrev nothing : Mark
nothing = record { offset = 0; tag = tag.Parameter; level = 0; is_named = false }

pub returns-then-marks-count : goal.returns-then-marks-count
returns-then-marks-count c = found_there c.args.marks.now c.args.offset c.count_before-count.result nothing c.count_before-count.ensures c.if-count-marks.true c.if-marks-count.true

pub returns-else-count-marks : goal.returns-else-count-marks
returns-else-count-marks c =
    elim c.else-count-marks.branch [
      | else-count-marks-via-then-count-marks+else-marks-count w ↦
          found_nowhere c.args.marks.now c.args.offset c.count_before-count.result nothing c.requires c.count_before-count.ensures (λ under. w.if-marks-count.false)
      | else-count-marks-via-else-count-marks w ↦
          found_nowhere c.args.marks.now c.args.offset c.count_before-count.result nothing c.requires c.count_before-count.ensures (λ under is. absurd (let past = w.if-count-marks.false in omega arith))
    ]
