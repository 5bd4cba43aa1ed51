use Rattle.std.proofs.Common.{◌≡◌, ◌-◌, ◌<◌, false, arith, get_or, length}
use Rattle.std.proofs.lemmas.List.{get_or_default}
use Rattle.line_rows.specs.declared.row.Row.{Row}
use Rattle.line_index.proofs.Latest.{begins, ends_at, ends_below, passes}
use Rattle.line_index.proofs.rows.statement_or.Goals as goal

pub loop-count-init : goal.loop-count-init
loop-count-init c = begins c.args.rows.now c.args.last c.requires.some c.requires.last

pub returns-then-row-last : goal.returns-then-row-last
returns-then-row-last c =
    let rows = c.args.rows.now in
    let count = c.loop-count.count in
    let d : Row = record { address = 0; file = 0; line = 0; is_stmt = false; prologue_end = false } in
    let r : Row = get_or rows (count - 1) d in
    let some : 0 < count = c.loop-count-test.true in
    let within : count - 1 < length rows = omega (arith, some, c.loop-count.invariant.within) in
    let there : r ≡ get_or rows (count - 1) r = get_or_default rows (count - 1) d r within in
    ends_below rows count c.args.last r c.requires.rise c.loop-count.invariant some c.requires.last there (λ e. c.if-row-last.true e)

pub returns-then-row : goal.returns-then-row
returns-then-row c =
    let rows = c.args.rows.now in
    let count = c.loop-count.count in
    let d : Row = record { address = 0; file = 0; line = 0; is_stmt = false; prologue_end = false } in
    let r : Row = get_or rows (count - 1) d in
    let some : 0 < count = c.loop-count-test.true in
    let within : count - 1 < length rows = omega (arith, some, c.loop-count.invariant.within) in
    let there : r ≡ get_or rows (count - 1) r = get_or_default rows (count - 1) d r within in
    let level : r.address ≡ c.args.last.address = omega (arith, c.if-row-last.false) in
    ends_at rows count c.args.last r c.requires.rise c.loop-count.invariant some there level c.if-row.true c.requires.plain

pub loop-count-preserved : goal.loop-count-preserved
loop-count-preserved c =
    let rows = c.args.rows.now in
    let count = c.loop-count.count in
    let d : Row = record { address = 0; file = 0; line = 0; is_stmt = false; prologue_end = false } in
    let r : Row = get_or rows (count - 1) d in
    let some : 0 < count = c.loop-count-test.true in
    let within : count - 1 < length rows = omega (arith, some, c.loop-count.invariant.within) in
    let there : r ≡ get_or rows (count - 1) r = get_or_default rows (count - 1) d r within in
    let level : r.address ≡ c.args.last.address = omega (arith, c.if-row-last.false) in
    passes rows count c.args.last r c.loop-count.invariant some there level c.if-row.false
