use Rattle.std.proofs.Common.{◌≡◌, Bool, List, ℕ, length, sym, ap, arith, subst, rules}
use Rattle.std.proofs.lemmas.Result.{err_from_is_err_and}
use Rattle.dbg_model.specs.Keeping.{entry_of}
use Rattle.dbg_model.specs.declared.entry.Entry.{Entry}
use Rattle.session_log.specs.Rows.{AddsLine}
use Rattle.session_log.specs.declared.row.LogRow.TheVariants as rows
use Rattle.session_parts.specs.Puts.{PutsAll}
use Rattle.session_parts.proofs.Logs.{LogAt, log_begun, log_cut, log_head_cut, log_next, log_over, log_short}
use Rattle.session_parts.proofs.logging.put_log.Goals as goal

pub returns-then-not-put_all : goal.returns-then-not-put_all
returns-then-not-put_all g c =
    let told = g.W.World.told in
    let t = told c.args.world.now in
    let u = told c.put_all.new.world in
    let line = c.log_head.new.into.items in
    let P : Bool → Type 0 = λ b. PutsAll b line t u in
    let Q : List ℕ → Type 0 = λ xs. PutsAll c.put_all.result xs t u in
    let R : List ℕ → Type 0 = λ xs. AddsLine (rows.Head c.args.settings) xs line in
    log_head_cut c.args.settings c.args.journal.now line t u (subst R c.new-line.ensures.items c.in_ok-log_head.ensures.written) (subst P c.if-not-put_all.true (subst Q c.as_slice.ensures.value c.put_all.ensures))

pub loop-entry-init : goal.loop-entry-init
loop-entry-init g c =
    let told = g.W.World.told in
    let t = told c.args.world.now in
    let u = told c.put_all.new.world in
    let line = c.log_head.new.into.items in
    let P : Bool → Type 0 = λ b. PutsAll b line t u in
    let Q : List ℕ → Type 0 = λ xs. PutsAll c.put_all.result xs t u in
    let R : List ℕ → Type 0 = λ xs. AddsLine (rows.Head c.args.settings) xs line in
    let S : List Entry → Type 0 = λ es. LogAt c.args.settings c.args.journal.now es 0 t u in
    let same : c.into_iter-entry-iterator.result ≡ c.args.journal.now = search rules in
    subst S (sym same) (log_begun c.args.settings c.args.journal.now line t u c.requires.ranges c.requires.stand
    (subst R c.new-line.ensures.items c.in_ok-log_head.ensures.written) (subst P c.if-not-put_all.false (subst Q c.as_slice.ensures.value c.put_all.ensures)))

pub returns-in_err-push_entry : goal.returns-in_err-push_entry
returns-in_err-push_entry g c =
    let l = c.loop-entry in
    let told = g.W.World.told in
    let p = err_from_is_err_and c.from_residual-in_err-push_entry.result c.from_residual-in_err-push_entry.ensures.1 in
    rw p.1 (log_short c.args.settings c.args.journal.now l.entry-iterator l.count (told c.args.world.now) (told l.world) p.0 l.invariant)

pub returns-then-not-put_all-2 : goal.returns-then-not-put_all-2
returns-then-not-put_all-2 g c =
    let l = c.loop-entry in
    let told = g.W.World.told in
    let t = told c.args.world.now in
    let u = told l.world in
    let v = told c.put_all-in-loop-entry.new.world in
    let e = entry_of c.in-Some.entry in
    let line = c.push_entry.new.into.items in
    let P : Bool → Type 0 = λ b. PutsAll b line u v in
    let Q : List ℕ → Type 0 = λ xs. PutsAll c.put_all-in-loop-entry.result xs u v in
    let R : List ℕ → Type 0 = λ xs. AddsLine (rows.Entry e) xs line in
    log_cut c.args.settings c.args.journal.now l.entry-iterator e c.next.new.self l.count line t u v l.invariant c.in-Some.ensures.steps
    (subst R c.clear.ensures.items c.in_ok-push_entry.ensures) (subst P c.if-not-put_all-2.true (subst Q c.as_slice-in-loop-entry.ensures.value c.put_all-in-loop-entry.ensures))

pub overflow_add-count : goal.overflow_add-count
overflow_add-count g c =
    let l = c.loop-entry in
    let counts = l.invariant.counts in
    let few = c.entries-entry-items.ensures.few in
    let some = ap (λ (es : List Entry). length es) c.in-Some.ensures.steps in
    omega (arith, counts, few, some)

pub loop-entry-preserved : goal.loop-entry-preserved
loop-entry-preserved g c =
    let l = c.loop-entry in
    let told = g.W.World.told in
    let t = told c.args.world.now in
    let u = told l.world in
    let v = told c.put_all-in-loop-entry.new.world in
    let e = entry_of c.in-Some.entry in
    let line = c.push_entry.new.into.items in
    let P : Bool → Type 0 = λ b. PutsAll b line u v in
    let Q : List ℕ → Type 0 = λ xs. PutsAll c.put_all-in-loop-entry.result xs u v in
    let R : List ℕ → Type 0 = λ xs. AddsLine (rows.Entry e) xs line in
    log_next c.args.settings c.args.journal.now l.entry-iterator e c.next.new.self l.count line t u v l.invariant c.in-Some.ensures.steps
    (subst R c.clear.ensures.items c.in_ok-push_entry.ensures) (subst P c.if-not-put_all-2.false (subst Q c.as_slice-in-loop-entry.ensures.value c.put_all-in-loop-entry.ensures))

pub returns-in_err-log_end : goal.returns-in_err-log_end
returns-in_err-log_end g c =
    let l = c.loop-entry in
    let told = g.W.World.told in
    let p = err_from_is_err_and c.from_residual-in_err-log_end.result c.from_residual-in_err-log_end.ensures.1 in
    rw p.1 (log_short c.args.settings c.args.journal.now l.entry-iterator l.count (told c.args.world.now) (told l.world) p.0 l.invariant)

pub returns : goal.returns
returns g c =
    let l = c.loop-entry in
    let told = g.W.World.told in
    let t = told c.args.world.now in
    let u = told l.world in
    let v = told c.put_all-2.new.world in
    let line = c.log_end.new.into.items in
    let Q : List ℕ → Type 0 = λ xs. PutsAll c.put_all-2.result xs u v in
    let R : List ℕ → Type 0 = λ xs. AddsLine (rows.End l.count) xs line in
    log_over c.args.settings c.args.journal.now l.entry-iterator l.count line c.put_all-2.result t u v c.entries-entry-items.ensures.few l.invariant c.in-None.ensures.steps.0
    (subst R c.clear-2.ensures.items c.in_ok-log_end.ensures.written) (subst Q c.as_slice-2.ensures.value c.put_all-2.ensures)
