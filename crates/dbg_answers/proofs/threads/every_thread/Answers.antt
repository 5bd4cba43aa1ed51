use Rattle.std.proofs.Common.{rules, ◌≡◌, List, map, ap, subst, ◌∙◌}
use Rattle.std.specs.Prelude.{IfOk}
use Rattle.dbg_model.specs.declared.reply.Thread.{Thread}
use Rattle.dbg_model.specs.Sight.{each}
use Rattle.dbg_answers.specs.Live.{live_shown, live_thread}
use Rattle.dbg_answers.proofs.Showing.{each_shown}
use Rattle.dbg_answers.proofs.threads.every_thread.Goals as goal

pub returns : goal.returns
returns c =
    let sources = c.args.debuggee.now.sources.now in
    let threads = c.args.debuggee.now.threads.now in
    let live : c.in_ok-threads.threads.items ≡ each live_thread 1 threads = search rules in
    subst (λ (ts : List Thread). IfOk c.show_all.result (λ v. v.items ≡ ts))
    (ap (map (live_shown sources)) (c.deref.ensures.value ∙ live) ∙ each_shown sources 1 threads)
    c.show_all.ensures
