use Rattle.std.proofs.lemmas.Result.{err_from_is_err_and}
use Rattle.watch_points.proofs.Exact.{failed, took, refused}
use Rattle.watch_points.proofs.Telling.{told}
use Rattle.watch_points.proofs.watch.watch_of.Goals as goal

pub returns-in_err-e : goal.returns-in_err-e
returns-in_err-e c =
    let p = err_from_is_err_and c.from_residual.result c.from_residual.ensures.1 in
    let x = failed c.args.text.now c.args.symbols.now _ p.0 c.from_residual.result p.1 p.2 c.in_err-e.ensures.long c.in_err-e.ensures.only c.in_err-e.ensures.fault in
    record { watched = x.watched; expr = x.expr; form = x.form; value = x.value; told = told c.args.text.now c.args.symbols.now _ x }

pub returns-in_err-tree_watch : goal.returns-in_err-tree_watch
returns-in_err-tree_watch c =
    let p = err_from_is_err_and c.from_residual-in_err-tree_watch.result c.from_residual-in_err-tree_watch.ensures.1 in
    let x = refused c.args.text.now c.args.symbols.now _ c.in_ok-e.ensures.found c.in_ok-e.ensures.only (c.in_ok-e.ensures.fault c.in_ok-e.ensures.found.0) _ c.root.ensures c.tree_watch.result c.tree_watch.ensures
    _ p.0 c.from_residual-in_err-tree_watch.result c.in_err-tree_watch.was p.1 p.2 in
    record { watched = x.watched; expr = x.expr; form = x.form; value = x.value; told = told c.args.text.now c.args.symbols.now _ x }

pub returns : goal.returns
returns c =
    let x = took c.args.text.now c.args.symbols.now _ c.in_ok-e.ensures.found c.in_ok-e.ensures.only (c.in_ok-e.ensures.fault c.in_ok-e.ensures.found.0) _ c.root.ensures c.tree_watch.result c.tree_watch.ensures
    _ c.in_ok-tree_watch.was in
    record { watched = x.watched; expr = x.expr; form = x.form; value = x.value; told = told c.args.text.now c.args.symbols.now _ x }
