use Rattle.std.proofs.Common.{List, ℕ, arith, subst}
use Rattle.session_parts.specs.Puts.{PutsAll}
use Rattle.session_parts.specs.Stage.{stage_of}
use Rattle.session_parts.proofs.Beginning.{begins, tied_open, counted_open}
use Rattle.session_loop.proofs.session.Session.open.Goals as goal

pub invariant_of-result : goal.invariant_of-result
invariant_of-result g c =
    let told = g.W.World.told in
    let P : List ℕ → Type 0 = λ text. PutsAll c.put_all.result text (told c.args.world) (told c.put_all.new.world) in
    let puts = subst P c.as_slice.ensures.value c.put_all.ensures in
    let r = stage_of c.args.engine in
    let goes = begins r c.requires.facts.sound.leaves c.requires.ready.journal c.requires.facts.sound.settings in
    rw (c.status_of-status.ensures, c.new.ensures.items) (
      tied_open c.put_all.result (told c.args.world) (told c.put_all.new.world) r c.args.opening.items c.requires.ready goes c.requires.lines puts,
      omega arith,
      counted_open c.put_all.result,
      tt,
      c.requires.facts,
    )
