use Rattle.std.proofs.Common.{◌≡◌, ◌∙◌, sym, arith, subst, Bool, true, ℕ, List}
use Rattle.mi_values.specs.Record.{LineTree}
use Rattle.mi_values.specs.Records.{AreRecords, streamed}
use Rattle.session_parts.specs.OutsideInside.{play_of}
use Rattle.session_parts.specs.Over.{sums_up}
use Rattle.session_parts.specs.Puts.{PutsAll}
use Rattle.session_parts.specs.Summary.{summary}
use Rattle.session_parts.proofs.Finishing.{few_steps, headed_cut, headed_short, headed_whole, text_is}
use Rattle.session_parts.proofs.closing.sum_up.Goals as goal

pub returns-then-not-sums_up : goal.returns-then-not-sums_up
returns-then-not-sums_up g c = headed_short c.args.status (g.W.World.told c.args.world.now) (play_of c.args.script.now) c.args.closed.now c.requires

pub summary_text-requires : goal.summary_text-requires
summary_text-requires g c =
    let few = few_steps c.args.status (g.W.World.told c.args.world.now) (play_of c.args.script.now) c.args.closed.now c.requires in
    omega (arith, few)

pub returns-in_default : goal.returns-in_default
returns-in_default g c = headed_short c.args.status (g.W.World.told c.args.world.now) (play_of c.args.script.now) c.args.closed.now c.requires

pub returns-then-not-put_all : goal.returns-then-not-put_all
returns-then-not-put_all g c =
    let t = g.W.World.told c.args.world.now in
    let u = g.W.World.told c.put_all.new.world in
    let so : sums_up c.args.status ≡ true = sym c.sums_up.ensures ∙ c.if-not-sums_up.false in
    let R : List ℕ → Type 0 = λ records. (trees : List LineTree) → AreRecords records trees → c.in-Ok.text.items ≡ summary c.args.script.now.number c.args.closed.now.journal (streamed trees) c.args.status in
    let text = subst R c.as_slice-records.ensures.value c.in-Ok.ensures in
    let is = text_is c.args.status t (play_of c.args.script.now) c.args.closed.now c.requires c.in-Ok.text.items so text in
    let P : Bool → Type 0 = λ b. PutsAll b c.in-Ok.text.items t u in
    let Q : List ℕ → Type 0 = λ xs. PutsAll c.put_all.result xs t u in
    let puts = subst P c.if-not-put_all.true (subst Q c.as_slice.ensures.value c.put_all.ensures) in
    headed_cut c.args.status t u (play_of c.args.script.now) c.args.closed.now c.requires c.in-Ok.text.items so is puts

pub returns : goal.returns
returns g c =
    let t = g.W.World.told c.args.world.now in
    let u = g.W.World.told c.put_all.new.world in
    let so : sums_up c.args.status ≡ true = sym c.sums_up.ensures ∙ c.if-not-sums_up.false in
    let R : List ℕ → Type 0 = λ records. (trees : List LineTree) → AreRecords records trees → c.in-Ok.text.items ≡ summary c.args.script.now.number c.args.closed.now.journal (streamed trees) c.args.status in
    let text = subst R c.as_slice-records.ensures.value c.in-Ok.ensures in
    let is = text_is c.args.status t (play_of c.args.script.now) c.args.closed.now c.requires c.in-Ok.text.items so text in
    let P : Bool → Type 0 = λ b. PutsAll b c.in-Ok.text.items t u in
    let Q : List ℕ → Type 0 = λ xs. PutsAll c.put_all.result xs t u in
    let puts = subst P c.if-not-put_all.false (subst Q c.as_slice.ensures.value c.put_all.ensures) in
    headed_whole c.args.status t u (play_of c.args.script.now) c.args.closed.now c.requires c.in-Ok.text.items so is puts
