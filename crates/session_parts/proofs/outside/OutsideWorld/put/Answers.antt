use Rattle.std.proofs.Common.{◌≡◌, ◌∙◌, Some, sym, ap, subst}
use Rattle.std.specs.Prelude.{Option, option_map}
use Rattle.dbg_traits.specs.Told.{Told, PutGives}
use Rattle.session_parts.specs.OutsideInside.{play_of}
use Rattle.session_parts.specs.Scene.{Scene, told_by, told_of}
use Rattle.session_parts.specs.declared.outside.Script.{Script}
use Rattle.session_parts.proofs.Playing.{put_kept}
use Rattle.session_parts.proofs.outside.OutsideWorld.put.Goals as goal

pub returns-in-Some : goal.returns-in-Some
returns-in-Some g c =
    let told = g.W.World.told in
    let t = told c.self.inside.world in
    let p = play_of c.in-Some.script in
    let q = play_of c.put-in-Some.new.self in
    let is : told_by (Some p) t ≡ told_of told c.args.self.now =
    ap (λ (x : Option Script). told_by (option_map play_of x) t) (sym c.in-Some.is) ∙ ap (λ (s : Scene g.row.W.Denot). told_of told s) c.self.view_is in
    let P : Told → Type 0 = λ old. PutGives c.put-in-Some.result c.args.piece.now old (told_by (Some q) t) in
    subst P is (put_kept c.put-in-Some.result c.args.piece.now p q t c.requires c.put-in-Some.ensures)
