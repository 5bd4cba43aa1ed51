use Rattle.std.proofs.Common.{◌≡◌, ◌∙◌, ℕ, List, Some, sym, ap, subst}
use Rattle.std.specs.Prelude.{Option}
use Rattle.dbg_traits.specs.Told.{Told}
use Rattle.elf_checks.specs.Reading.{IsImage}
use Rattle.dbg_model.specs.declared.opening.Opening.{Opening}
use Rattle.session_parts.specs.Scene.{Play, begun, told_by, told_of}
use Rattle.session_parts.specs.Ties.{MayBegin}
use Rattle.session_parts.proofs.Opening.{ready_script}
use Rattle.session_parts.proofs.loading.load_generated.Goals as goal

pub returns-clause-ready : goal.returns-clause-ready
returns-clause-ready g c =
    let told = g.W.World.told in
    let t = told c.args.world in
    let o : Opening = record { image = c.in-Ok-read_image.image; settings = c.args.settings } in
    let lines = c.in-Ok-script.lines.items in
    let e = c.scripted.ensures in
    let P : List ℕ → Type 0 = λ b. IsImage b c.in-Ok-read_image.image in
    let image = subst P c.in-Ok.ensures.bytes c.in-Ok-read_image.ensures.read in
    let is : told_by (Some (begun c.args.number lines)) t ≡ told_of told c.scripted.result =
    ap (λ (x : Option Play). told_by x t) (sym e.script) ∙ ap (λ (w : g.row.W.Denot). told_by c.scripted.result.script (told w)) (sym e.world) in
    let Q : Told → Type 0 = λ u. MayBegin u o in
    subst Q is (ready_script t c.args.number lines o c.requires.fresh c.requires.asked image)
