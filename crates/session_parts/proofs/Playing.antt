-- A script keeps what is put.
use Rattle.std.proofs.Common.{◌≡◌, ◌<◌, ℕ, List, ◌++◌, length, take, sym, ap, ◌∙◌, arith}
use Rattle.std.specs.Prelude.{Some}
use Rattle.std.proofs.Math.Seq.{take-length}
use Rattle.dbg_traits.specs.Told.{Told, PutGives}
use Rattle.dbg_traits.specs.declared.world.Put.{Put}
use Rattle.dbg_traits.specs.declared.world.Put.TheVariants as put
use Rattle.session_parts.specs.OutsideInside.{PlayKeeps}
use Rattle.session_parts.specs.Scene.{Play, told_by}

pub put_kept : (a : Put) (piece : List ℕ) (p q : Play) (t : Told) → 0 < length piece → PlayKeeps a piece p q → PutGives a piece (told_by (Some p) t) (told_by (Some q) t)
put_kept (put.Took n) piece p q t some h =
    let is = h.0 in
    let whole : take n piece ≡ piece = ap (λ k. take k piece) h.0 ∙ take-length piece in (
      omega (arith, some, is),
      omega (arith, is),
      ap (λ (x : Play). told_by (Some x) t) h.1 ∙ ap (λ (xs : List ℕ). let u : Told = record (told_by (Some p) t) { written = Some (p.output ++ xs) } in u) (sym whole),
    )
put_kept put.Failed piece p q t some h = (h.0, h.1, ap (λ (x : Play). told_by (Some x) t) h.2)
