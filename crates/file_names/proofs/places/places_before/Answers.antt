use Rattle.std.proofs.Common.{◌≡◌, ◌+◌, ◌<◌, ◌∙◌, ℕ, length, get_or, ap, sym, subst, arith}
use Rattle.std.specs.Global.{Vec}
use Rattle.std.proofs.lemmas.List.Elements.{Contains-get_or}
use Rattle.file_names.specs.Homes.{size_at}
use Rattle.file_names.proofs.Steps.{AreBefore, before_all, before_push, before_skip}
use Rattle.file_names.proofs.Texts.{size_more}
use Rattle.file_names.proofs.places.places_before.Goals.{in-Some+in_ok-push, in_default}
use Rattle.file_names.proofs.places.places_before.Goals as goal

pub place_before-requires : goal.place_before-requires
place_before-requires c =
    let i = c.loop-place.place-index in
    let places = c.args.places.now in
    let within : i < length places = omega arith in
    (c.requires.no_more (get_or places i 0) (Contains-get_or places i 0 within)).0

pub loop-place-preserved : goal.loop-place-preserved
loop-place-preserved c =
    let i = c.loop-place.place-index in
    let bytes = c.args.bytes.now in
    let places = c.args.places.now in
    let within : i < length places = omega arith in
    let place = c.requires.no_more (get_or places i 0) (Contains-get_or places i 0 within) in
    elim c.match-place_before.branch [
      | in-Some+in_ok-push w ↦
          let next = w.in-Some.ensures.0 in
          let low : w.in-Some.found < length bytes = omega (arith, next, place.0) in
          let long : size_at bytes w.in-Some.found ≡ c.args.size + 1 = omega (arith, size_more bytes w.in-Some.found low w.in-Some.ensures.1, ap (size_at bytes) next, place.1) in
          before_push bytes places c.loop-place.before.items c.match-place_before.before.items c.args.size i w.in-Some.found next (omega (arith, low)) long c.loop-place.invariant
          (ap (λ (v : Vec ℕ). v.items) w.before-is ∙ w.in_ok-push.ensures.items)
      | in_default w ↦
          subst (λ (v : Vec ℕ). AreBefore bytes places v.items c.args.size (i + 1)) (sym w.before-is)
          (before_skip bytes places c.loop-place.before.items c.args.size i w.in_default.ensures c.loop-place.invariant)
    ]

pub returns : goal.returns
returns c =
    let past = c.loop-place-test.false in
    before_all c.args.bytes.now c.args.places.now c.loop-place.before.items c.args.size c.loop-place.place-index (omega (arith, past)) c.requires c.loop-place.invariant
