use Rattle.std.proofs.Common.{◌≡◌, ◌<◌, ◌∙◌, ℕ, ◌+◌, length, ap, sym, subst, arith}
use Rattle.std.specs.Global.{Vec}
use Rattle.file_names.proofs.Steps.{AreEmpty, empty_all, empty_push, empty_skip}
use Rattle.file_names.proofs.Texts.{size_none, size_past, size_zero}
use Rattle.file_names.proofs.places.ends_of.Goals.{then-byte-eq0+in_ok-push, else-byte-eq0}
use Rattle.file_names.proofs.places.ends_of.Goals as goal

pub loop-place-preserved : goal.loop-place-preserved
loop-place-preserved c =
    let bytes = c.args.bytes.now in
    let at = c.loop-place.place in
    let within : at < length bytes = omega arith in
    elim c.if-byte-eq0.branch [
      | then-byte-eq0+in_ok-push w ↦
          empty_push bytes c.loop-place.places.items c.if-byte-eq0.places.items at (omega (arith, within)) (size_zero bytes at within w.if-byte-eq0.true) c.loop-place.invariant
          (ap (λ (v : Vec ℕ). v.items) w.places-is ∙ w.in_ok-push.ensures.items)
      | else-byte-eq0 w ↦
          subst (λ (v : Vec ℕ). AreEmpty bytes v.items (at + 1)) (sym w.places-is)
          (empty_skip bytes c.loop-place.places.items at (λ size. w.if-byte-eq0.false (size_none bytes at within size)) c.loop-place.invariant)
    ]

pub returns : goal.returns
returns c =
    let bytes = c.args.bytes.now in
    let past = c.loop-place-test.false in
    let at_end : c.loop-place.place ≡ length bytes = omega (arith, past) in
    empty_all bytes c.push-2.new.self.items
    (empty_push bytes c.loop-place.places.items c.push-2.new.self.items (length bytes) (omega arith) (size_past bytes (length bytes) (omega arith))
    (subst (AreEmpty bytes c.loop-place.places.items) at_end c.loop-place.invariant) c.in_ok-push-2.ensures.items)
