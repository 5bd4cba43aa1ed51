use Rattle.std.proofs.Common.{◌≤◌, ◌<◌, ℕ, List, length, get_or, ap, sym, subst, refl, arith}
use Rattle.line_rows.specs.RowList.{NameList}
use Rattle.file_names.proofs.Numbered.{AreNumbered, none_numbered, number_more, numbers_all, once_all}
use Rattle.file_names.proofs.Texts.{size_most}
use Rattle.file_names.proofs.numbers.number_places.Goals as goal

pub loop-place-init : goal.loop-place-init
loop-place-init c =
    let names = c.args.names.now in
    subst (λ (l : List ℕ). AreNumbered names.texts c.args.places.now c.args.homes.now c.args.known.now names l 0) (sym c.in_ok-numbers.ensures.items)
    (none_numbered names.texts c.args.places.now c.args.homes.now c.args.known.now names c.requires.slots c.requires.none
    (ap (λ (l : List (List ℕ)). let n : NameList = record { texts = names.texts; names = l } in n) c.requires.no_names))

pub number_at-requires : goal.number_at-requires
number_at-requires c =
    let texts = c.args.names.now.texts in
    let i = c.loop-place.place-index in
    let p = get_or c.args.places.now i 0 in
    let h = c.loop-place.invariant in
    let within : i < length c.args.places.now = omega arith in
    let low : p ≤ length texts = c.requires.places i 0 within in
    let same = ap length h.texts_are in
    let end = c.requires.ends.each p low in
    record {
      place = omega (arith, low, c.requires.homes.size);
      end = omega (arith, low, c.requires.ends.size);
      home = omega (arith, (c.requires.homes.same p low).0, h.slots);
      ordered = omega (arith, end);
      within = omega (arith, end, low, same, size_most texts p);
    }

pub loop-place-preserved : goal.loop-place-preserved
loop-place-preserved c =
    let texts = c.args.names.now.texts in
    let i = c.loop-place.place-index in
    let p = get_or c.args.places.now i 0 in
    let within : i < length c.args.places.now = omega arith in
    let low : p ≤ length texts = c.requires.places i 0 within in
    number_more texts c.args.places.now c.args.homes.now c.loop-place.known c.number_at.new.known c.loop-place.names c.number_at.new.names
    c.loop-place.numbers.items c.push.new.self.items i p (get_or c.args.homes.now p 0) (get_or c.args.ends.now p 0) c.in_ok-number_at.field-0
    c.requires.homes c.loop-place.invariant within refl low refl (c.requires.ends.each p low) c.in_ok-number_at.ensures c.in_ok-push.ensures.items

pub returns : goal.returns
returns c =
    let texts = c.args.names.now.texts in
    let past = c.loop-place-test.false in
    record {
      names = once_all texts c.args.places.now c.args.homes.now c.loop-place.known c.loop-place.names c.loop-place.numbers.items c.loop-place.place-index (omega (arith, past)) c.loop-place.invariant;
      numbers = numbers_all texts c.args.places.now c.args.homes.now c.loop-place.known c.loop-place.names c.loop-place.numbers.items c.loop-place.place-index (omega (arith, past)) (omega arith) c.loop-place.invariant;
    }
