use Rattle.std.proofs.Common.{◌<◌, length, get_or, refl, arith}
use Rattle.std.proofs.lemmas.List.Elements.{Contains-get_or}
use Rattle.file_names.proofs.Settled.{put_more, settled}
use Rattle.file_names.proofs.Texts.{size_some}
use Rattle.file_names.proofs.homes.settle.Goals as goal

pub key_of-key-requires-clause-byte : goal.key_of-key-requires-clause-byte
key_of-key-requires-clause-byte c =
    let i = c.loop-place.place-index in
    let places = c.args.places.now in
    let within : i < length places = omega arith in
    (size_some c.args.bytes.now (get_or places i 0) c.args.size (c.requires.places.no_more (get_or places i 0) (Contains-get_or places i 0 within)).1).0

pub key_of-key-requires-clause-home : goal.key_of-key-requires-clause-home
key_of-key-requires-clause-home c =
    let i = c.loop-place.place-index in
    let places = c.args.places.now in
    let within : i < length places = omega arith in
    let some = (size_some c.args.bytes.now (get_or places i 0) c.args.size (c.requires.places.no_more (get_or places i 0) (Contains-get_or places i 0 within)).1).0 in
    let size = c.loop-place.invariant.length_is in
    omega (arith, some, size)

pub loop-place-preserved : goal.loop-place-preserved
loop-place-preserved c =
    let i = c.loop-place.place-index in
    let places = c.args.places.now in
    let within : i < length places = omega arith in
    put_more c.args.bytes.now places c.args.size i c.args.homes.now c.loop-place.homes c.loop-place.met c.home_of.new.met (get_or places i 0)
    c.key_of-key.result c.in_ok-home.home c.requires.places within refl c.key_of-key.ensures c.in_ok-home.ensures c.loop-place.invariant

pub returns : goal.returns
returns c =
    let past = c.loop-place-test.false in
    settled c.args.bytes.now c.args.places.now c.args.size c.loop-place.place-index c.args.homes.now c.loop-place.homes c.loop-place.met
    (λ p. omega (arith, c.type_inv.bytes p)) c.requires.homes c.requires.places (omega (arith, past)) c.loop-place.invariant
