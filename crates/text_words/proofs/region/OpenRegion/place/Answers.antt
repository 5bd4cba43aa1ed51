use Rattle.std.proofs.Common.{◌≡◌, ℕ, ◌+◌, ◌-◌, ◌*◌, ◌%◌, ◌^◌, ◌/◌, ◌∙◌, ap, arith}
use Rattle.text_words.proofs.Turned.{turned, turned_back}
use Rattle.text_words.proofs.region.OpenRegion.place.Goals as goal

pub returns-clause-here : goal.returns-clause-here
returns-clause-here c = λ low.
    let n : ℕ = (c.args.addr + (2 ^ 32 - c.args.self.now.address)) % 2 ^ 32 in
    let four : n ≡ 4 * c.rotate_right.result = turned n c.rotate_right.result (omega arith) c.rotate_right.ensures (omega (arith, low)) in
    omega (arith, four, c.ranges.addr.fits, low)

pub returns-clause-found : goal.returns-clause-found
returns-clause-found c = λ low even.
    let n : ℕ = (c.args.addr + (2 ^ 32 - c.args.self.now.address)) % 2 ^ 32 in
    let is : n ≡ c.args.addr - c.args.self.now.address = omega (arith, low, c.ranges.addr.fits) in
    turned_back n c.rotate_right.result (omega (arith, is, even)) c.rotate_right.ensures ∙ ap (λ m. m / 4) is
