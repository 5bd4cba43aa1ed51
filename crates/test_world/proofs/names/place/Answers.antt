use Rattle.std.proofs.Common.{List, ℕ, subst, sym}
use Rattle.dbg_traits.specs.Names.{IsNamed}
use Rattle.test_world.proofs.Words.{second_word}
use Rattle.test_world.proofs.names.place.Goals as goal

pub place_of-place-requires : goal.place_of-place-requires
place_of-place-requires c =
    let words = c.in_ok-words.words.items in
    let name = c.in_ok-words.name in
    subst (λ (ws : List (List ℕ)). IsNamed ws name) (sym c.deref.ensures.value) (second_word _ _ name words c.in_ok-words.ensures)
