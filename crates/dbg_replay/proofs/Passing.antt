-- The entries of a journal, one behind another.
use Rattle.std.proofs.Common.{◌≡◌, List, [], ◌∷◌, ap, ◌∙◌}
use Rattle.std.specs.Prelude.{Some, None, option_and_then}
use Rattle.dbg_model.specs.declared.entry.Entry.{Entry}
use Rattle.dbg_model.specs.declared.opening.Opening.{Opening}
use Rattle.dbg_model.specs.Journals.{Place, come, first_place, replay, replay_from}

-- an entry came, and the others are to follow
pub goes_on : (o : Opening) (p q : Place) (all left more : List Entry) (e : Entry) → left ≡ e ∷ more → come o p e ≡ Some q
    → replay_from o (first_place o) all ≡ replay_from o p left → replay_from o (first_place o) all ≡ replay_from o q more
goes_on o p q all left more e is comes rest = rest ∙ (ap (replay_from o p) is ∙ ap (option_and_then (λ r. replay_from o r more)) comes)

-- an entry that may not come ends the journal
pub ends_at : (o : Opening) (p : Place) (all left more : List Entry) (e : Entry) → left ≡ e ∷ more → come o p e ≡ None → replay_from o (first_place o) all ≡ replay_from o p left → replay o all ≡ None
unfolding replay
ends_at o p all left more e is none rest = rest ∙ (ap (replay_from o p) is ∙ ap (option_and_then (λ r. replay_from o r more)) none)

-- the last entry came
pub ends : (o : Opening) (p : Place) (all left : List Entry) → left ≡ [] → replay_from o (first_place o) all ≡ replay_from o p left → replay o all ≡ Some p
unfolding replay
ends o p all left none rest = rest ∙ ap (replay_from o p) none
