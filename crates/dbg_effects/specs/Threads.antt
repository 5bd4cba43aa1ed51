-- What becomes of harts by a function that is passed. This project's own.
use Rattle.std.specs.Prelude.{◌≡◌, ℕ, List}
use Rattle.dbg_model.specs.Reply.{on_threads}

-- a call can only return what this makes of a hart
abbrev pub Makes : {A : Type 0} → (A → A → Type 0) → (A → A) → Type 0
Makes {A} post f = (x r : A) → post x r → r ≡ f x

-- where calls return what is made of a hart, it is made of those of these threads, and others stay
abbrev pub AreChanged : {A : Type 0} → (A → A → Type 0) → List ℕ → List A → List A → Type 0
AreChanged {A} post threads xs ys = (f : A → A) → Makes post f → ys ≡ on_threads f threads 1 xs
