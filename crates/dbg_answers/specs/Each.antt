-- What is picked of each hart by a function that is passed. This project's own.
use Rattle.std.specs.Prelude.{◌≡◌, ℕ, List, Option}
use Rattle.dbg_model.specs.declared.thread_view.ThreadView.{ThreadView}
use Rattle.dbg_model.specs.Sight.{each}

-- a call can only return what this picks
abbrev pub Returns : {T : Type 0} → (ℕ → ThreadView → Option T → Type 0) → (ℕ → ThreadView → Option T) → Type 0
Returns {T} post pick = (n : ℕ) (x : ThreadView) (r : Option T) → post n x r → r ≡ pick n x

-- the picked, where calls return what is picked
abbrev pub ArePicked : {T : Type 0} → (ℕ → ThreadView → Option T → Type 0) → List ThreadView → List T → Type 0
ArePicked {T} post xs ys = (pick : ℕ → ThreadView → Option T) → Returns post pick → ys ≡ each pick 1 xs
