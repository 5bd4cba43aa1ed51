-- What a session tells a worker that asks, and which slices are worked where the words stand: this project's own rule.
use Rattle.std.specs.Prelude.{◌≡◌, ◌==◌, ◌-◌, ◌||◌, ℕ, Bool, true, false, List, slice_index_or, slice_set, Option, None, Some, if◌then◌else◌, is_some, nat_le, nat_lt}
use Rattle.hart_workers.specs.declared.crew.Asked.{Asked}
use Rattle.hart_workers.specs.declared.crew.Asked.TheVariants as asked
use Rattle.dbg_traits.specs.Told.{Told}
use Rattle.session_parts.specs.Seen.{Seen}
use Rattle.session_parts.specs.Round.{Moment, moment}
use Rattle.session_parts.specs.Crew.{Reaches, ServesOnce, is_alone}

-- how many more slices of a hart are worked where the words stand
abbrev pub near_of : List ℕ → ℕ → ℕ
near_of near h = slice_index_or near h 0

-- A slice of fewer than 512 instructions is short. After a long slice the next one goes to a worker. After a short one that came
-- from a worker the session works the next 63 itself.
abbrev pub near_behind : ℕ → ℕ → ℕ
near_behind near count = if nat_le 512 count then 0 else if near == 0 then 63 else near - 1

-- what is kept of the harts behind a slice of hart h of so many instructions
abbrev pub counted : List ℕ → ℕ → ℕ → List ℕ
counted near h count = slice_set near h (near_behind (near_of near h) count)

-- whether the slice of a hart is worked where the words stand: its last ones were short, or none could be worked beside it
abbrev pub in_place : Moment → List ℕ → ℕ → Bool
in_place p near h = nat_lt 0 (near_of near h) || is_alone p

abbrev pub place_of : Option ℕ → Moment → List ℕ → Bool
place_of None p near = false
place_of (Some h) p near = in_place p near h

abbrev pub near_after : Bool → Option ℕ → List ℕ → ℕ → List ℕ
near_after true (Some h) near count = counted near h count
near_after _ _ near count = near

-- A duty whose job was worked and taken back at once; a round, and the hart that may give a job then, if there is one; or nothing,
-- where the status is set.
abbrev pub Asks : Moment → Asked → Moment → Type 0
Asks p asked.Served q = ServesOnce p q
Asks p (asked.Picked h) q = Reaches (Some h) p q
Asks p asked.Again q = Reaches None p q
Asks p asked.Over q = (is_some p.status ≡ true) × (q ≡ p)

-- whether a worker was told that its duty is done, with what its job asks for
abbrev pub is_served : Asked → Bool
is_served asked.Served = true
is_served _ = false

-- Whether a slice is worked where the words stand is seen behind the round, by the hart that may give a job then.
pub record Chooses {W : Type 0} (told : W → Told) (here : Bool) (s t : Seen W) : Type 0 where
  pub found : Option ℕ
  pub between : Seen W
  pub reaches : Reaches found (moment told s) (moment told between)
  pub is : here ≡ place_of found (moment told between) between.near
  pub near : t.near ≡ near_after here found between.near (t.run.state.retired - between.run.state.retired)
