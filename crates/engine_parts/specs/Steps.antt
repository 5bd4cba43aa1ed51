-- What a step of the machine does to the journal and to what is kept of the harts, and which hart is next. This project's own.
use Rattle.std.specs.Prelude.{◌≡◌, ℕ, ◌+◌, Bool, true, false, List, [], ◌∷◌, ◌++◌, length, find, nat_le, map, slice_set, slice_index_or, not, ◌&&◌, Option, Some, None, if◌then◌else◌}
use Rattle.rv_exec.specs.declared.effect.Stepped.{Stepped}
use Rattle.rv_exec.specs.declared.effect.Stepped.TheVariants as stepped
use Rattle.dbg_model.specs.declared.entry.Entry.{Entry}
use Rattle.dbg_model.specs.declared.entry.Entry.TheVariants.{Left}
use Rattle.dbg_model.specs.Journals.{lengthened}
use Rattle.engine_parts.specs.declared.mind.Mind.{Mind}
use Rattle.engine_parts.specs.Minds.{runs, gone_mind, lefts_live}
use Rattle.engine_parts.specs.declared.moving.Move.{Move}
use Rattle.engine_parts.specs.declared.moving.Move.TheVariants as move

-- what changes at a step beside the machine and the counts
pub record Parts : Type 0 where
  pub journal : List Entry
  pub minds : List Mind

-- what is kept of the harts after an instruction of hart h by which harts leave, where z would be kept of it
abbrev pub left_minds : Stepped → ℕ → Mind → List Mind → List Mind
left_minds stepped.Ran h z xs = xs
left_minds (stepped.Wrote addr len) h z xs = xs
left_minds (stepped.HartExit code) h z xs = slice_set xs h (gone_mind z)
left_minds (stepped.AllExit code) h z xs = map gone_mind (slice_set xs h z)
left_minds stepped.Hit h z xs = xs
left_minds (stepped.Trap cause) h z xs = xs

-- the parts after an instruction of hart h, of which z is kept where it stays
abbrev pub applied : Stepped → ℕ → Mind → Parts → Parts
applied stepped.Ran h z p = record { journal = lengthened p.journal h; minds = slice_set p.minds h z }
applied (stepped.Wrote addr len) h z p = record { journal = lengthened p.journal h; minds = slice_set p.minds h z }
applied (stepped.HartExit code) h z p = record { journal = lengthened p.journal h ++ Left h code ∷ []; minds = slice_set p.minds h (gone_mind z) }
applied (stepped.AllExit code) h z p =
    let xs = slice_set p.minds h z in
    record { journal = lengthened p.journal h ++ lefts_live code 0 xs; minds = map gone_mind xs }
applied stepped.Hit h z p = p
applied (stepped.Trap cause) h z p = p

-- whether harts leave by a step of the machine
abbrev pub leaves : Stepped → Bool
leaves (stepped.HartExit code) = true
leaves (stepped.AllExit code) = true
leaves _ = false

-- how a hart moved that executed
abbrev pub moved_by : Stepped → Move
moved_by (stepped.Wrote addr len) = move.Wrote addr len
moved_by (stepped.HartExit code) = move.Left
moved_by (stepped.AllExit code) = move.AllLeft
moved_by _ = move.Ran

-- how many harts have exited by an instruction of hart h, of which z would be kept
abbrev pub exits_of : Stepped → ℕ → Mind → List Mind → ℕ
exits_of (stepped.HartExit code) h z xs = 1
exits_of (stepped.AllExit code) h z xs = length (lefts_live code 0 (slice_set xs h z))
exits_of _ h z xs = 0

-- the harts that run, in rising order, where the first of the list has the number k
abbrev pub running_harts : ℕ → List Mind → List ℕ
running_harts k [] = []
running_harts k (x ∷ xs) = if runs x then k ∷ running_harts (k + 1) xs else running_harts (k + 1) xs

-- the job of a hart is out, where these are the marks of the first harts
abbrev pub is_out : List Bool → ℕ → Bool
is_out out h = slice_index_or out h false

abbrev pub NoneOut : List Bool → Type 0
NoneOut out = (h : ℕ) → is_out out h ≡ false

-- the least running hart at or above a number that has no job out
abbrev pub least_running : List Mind → List Bool → ℕ → Option ℕ
least_running xs out from = find (λ h. nat_le from h && not (is_out out h)) (running_harts 0 xs)

abbrev pub some_or : Option ℕ → Option ℕ → Option ℕ
some_or None other = other
some_or (Some k) other = Some k

-- the next such hart round the harts: the least at or above the number, else the least of all
abbrev pub next_running : List Mind → List Bool → ℕ → Option ℕ
next_running xs out from = some_or (least_running xs out from) (least_running xs out 0)
