-- Breakpoints that the user set: which of them is temporary, and which numbers are theirs
-- (GDB manual, "Setting Breakpoints", "Deleting Breakpoints", "Disabling Breakpoints").
use Rattle.std.specs.Prelude.{ℕ, Bool, true, false, List, [], ◌∷◌, map, filter, Option, Some, None, if◌then◌else◌, ◌==◌, ◌&&◌}
use Rattle.break_table.specs.Entry.{Entry}
use Rattle.break_table.specs.Table.{has_number, changed_entry, is_other, with_enabled}
use Rattle.break_table.specs.declared.due.CondError.{CondError}
use Rattle.break_table.specs.declared.due.CondError.TheVariants.{DivZero, Unread}
use Rattle.break_table.specs.declared.due.Due.{Due}

-- whether the breakpoint of that number is temporary
abbrev pub is_temporary : List Entry → ℕ → Bool
is_temporary [] number = false
is_temporary (e ∷ es) number = if e.number == number then e.temporary else is_temporary es number

-- the first of the numbers that no breakpoint has
abbrev pub missing_number : List Entry → List ℕ → Option ℕ
missing_number es [] = None
missing_number es (n ∷ ns) = if has_number n es then missing_number es ns else Some n

-- the breakpoints without those of these numbers
abbrev pub without : List ℕ → List Entry → List Entry
without [] es = es
without (n ∷ ns) es = without ns (filter (is_other n) es)

-- the breakpoints, of which those of these numbers are enabled, or disabled
abbrev pub enabling : Bool → List ℕ → List Entry → List Entry
enabling enabled [] es = es
enabling enabled (n ∷ ns) es = enabling enabled ns (map (changed_entry (with_enabled enabled) n) es)

-- no breakpoint stops a hart, and none counts
abbrev pub nothing_due : Due
nothing_due = record { stop = None; error = None; counts = false }

abbrev pub same_error : Option CondError → Option CondError → Bool
same_error None None = true
same_error None (Some e) = false
same_error (Some e) None = false
same_error (Some DivZero) (Some DivZero) = true
same_error (Some DivZero) (Some (Unread b)) = false
same_error (Some (Unread a)) (Some DivZero) = false
same_error (Some (Unread a)) (Some (Unread b)) = a == b

abbrev pub is_number : Option ℕ → ℕ → Bool
is_number None n = false
is_number (Some m) n = m == n

-- the breakpoint of this number stops the hart, with this error of its condition
abbrev pub is_stop : Due → ℕ → Option CondError → Bool
is_stop d number error = is_number d.stop number && same_error d.error error
