-- What a worker does behind an ask: this project's own rule.
use Rattle.std.specs.Prelude.{Bool, if◌then◌else◌}
use Rattle.hart_workers.specs.declared.crew.Asked.{Asked}
use Rattle.hart_workers.specs.declared.crew.Asked.TheVariants as asked
use Rattle.hart_workers.specs.declared.next.Next.{Next}
use Rattle.hart_workers.specs.declared.next.Next.TheVariants as next

-- Where its duty is done already it asks again. The job of a hart that was picked it works. Without one it asks again, but rests
-- where the crew is idle; and it ends where nothing is left to do.
abbrev pub next_of : Asked → Bool → Next
next_of asked.Served idle = next.Ask
next_of (asked.Picked h) idle = next.Work h
next_of asked.Again idle = if idle then next.Rest else next.Ask
next_of asked.Over idle = next.End
