-- What waits in the queue: this project's own.
use Rattle.std.specs.Prelude.{◌≡◌, ◌≤◌, ℕ, List, [], ◌++◌, drop, length, take, Result, Ok, Err}
use Rattle.dbg_traits.specs.declared.world.Polled.{Polled}
use Rattle.system_world.specs.Edge.{poll_of}
use Rattle.system_world.specs.declared.feed.Feed.{Feed}
use Rattle.system_world.specs.declared.feed.Rest.{Rest}
use Rattle.system_world.specs.declared.feed.Source.{Source}

-- the bytes that weren't polled yet
abbrev pub waiting : Feed → List ℕ
waiting f = drop f.polled f.bytes.items

-- the bytes that the queue has yet to take
abbrev pub left_of : Result Rest Source → Result (List ℕ) Source
left_of (Ok rest) = Ok rest.bytes.now
left_of (Err source) = Err source

-- a poll took so many of the oldest bytes, and none only where none waited
pub record Answers (answer : Polled) (into : List ℕ) (old new : Feed) : Type 0 where
  pub taken : ℕ
  pub within : taken ≤ length into
  pub is : answer ≡ poll_of taken old.source
  pub front : waiting old ≡ take taken into ++ waiting new
  pub none : taken ≡ 0 → waiting old ≡ []
