-- What is decided at the edge of the system; all of it is this project's own.
use Rattle.std.specs.Prelude.{◌≡◌, ◌<◌, ℕ, zero, suc, List, [], length, take, Option, None, Some, Result, Ok, Err}
use Rattle.std.specs.Io.KnownBytes.{Appends, Consumes, IsAtEnd, Keeps}
use Rattle.std.specs.Global.{Vec}
use Rattle.std.specs.declared.io.ErrorKind.{ErrorKind}
use Rattle.std.specs.declared.io.ErrorKind.TheVariants as kind
use Rattle.dbg_traits.specs.declared.world.FileRead.{FileRead}
use Rattle.dbg_traits.specs.declared.world.FileRead.TheVariants as file
use Rattle.dbg_traits.specs.declared.world.Polled.{Polled}
use Rattle.dbg_traits.specs.declared.world.Polled.TheVariants as poll
use Rattle.dbg_traits.specs.declared.world.Put.{Put}
use Rattle.dbg_traits.specs.declared.world.Put.TheVariants as put
use Rattle.system_world.specs.declared.feed.Source.{Source}
use Rattle.system_world.specs.declared.feed.Source.TheVariants as source

-- The call is made again where a signal interrupted it, or the descriptor isn't ready and doesn't wait; then it rests for so many
-- milliseconds before.
abbrev pub rest_of : ErrorKind → Option ℕ
rest_of kind.Interrupted = Some 0
rest_of kind.WouldBlock = Some 1
rest_of _ = None

-- The command line was not read: it has no words where one isn't UTF-8, and else memory ran out.
abbrev pub HasNoWords : {E : Type 0} → ErrorKind → Result (Vec (List ℕ)) E → Type 0
HasNoWords kind.InvalidData (Ok words) = words.items ≡ []
HasNoWords kind.InvalidData (Err e) = ⊥
HasNoWords _ (Ok words) = ⊥
HasNoWords _ (Err e) = Unit {0}

-- a read of the file, by what the system answered
abbrev pub file_read : {E : Type 0} → Result ℕ E → FileRead
file_read (Ok zero) = file.End
file_read (Ok (suc n)) = file.Took (suc n)
file_read (Err e) = file.Failed

-- a read of the input
abbrev pub polled : {E : Type 0} → Result ℕ E → Polled
polled (Ok zero) = poll.End
polled (Ok (suc n)) = poll.Took (suc n)
polled (Err e) = poll.Failed

-- a write; one that takes nothing counts as failed
abbrev pub written : {E : Type 0} → Result ℕ E → Put
written (Ok zero) = put.Failed
written (Ok (suc n)) = put.Took (suc n)
written (Err e) = put.Failed

-- what a read of the input brings to the queue: its bytes, or how far the input came where there are none
abbrev pub brought : {E : Type 0} → Result ℕ E → List ℕ → Result (List ℕ) Source
brought (Ok zero) bytes = Err source.Ended
brought (Ok (suc n)) bytes = Ok (take (suc n) bytes)
brought (Err e) bytes = Err source.Failed

-- a poll of the queue, by how many bytes were taken from it and how far the input has come
abbrev pub poll_of : ℕ → Source → Polled
poll_of (suc n) s = poll.Took (suc n)
poll_of zero source.Open = poll.NotYet
poll_of zero source.Ended = poll.End
poll_of zero source.Failed = poll.Failed

-- A write appended what it took of the piece to the bytes that the writer holds, where those are known; and nothing where it failed.
abbrev pub PutAppends : Option (List ℕ) → Option (List ℕ) → Put → List ℕ → Type 0
PutAppends old new (put.Took n) piece = Appends old new (take n piece)
PutAppends old new put.Failed piece = Keeps old new

-- A read of the file gave its next bytes, where those are known; none at the end, and nothing where it failed.
abbrev pub ReadsNext : Option (List ℕ) → Option (List ℕ) → FileRead → List ℕ → Type 0
ReadsNext old new (file.Took n) into = Consumes old new (take n into)
ReadsNext old new file.End into = Keeps old new × (0 < length into → IsAtEnd new)
ReadsNext old new file.Failed into = Keeps old new

-- A poll of the input itself gave its next bytes, where those are known; none at the end, and nothing where it failed. It waited.
abbrev pub PollsNext : Option (List ℕ) → Option (List ℕ) → Polled → List ℕ → Type 0
PollsNext old new (poll.Took n) into = Consumes old new (take n into)
PollsNext old new poll.NotYet into = ⊥
PollsNext old new poll.End into = Keeps old new × (0 < length into → IsAtEnd new)
PollsNext old new poll.Failed into = Keeps old new

-- A read of the input brought its next bytes, where those are known; none at the end, and nothing where it failed.
abbrev pub BringsNext : Option (List ℕ) → Option (List ℕ) → Result (List ℕ) Source → Type 0
BringsNext old new (Ok bytes) = Consumes old new bytes
BringsNext old new (Err source.Open) = ⊥
BringsNext old new (Err source.Ended) = Keeps old new × IsAtEnd new
BringsNext old new (Err source.Failed) = Keeps old new
