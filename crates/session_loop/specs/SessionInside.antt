-- A session's fields. This project's own.
use Rattle.std.specs.Prelude.{drop}
use Rattle.session_loop.specs.declared.session.Session.TheInside.{Inside}
use Rattle.session_parts.specs.Ties.{Taken}
use Rattle.session_parts.specs.Seen.{Seen}
use Rattle.session_parts.specs.Stage.{stage_of}

abbrev pub taken_of : {W : Type 0} → Inside W → Taken
taken_of s = record { rest = drop s.start s.buffer.items; count = s.count; ended = s.ended }

abbrev pub seen_of : {W : Type 0} → Inside W → Seen W
seen_of s = record { world = s.world; run = stage_of s.engine; input = taken_of s; status = s.status; next = s.next; out = s.out; known = s.known; near = s.near }
