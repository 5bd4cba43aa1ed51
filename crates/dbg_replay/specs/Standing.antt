-- Where the model's program stands in a journal, and what each of its steps takes. This project's own.
use Rattle.std.specs.Prelude.{◌≡◌, ℕ, Bool, true, false, List, Option, Some, None, Result, Ok, Err}
use Rattle.elf32_read.specs.declared.spans.Span.{Span}
use Rattle.text_words.specs.Words.{Words}
use Rattle.dbg_traits.specs.declared.text.NoMemory.{NoMemory}
use Rattle.dbg_model.specs.declared.entry.Entry.TheVariants.{Ran}
use Rattle.dbg_model.specs.declared.opening.Opening.{Opening}
use Rattle.dbg_model.specs.declared.shown.Shown.{Shown}
use Rattle.dbg_model.specs.Sources.{Sources}
use Rattle.dbg_model.specs.Journals.{Place, come}
use Rattle.replay_parts.specs.declared.state.Parts.{Parts}
use Rattle.replay_parts.specs.Parts.{state_of}
use Rattle.replay_parts.specs.Keeping.{Keeps}
use Rattle.replay_parts.specs.Further.{lengthen}

pub record Standing : Type 0 where
  -- behind what was taken
  pub place : Place
  -- what the entry or the instruction shows that was taken last
  pub shown : Option Shown
  -- what the program's file tells of its source
  pub sources : Sources
  -- the program's text, with nothing planted
  pub words : Words
  -- where text stands, and for each hart where it waits: nowhere
  pub text : List Span
  pub waits : List (Option ℕ)

abbrev pub place_of : Standing → Place
place_of t = t.place

-- parts behind an entry of that hart, if it is a `Ran`, and with what was shown last
abbrev pub standing_of : Parts → Option ℕ → Option Shown → Standing
standing_of p prev shown = record {
  place = record { prev = prev; state = state_of p };
  shown = shown;
  sources = p.sources;
  words = p.words;
  text = p.table.text;
  waits = p.table.waits;
}

-- it is of this opening
abbrev pub IsOf : Opening → Standing → Type 0
IsOf o t = Keeps o t.place.state t.sources t.words t.text t.waits

-- the place behind one instruction of a hart: the first of a new `Ran`, or one more of the last
abbrev pub come_one : Opening → Place → ℕ → Bool → Option Place
come_one o p h false = come o p (Ran h 1)
come_one o p h true = lengthen o p h

-- what may come is taken, with what it shows; where it may not come, or memory is short, nothing has changed
abbrev pub Takes : Result Bool NoMemory → Standing → Standing → Option Place → Shown → Type 0
Takes (Ok true) old new after shows = (after ≡ Some new.place) × (new.shown ≡ Some shows)
Takes (Ok false) old new after shows = (after ≡ None) × (new ≡ old)
Takes (Err e) old new after shows = new ≡ old

-- a journal, or an entry of it, is gone through to its end, or it isn't lawful
abbrev pub Passes : Result Bool NoMemory → Standing → Option Place → Type 0
Passes (Ok true) new after = after ≡ Some new.place
Passes (Ok false) new after = after ≡ None
Passes (Err e) new after = Unit {0}
