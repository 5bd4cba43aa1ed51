-- What the type of an engine keeps. This project's own.
use Rattle.std.specs.Prelude.{◌≡◌, ◌<◌, ◌≤◌, ◌+◌, ℕ, Bool, true, false, ◌&&◌, ◌==◌, not, ◌||◌, List, length, map, Option, Some, None, IsSome, slice_get, slice_index, if◌then◌else◌}
use Rattle.std.specs.List.{list_any}
use Rattle.dbg_traits.specs.Settings.{AreSettings}
use Rattle.rv_decode.specs.Decode.{decode}
use Rattle.elf32_read.specs.Program.{Program, text_word}
use Rattle.displaced_fix.specs.Fix.{IsWordAddress}
use Rattle.scratch_slots.specs.declared.slots.SlotUse.{SlotUse}
use Rattle.scratch_slots.specs.Table.{use_at}
use Rattle.mi_commands.specs.declared.command.Displaced.{Displaced}
use Rattle.text_words.specs.Words.{Words, shown, is_planted, unpatched}
use Rattle.hart_machine.specs.declared.hart.Core.{Core}
use Rattle.break_table.specs.Entry.{Entry as BreakEntry}
use Rattle.break_table.specs.Text.{is_instruction, is_place}
use Rattle.dbg_model.specs.Sources.{sources_of}
use Rattle.dbg_model.specs.declared.entry.Entry.{Entry}
use Rattle.dbg_model.specs.declared.opening.Opening.{Opening}
use Rattle.break_table.specs.Table.{is_wait, stands}
use Rattle.dbg_model.specs.State.{State, is_off}
use Rattle.dbg_model.specs.Journals.{Leaves}
use Rattle.dbg_model.specs.Erase.{erase, steps_of}
use Rattle.engine_parts.specs.declared.mind.Hold.{Hold}
use Rattle.engine_parts.specs.declared.mind.Mind.{Mind}
use Rattle.step_over.specs.declared.phase.Phase.{Phase}
use Rattle.step_over.specs.declared.phase.Phase.TheVariants as phase
use Rattle.engine_parts.specs.Minds.{awaited, runs, lifted_of, slot_of, entered_of, is_lifted}
use Rattle.engine_parts.specs.Seen.{Engine, seen}

-- a word of text is at the address
abbrev pub InText : Program → ℕ → Type 0
InText p a = IsSome (shown (unpatched p) a)

-- the address whose patch is lifted for hart h
abbrev pub held_by : Option Hold → ℕ → Option ℕ
held_by None h = None
held_by (Some d) h = if d.hart == h then Some d.home else None

-- the hart for which a patch is lifted, where that is another one than h
abbrev pub other_holder : Option Hold → ℕ → Option ℕ
other_holder None h = None
other_holder (Some d) h = if d.hart == h then None else Some d.hart

abbrev pub is_home : Option Hold → ℕ → Bool
is_home None a = false
is_home (Some d) a = d.home == a

-- what decides which words are EBREAK: the breakpoints that the user set, the return address that each hart waits for, and the
-- patch that is lifted
pub record Wants : Type 0 where
  pub entries : List BreakEntry
  pub waits : List (Option ℕ)
  pub hold : Option Hold

-- an enabled breakpoint stands there, or a hart waits there
abbrev pub called : List BreakEntry → List (Option ℕ) → ℕ → Bool
called bs ws a = stands a bs || list_any (is_wait a) ws

-- a patch is wanted where it is called for and isn't lifted
abbrev pub wanted : Wants → ℕ → Bool
wanted w a = called w.entries w.waits a && not (is_home w.hold a)

-- the program's words are the image's, and a patch is planted exactly where one is wanted: so each stored word is
-- EBREAK there, and elsewhere the image's
pub record Planted (p : Program) (t : Words) (w : Wants) : Type 0 where
  pub words : t.words ≡ (unpatched p).words
  pub patches : (a : ℕ) → is_planted t a ≡ wanted w a

-- hart h has the slot, for a copy of the image's word at home
pub record Slotted (p : Program) (slots : List (Option SlotUse)) (h slot home : ℕ) : Type 0 where
  pub word : ℕ
  pub out : use_at slots slot ≡ Some (record { hart = h; word = word })
  pub image : text_word p home ≡ Some word
  pub at_slot : IsWordAddress slot
  pub at_home : IsWordAddress home

-- behind a copy that was executed, and so is of an instruction
pub record Executed (p : Program) (slots : List (Option SlotUse)) (h slot home : ℕ) : Type 0 where
  pub slotted : Slotted p slots h slot home
  pub decodes : IsSome (decode slotted.word)

-- where a hart is in each phase
abbrev pub Placed : Program → List (Option SlotUse) → ℕ → Core → Phase → Type 0
Placed p slots h c phase.Idle = Unit {0}
Placed p slots h c (phase.Copied slot home) = Slotted p slots h slot home × (c.regs.pc ≡ slot)
Placed p slots h c (phase.Landed slot home) = Executed p slots h slot home
Placed p slots h c (phase.Lifted home) = InText p home × (c.regs.pc ≡ home)
Placed p slots h c (phase.Ran home) = InText p home

pub record HartFact (p : Program) (slots : List (Option SlotUse)) (hold : Option Hold) (h : ℕ) (c : Core) (x : Mind) : Type 0 where
  pub placed : Placed p slots h c x.phase
  -- a hart has entered its slot exactly where it is at the copy
  pub entered : c.entered ≡ entered_of x.phase
  -- so the patch is lifted for one hart at most
  pub held : lifted_of x.phase ≡ held_by hold h
  -- a hart that isn't running steps over nothing
  pub idle : runs x ≡ false → x.phase ≡ phase.Idle

-- hart k has the slot
pub record HasSlot (minds : List Mind) (k slot : ℕ) : Type 0 where
  pub mind : Mind
  pub at : slice_get minds k ≡ Some mind
  pub has : slot_of mind.phase ≡ Some slot

-- The facts of each hart beside its core. A patch is lifted for a hart that there is, and each slot that is out belongs to a hart
-- that is in it.
pub record Harts (p : Program) (cores : List Core) (slots : List (Option SlotUse)) (minds : List Mind) (hold : Option Hold) : Type 0 where
  pub len : length cores ≡ length minds
  pub each : (h : ℕ) (c : Core) (x : Mind) → slice_get cores h ≡ Some c → slice_get minds h ≡ Some x → HartFact p slots hold h c x
  pub holder : (d : Hold) → hold ≡ Some d → d.hart < length minds
  -- each slot that is out is of one hart, which has it
  pub used : (slot : ℕ) (u : SlotUse) → use_at slots slot ≡ Some u → HasSlot minds u.hart slot

-- each breakpoint stands at a word of text
abbrev pub AreInText : Program → List BreakEntry → Type 0
AreInText p bs = (k : ℕ) (b : BreakEntry) → slice_get bs k ≡ Some b → InText p b.address

-- the machine counts the instructions of each hart as the journal has them
abbrev pub Retired : List Core → List Entry → Type 0
Retired cores j = (h : ℕ) (c : Core) → slice_get cores h ≡ Some c → c.retired ≡ steps_of h (erase j)

-- one for a hart with a lifted patch, which will execute where a breakpoint stands and not as a copy
abbrev pub pending : Displaced → Phase → ℕ
pending d q = if not (is_off d) && is_lifted q then 1 else 0

-- where there are slots, each hart executed by copies where an enabled breakpoint stood and displaced stepping wasn't off,
-- but for one instruction at most for each time that it was switched on
abbrev pub AreCopied : ℕ → List Core → List Mind → Displaced → List ℕ → ℕ → Type 0
AreCopied count cores minds d passed sets =
    0 < count → (h : ℕ) (c : Core) (x : Mind) → slice_get cores h ≡ Some c → slice_get minds h ≡ Some x → slice_index passed h + pending d x.phase ≤ c.copied + sets

-- where there are slots, each hart's copies and the lines that switched displaced stepping on are together at least its
-- instructions that were executed where an enabled breakpoint stood, while displaced stepping wasn't off
abbrev pub CopiedOver : ℕ → List Core → State → Type 0
CopiedOver count cores s = 0 < count → (h : ℕ) (c : Core) → slice_get cores h ≡ Some c → slice_index s.passed h ≤ c.copied + s.sets

-- the patch is lifted for one hart at most
abbrev pub OneLifted : Engine → Type 0
OneLifted r = (h k : ℕ) (x y : Mind) (a b : ℕ) → slice_get r.minds h ≡ Some x → slice_get r.minds k ≡ Some y → lifted_of x.phase ≡ Some a → lifted_of y.phase ≡ Some b → h ≡ k

-- threads are counted from 1
abbrev pub IsThread : Opening → ℕ → Type 0
IsThread o thread = (0 < thread) × (thread ≤ o.settings.harts)

-- what the engine's patches are wanted for
abbrev pub wants_of : Engine → Wants
wants_of r = record { entries = r.breaks; waits = r.waits; hold = r.hold }

-- each hart that waits waits at a word of text
abbrev pub AwaitText : Program → List (Option ℕ) → Type 0
AwaitText p ws = (a : ℕ) → list_any (is_wait a) ws ≡ true → InText p a

-- what holds of an engine, wherever its harts wait
pub record Sound (r : Engine) : Type 0 where
  -- the journal is lawful, and leaves what is seen
  pub leaves : Leaves r.opening r.journal (seen r)
  pub settings : AreSettings r.opening.settings
  pub count : length r.minds ≡ r.opening.settings.harts
  -- the selected thread is one of the harts
  pub selected : IsThread r.opening r.selected
  pub harts : Harts r.opening.image r.machine.cores r.machine.slots r.minds r.hold
  pub slots : length r.machine.slots ≡ r.opening.settings.slots
  pub planted : Planted r.opening.image r.machine.text (wants_of r)
  pub texts : AreInText r.opening.image r.breaks
  -- the table of breakpoints knows where text stands, and the harts
  pub places : (a : ℕ) → is_place r.bounds a ≡ is_instruction r.opening.image a
  pub many : length r.waits ≡ r.opening.settings.harts
  pub awaits : AwaitText r.opening.image r.waits
  pub sources : r.sources ≡ sources_of r.opening.image
  pub retired : Retired r.machine.cores r.journal
  pub copied : AreCopied r.opening.settings.slots r.machine.cores r.minds r.displaced (seen r).passed (seen r).sets

-- what the type of an engine keeps
pub record Facts (r : Engine) : Type 0 where
  pub sound : Sound r
  -- each hart waits where its plan has it wait
  pub waits : r.waits ≡ map (awaited r.opening.image) r.minds
