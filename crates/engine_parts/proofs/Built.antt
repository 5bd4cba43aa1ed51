-- Engines as the moves make them, part by part.
use Rattle.std.specs.Prelude.{ℕ, ◌+◌, Bool, List, [], ◌∷◌, ◌++◌, Option, None, slice_set}
use Rattle.rv_exec.specs.Memory.{Memory}
use Rattle.text_words.specs.Words.{Words}
use Rattle.scratch_slots.specs.declared.slots.SlotUse.{SlotUse}
use Rattle.mi_commands.specs.declared.command.Displaced.{Displaced}
use Rattle.hart_machine.specs.declared.hart.Core.{Core}
use Rattle.break_table.specs.Entry.{Entry as BreakEntry}
use Rattle.dbg_model.specs.declared.entry.Entry.{Entry}
use Rattle.dbg_model.specs.declared.entry.Entry.TheVariants.{Did, Poked}
use Rattle.dbg_model.specs.declared.entry.Poke.{Poke}
use Rattle.watch_points.specs.declared.watchpoint.Watch.{Watch as Watchpoint}
use Rattle.dbg_model.specs.Journals.{lengthened}
use Rattle.engine_parts.specs.declared.mind.Hold.{Hold}
use Rattle.engine_parts.specs.declared.mind.Mind.{Mind}
use Rattle.engine_parts.specs.Seen.{Engine}

-- a hart has another phase, with other patches and another hold
abbrev pub rephased : Engine → ℕ → Mind → Words → Option Hold → Engine
rephased r h x t hold = record r { machine = record r.machine { text = t }; minds = slice_set r.minds h x; hold = hold }

-- a hart has another phase, with other registers, patches, slots and another hold
abbrev pub rehomed : Engine → ℕ → Core → Mind → Words → List (Option SlotUse) → Option Hold → Engine
rehomed r h c x t slots hold =
    record r { machine = record r.machine { text = t; cores = slice_set r.machine.cores h c; slots = slots }; minds = slice_set r.minds h x; hold = hold }

-- one instruction of a hart, by which none exits
abbrev pub executed : Engine → ℕ → Core → Mind → Memory → ℕ → Engine
executed r h c x memory spare =
    record r {
      journal = lengthened r.journal h;
      spare = spare;
      machine = record r.machine { cores = slice_set r.machine.cores h c; memory = memory };
      minds = slice_set r.minds h x;
      retired = r.retired + 1;
    }

-- one instruction of a hart, by which harts exited with these entries, after which these are the harts, patches and slots
abbrev pub departed : Engine → ℕ → List Core → List Mind → Memory → Words → List (Option SlotUse) → List Entry → ℕ → ℕ → Engine
departed r h cs xs memory t slots lefts count spare =
    record r {
      journal = lengthened r.journal h ++ lefts;
      spare = spare;
      machine = record { text = t; cores = cs; memory = memory; slots = slots };
      minds = xs;
      hold = None;
      retired = r.retired + 1;
      noted = r.noted + count;
    }

-- a hart stopped, or was counted, with this entry, these patches, breakpoints and watches
abbrev pub halted : Engine → Entry → ℕ → Mind → Words → List BreakEntry → List Watchpoint → ℕ → Engine
halted r e h x t bs ws spare =
    record r {
      journal = r.journal ++ e ∷ [];
      spare = spare;
      machine = record r.machine { text = t };
      minds = slice_set r.minds h x;
      breaks = bs;
      watches = ws;
      noted = r.noted + 1;
    }

-- a line was done, after which these are the harts, the selected thread, the setting, the patches, the breakpoints and the watches, and whether the session was ended
abbrev pub lined : Engine → Entry → List Mind → ℕ → Displaced → Words → List BreakEntry → List Watchpoint → ℕ → Bool → ℕ → Engine
lined r e xs selected d t bs ws given exited spare =
    record r {
      journal = r.journal ++ e ∷ [];
      spare = spare;
      machine = record r.machine { text = t };
      minds = xs;
      breaks = bs;
      watches = ws;
      given = given;
      selected = selected;
      displaced = d;
      noted = r.noted + 1;
      exited = exited;
    }

-- a line was done that asks for a write, and that was written: these are the harts and the memory then
abbrev pub poked : Engine → List ℕ → Poke → List Core → Memory → ℕ → Engine
poked r line p cs memory spare =
    record r {
      journal = (r.journal ++ Did line ∷ []) ++ Poked p ∷ [];
      spare = spare;
      machine = record r.machine { cores = cs; memory = memory };
      noted = r.noted + 2;
    }
