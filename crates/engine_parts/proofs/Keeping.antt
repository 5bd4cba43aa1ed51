-- What each kind of move keeps.
use Rattle.std.proofs.Common.{◌≡◌, ◌<◌, ◌≤◌, ℕ, List, length, refl, sym, ap, ◌∙◌, subst, length-set}
use Rattle.std.specs.Prelude.{Option, Some, slice_get, slice_set}
use Rattle.dbg_traits.specs.Settings.{AreSettings}
use Rattle.text_words.specs.Words.{Words}
use Rattle.dbg_model.specs.Sources.{sources_of}
use Rattle.break_table.specs.Text.{is_instruction, is_place}
use Rattle.scratch_slots.specs.declared.slots.SlotUse.{SlotUse}
use Rattle.mi_commands.specs.declared.command.Displaced.{Displaced}
use Rattle.step_over.specs.declared.phase.Phase.{Phase}
use Rattle.hart_machine.specs.declared.hart.Core.{Core}
use Rattle.hart_machine.proofs.Places.{set_known}
use Rattle.dbg_model.specs.State.{State}
use Rattle.dbg_model.specs.Journals.{Leaves}
use Rattle.engine_parts.specs.declared.mind.Hold.{Hold}
use Rattle.engine_parts.specs.declared.mind.Mind.{Mind}
use Rattle.engine_parts.specs.Seen.{Engine, Told, seen, seen_with, told_of, seen_hart, seen_harts}
use Rattle.engine_parts.specs.Facts.{Sound, Harts, Planted, AreInText, AwaitText, AreCopied, Retired, IsThread, pending, wants_of}
use Rattle.engine_parts.proofs.Built.{rehomed, rephased}
use Rattle.engine_parts.proofs.Showing.{reseen, seen_at, seen_same}
use Rattle.engine_parts.proofs.Counting.{retired_same, copied_same}
use Rattle.engine_parts.proofs.Updating.{Changes, updated}

-- the hart that moves
pub record Mover (r : Engine) (h : ℕ) (c : Core) (x : Mind) : Type 0 where
  pub core : slice_get r.machine.cores h ≡ Some c
  pub mind : slice_get r.minds h ≡ Some x

pub hart_at : (r : Engine) (h : ℕ) (c : Core) (x : Mind) → Mover r h c x → slice_get (seen r).harts h ≡ Some (seen_hart r.opening.image c x)
hart_at r h c x m = seen_at r.opening.image r.machine.cores r.minds h c x m.core m.mind

-- the facts hold, and the same is seen
pub record StaysSeen (r s : Engine) : Type 0 where
  pub facts : Sound s
  pub seen : seen s ≡ seen r

-- what an engine has beside its journal, which tells this
pub record Stands (r : Engine) (told : Told) : Type 0 where
  pub count : length r.minds ≡ r.opening.settings.harts
  pub selected : IsThread r.opening r.selected
  pub harts : Harts r.opening.image r.machine.cores r.machine.slots r.minds r.hold
  pub slots : length r.machine.slots ≡ r.opening.settings.slots
  pub planted : Planted r.opening.image r.machine.text (wants_of r)
  pub texts : AreInText r.opening.image r.breaks
  pub places : (a : ℕ) → is_place r.bounds a ≡ is_instruction r.opening.image a
  pub many : length r.waits ≡ r.opening.settings.harts
  pub awaits : AwaitText r.opening.image r.waits
  pub sources : r.sources ≡ sources_of r.opening.image
  pub retired : Retired r.machine.cores r.journal
  pub copied : AreCopied r.opening.settings.slots r.machine.cores r.minds r.displaced told.passed told.sets

-- the facts after a move that was entered in the journal
pub record Enters (r : Engine) (s : State) : Type 0 where
  pub facts : Sound r
  pub seen : s ≡ seen r

pub entered : (r : Engine) (s : State) → AreSettings r.opening.settings → Leaves r.opening r.journal s → s ≡ seen_with r (told_of s) → Stands r (told_of s) → Enters r s
entered r s settings l e f =
    let same = reseen r s l e in
    record {
      facts = record {
        leaves = subst (λ (t : State). Leaves r.opening r.journal t) same l;
        settings = settings;
        count = f.count;
        selected = f.selected;
        harts = f.harts;
        slots = f.slots;
        planted = f.planted;
        texts = f.texts;
        places = f.places;
        many = f.many;
        awaits = f.awaits;
        sources = f.sources;
        retired = f.retired;
        copied = subst (λ (t : State). AreCopied r.opening.settings.slots r.machine.cores r.minds r.displaced t.passed t.sets) same f.copied;
      };
      seen = same;
    }

-- a hart goes on as it is, for what its copies count: no patch is lifted for it anew
pub record Recounts (count : ℕ) (d : Displaced) (c c' : Core) (q q' : Phase) : Type 0 where
  pub retired : c'.retired ≡ c.retired
  pub copied : c'.copied ≡ c.copied
  pub pending : 0 < count → pending d q' ≤ pending d q

-- a move that shows nothing: a hart has another phase, with other registers, patches, slots and another hold
pub silent_home : (r : Engine) (h : ℕ) (c c' : Core) (x x' : Mind) (t : Words) (slots : List (Option SlotUse)) (hold : Option Hold) → Sound r → Mover r h c x → seen_hart r.opening.image c' x' ≡ seen_hart r.opening.image c x
    → Changes r.opening.image r.machine.slots slots r.hold hold h c' x' → length slots ≡ length r.machine.slots
    → Recounts r.opening.settings.slots r.displaced c c' x.phase x'.phase → Planted r.opening.image t (record (wants_of r) { hold = hold })
    → StaysSeen r (rehomed r h c' x' t slots hold)
silent_home r h c c' x x' t slots hold f m same ch len n p =
    let p' = r.opening.image in
    let xs = slice_set r.minds h x' in
    let cs = slice_set r.machine.cores h c' in
    let s : Engine = rehomed r h c' x' t slots hold in
    let at : seen_harts p' cs xs ≡ seen_harts p' r.machine.cores r.minds = seen_same p' r.machine.cores r.minds h c c' x x' m.core m.mind same in
    let seen_is : seen s ≡ seen r = ap (λ ys. let u : State = record (seen r) { harts = ys } in u) at in
    record {
      facts = record {
        leaves = subst (λ (u : State). Leaves r.opening r.journal u) (sym seen_is) f.leaves;
        settings = f.settings;
        count = length-set r.minds h x' ∙ f.count;
        selected = f.selected;
        harts = updated p' r.machine.cores r.machine.slots slots r.minds r.hold hold h c' x x' f.harts m.mind ch;
        slots = len ∙ f.slots;
        planted = p;
        texts = f.texts;
        places = f.places;
        many = f.many;
        awaits = f.awaits;
        sources = f.sources;
        retired = retired_same r.machine.cores h c c' r.journal m.core n.retired f.retired;
        copied = copied_same r.opening.settings.slots r.machine.cores r.minds h c c' x x' r.displaced (seen r).passed (seen r).sets m.core m.mind n.copied n.pending f.copied;
      };
      seen = seen_is;
    }

-- the same where the registers and slots stay
pub silent : (r : Engine) (h : ℕ) (c : Core) (x x' : Mind) (t : Words) (hold : Option Hold) → Sound r → Mover r h c x → seen_hart r.opening.image c x' ≡ seen_hart r.opening.image c x
    → Changes r.opening.image r.machine.slots r.machine.slots r.hold hold h c x' → (0 < r.opening.settings.slots → pending r.displaced x'.phase ≤ pending r.displaced x.phase) → Planted r.opening.image t (record (wants_of r) { hold = hold })
    → StaysSeen r (rephased r h x' t hold)
silent r h c x x' t hold f m same ch n p =
    let done = silent_home r h c c x x' t r.machine.slots hold f m same ch refl (record { retired = refl; copied = refl; pending = n }) p in
    let P : List Core → Type 0 = λ cs. StaysSeen r (record r { machine = record r.machine { text = t; cores = cs }; minds = slice_set r.minds h x'; hold = hold }) in
    subst P (set_known r.machine.cores h c m.core) done
