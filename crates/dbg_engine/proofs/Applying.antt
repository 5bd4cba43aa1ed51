-- A change that a line makes can be made.
use Rattle.std.proofs.Common.{◌≡◌, ℕ, ◌^◌, ◌<◌, true, List, length, sym, ap, ◌∙◌, subst}
use Rattle.std.specs.Prelude.{is_some}
use Rattle.elf32_read.specs.Program.{Program, text_word}
use Rattle.text_words.proofs.Below.{word_below}
use Rattle.break_table.specs.Entry.{asked_of}
use Rattle.break_table.specs.Table.{Table}
use Rattle.break_table.specs.Text.{is_place}
use Rattle.dbg_model.specs.Outcome.{inserts}
use Rattle.dbg_model.proofs.Founding.{IsFounded, change_founded, change_watchable}
use Rattle.dbg_model.proofs.Inserting.{can_insert}
use Rattle.engine_parts.specs.Seen.{Engine, seen}
use Rattle.engine_parts.specs.Facts.{Sound, wants_of, InText}
use Rattle.engine_parts.proofs.Planting.{text_shown}
use Rattle.dbg_effects.specs.Effect.{change_of}
use Rattle.dbg_effects.specs.declared.effect.Effect.{Effect}
use Rattle.dbg_effects.specs.declared.effect.Effect.TheVariants as effect
use Rattle.engine_parts.specs.Changing.{Makes}
use Rattle.dbg_engine.specs.Changing.{Applies}
use Rattle.dbg_effects.specs.Table.{CanBeWatched}
use Rattle.engine_parts.proofs.Commanding.{harts_length}

-- a word of the file's text is one of the machine's
text_in : (p : Program) (a : ℕ) → a < 2 ^ 32 → is_some (text_word p a) ≡ true → InText p a
text_in p a low is = ap is_some (word_below (text_word p) (2 ^ 32) a low) ∙ is

-- a change that a line makes can be made
pub applies : (r : Engine) (line : List ℕ) (e : Effect) (t : Table) → Sound r → r.breaks ≡ t.entries → r.bounds ≡ t.text → r.waits ≡ t.waits → Makes r line (change_of e) → Applies r.machine.text t e
applies r line (effect.Insert s) t f breaks bounds waits is =
    let p = r.opening.image in
    let xs = (seen r).harts in
    let k = subst (IsFounded p xs r.breaks) is (change_founded r.opening (seen r) line) in
    let place = ap (λ us. is_place us s.address) (sym bounds) ∙ f.places s.address in
    let len : length xs ≡ length t.waits = harts_length p r.machine.cores r.minds f.harts.len ∙ (f.count ∙ (sym f.many ∙ ap length waits)) in
    let free = can_insert p xs t (asked_of s) place len (subst (λ es. IsFounded p xs es (inserts (asked_of s))) breaks k) in
    (free, λ low. text_shown p r.machine.text (wants_of r) s.address f.planted (text_in p s.address low k.0))
applies r line (effect.Watch text b) t f breaks bounds waits is = tt
applies r line (effect.Delete ns) t f breaks bounds waits is = tt
applies r line (effect.Enable ns e) t f breaks bounds waits is = tt
applies r line (effect.Condition n c) t f breaks bounds waits is = tt
applies r line (effect.After n k) t f breaks bounds waits is = tt
applies r line effect.Nothing t f breaks bounds waits is = tt
applies r line (effect.Resume ts plan) t f breaks bounds waits is = tt
applies r line (effect.Interrupt ts) t f breaks bounds waits is = tt
applies r line (effect.Select n) t f breaks bounds waits is = tt
applies r line (effect.Displace v) t f breaks bounds waits is = tt
applies r line (effect.Poke p) t f breaks bounds waits is = tt
applies r line effect.Exit t f breaks bounds waits is = tt

-- a watch that a line adds can be added
pub watchable : (r : Engine) (line : List ℕ) (e : Effect) → Makes r line (change_of e) → CanBeWatched r.watches e
watchable r line (effect.Insert s) is = tt
watchable r line (effect.Watch text b) is = change_watchable r.opening (seen r) line text b is
watchable r line (effect.Delete ns) is = tt
watchable r line (effect.Enable ns e) is = tt
watchable r line (effect.Condition n c) is = tt
watchable r line (effect.After n k) is = tt
watchable r line effect.Nothing is = tt
watchable r line (effect.Resume ts plan) is = tt
watchable r line (effect.Interrupt ts) is = tt
watchable r line (effect.Select n) is = tt
watchable r line (effect.Displace v) is = tt
watchable r line (effect.Poke p) is = tt
watchable r line effect.Exit is = tt
