use Rattle.std.proofs.Common.{◌≡◌, ℕ, Bool, List, refl, subst, sym}
use Rattle.std.specs.Prelude.{Option}
use Rattle.std.specs.Option.{option_map}
use Rattle.hart_machine.specs.Patched.{Patched}
use Rattle.break_table.specs.declared.entry.Spec.{Spec}
use Rattle.break_table.specs.Entry.{condition_of}
use Rattle.break_table.specs.Table.{Table, with_condition, with_ignore}
use Rattle.dbg_effects.specs.Effect.{change_of}
use Rattle.dbg_effects.specs.Table.{changed_table}
use Rattle.dbg_effects.specs.declared.effect.Effect.{Effect}
use Rattle.dbg_effects.specs.declared.effect.Effect.TheVariants as effect
use Rattle.engine_parts.specs.declared.mind.Hold.{Hold}
use Rattle.engine_parts.specs.Tables.{ArePlanted}
use Rattle.engine_parts.specs.Changing.{Retabled, wants_by}
use Rattle.engine_parts.proofs.Tabling.{kept_table}
use Rattle.dbg_engine.proofs.breaking.change_table.Goals as goal

-- the same breakpoints want the same words
same : (m : Patched) (old new : Table) (hold : Option Hold) → ArePlanted m.text (wants_by old hold) → wants_by new hold ≡ wants_by old hold → Retabled m m (wants_by new hold)
same m old new hold p is = subst (λ w. Retabled m m w) (sym is) (record { planted = p; words = refl; rest = refl })

-- an effect that neither sets, deletes nor enables a breakpoint leaves the machine as it is
others : (e : Effect) (m : Patched) (old : Table) (hold : Option Hold) → ((spec : Spec) → e ≡ effect.Insert spec → ⊥)
    → ((numbers : List ℕ) → e ≡ effect.Delete numbers → ⊥) → ((numbers : List ℕ) (enabled : Bool) → e ≡ effect.Enable numbers enabled → ⊥)
    → ArePlanted m.text (wants_by old hold) → Retabled m m (wants_by (changed_table old (change_of e)) hold)
others (effect.Insert spec) m old hold i d n p = absurd (i spec refl)
others (effect.Delete numbers) m old hold i d n p = absurd (d numbers refl)
others (effect.Enable numbers enabled) m old hold i d n p = absurd (n numbers enabled refl)
others (effect.Condition number condition) m old hold i d n p = kept_table (with_condition (option_map condition_of condition)) m old
    (changed_table old (change_of (effect.Condition number condition))) hold number (λ a x. refl) (λ x. refl) p refl
others (effect.After number count) m old hold i d n p = kept_table (with_ignore count) m old (changed_table old (change_of (effect.After number count))) hold number (λ a x. refl) (λ x. refl) p refl
others effect.Nothing m old hold i d n p = same m old old hold p refl
others (effect.Resume threads plan) m old hold i d n p = same m old old hold p refl
others (effect.Interrupt threads) m old hold i d n p = same m old old hold p refl
others (effect.Select thread) m old hold i d n p = same m old old hold p refl
others (effect.Displace value) m old hold i d n p = same m old old hold p refl
others (effect.Watch text b) m old hold i d n p = same m old (changed_table old (change_of (effect.Watch text b))) hold p refl
others (effect.Poke poke) m old hold i d n p = same m old old hold p refl
others effect.Exit m old hold i d n p = same m old old hold p refl

pub returns-in_default : goal.returns-in_default
returns-in_default c =
    let kept = others c.args.effect c.args.machine.now c.args.table.now c.args.hold c.in_default.not-Insert c.in_default.not-Delete c.in_default.not-Enable c.requires.planted in
    record {
      table = c.change_table.ensures.table;
      watches = c.change_table.ensures.watches;
      machine = subst (λ (t : Table). Retabled c.args.machine.now c.args.machine.now (wants_by t c.args.hold)) (sym c.change_table.ensures.table) kept;
    }
