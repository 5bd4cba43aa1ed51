use Rattle.std.proofs.Common.{◌≡◌, ℕ, List, length, refl, ap, ◌∙◌}
use Rattle.std.specs.Global.{Vec}
use Rattle.std.specs.Vec.{with_items}
use Rattle.std.proofs.lemmas.List.{with_items_is}
use Rattle.mi_commands.specs.declared.command.Displaced.{Displaced}
use Rattle.dbg_model.specs.declared.hart.Hart.{Hart}
use Rattle.dbg_model.specs.Outcome.{Change}
use Rattle.dbg_model.specs.Reply.{displaced_after, exited_after, harts_after, selected_after, sets_after}
use Rattle.dbg_effects.specs.declared.effect.Effect.{Effect}
use Rattle.dbg_effects.specs.declared.effect.Effect.TheVariants as effect
use Rattle.dbg_effects.specs.Effect.{change_of}
use Rattle.replay_parts.specs.declared.state.Parts.{Parts}
use Rattle.replay_parts.proofs.changes.change.Goals as goal

-- the other changes leave the settings
others : (p : Parts) (hs : Vec Hart) (e : Effect) → ((n : ℕ) → e ≡ effect.Select n → ⊥) → ((d : Displaced) → e ≡ effect.Displace d → ⊥) → (e ≡ effect.Exit → ⊥)
    → record p { harts = hs } ≡ record p { harts = hs; selected = selected_after p.selected (change_of e); displaced = displaced_after p.displaced (change_of e); sets = sets_after p.sets (change_of e); exited = exited_after p.exited (change_of e) }
others p hs (effect.Select n) a b c = absurd (a n refl)
others p hs (effect.Displace d) a b c = absurd (b d refl)
others p hs effect.Exit a b c = absurd (c refl)
others p hs effect.Nothing a b c = refl
others p hs (effect.Resume threads plan) a b c = refl
others p hs (effect.Interrupt threads) a b c = refl
others p hs (effect.Insert spec) a b c = refl
others p hs (effect.Watch text b') a b c = refl
others p hs (effect.Delete numbers) a b c = refl
others p hs (effect.Enable numbers enabled) a b c = refl
others p hs (effect.Condition number condition) a b c = refl
others p hs (effect.After number count) a b c = refl
others p hs (effect.Poke poke) a b c = refl

-- what was done in the slice of the harts
done : (v : Vec Hart) (new old : List Hart) (ch : Change) → length new ≡ v.len → old ≡ v.items → new ≡ harts_after old ch → (with_items v new).items ≡ harts_after v.items ch
done v new old ch long same e = with_items_is v new long ∙ (e ∙ ap (λ xs. harts_after xs ch) same)

pub returns-in-Displace-clause-rest : goal.returns-in-Displace-clause-rest
returns-in-Displace-clause-rest c = rw (c.in-Displace.is, c.sets_by-parts.ensures) refl

pub returns-in-Select-clause-rest : goal.returns-in-Select-clause-rest
returns-in-Select-clause-rest c = rw c.in-Select.is refl

pub returns-in-Exit-clause-rest : goal.returns-in-Exit-clause-rest
returns-in-Exit-clause-rest c = rw c.in-Exit.is refl

pub returns-in_default-clause-rest : goal.returns-in_default-clause-rest
returns-in_default-clause-rest c = others c.args.parts.now _ c.args.effect.now c.in_default.not-Select c.in_default.not-Displace c.in_default.not-Exit

pub returns-in-Displace-clause-harts : goal.returns-in-Displace-clause-harts
returns-in-Displace-clause-harts c = done c.args.parts.now.harts c.change_harts.new.harts _ _ (c.change_harts.auto.harts ∙ c.as_mut_slice.ensures.len) c.as_mut_slice.ensures.value c.change_harts.ensures

pub returns-in-Select-clause-harts : goal.returns-in-Select-clause-harts
returns-in-Select-clause-harts c = done c.args.parts.now.harts c.change_harts.new.harts _ _ (c.change_harts.auto.harts ∙ c.as_mut_slice.ensures.len) c.as_mut_slice.ensures.value c.change_harts.ensures

pub returns-in-Exit-clause-harts : goal.returns-in-Exit-clause-harts
returns-in-Exit-clause-harts c = done c.args.parts.now.harts c.change_harts.new.harts _ _ (c.change_harts.auto.harts ∙ c.as_mut_slice.ensures.len) c.as_mut_slice.ensures.value c.change_harts.ensures

pub returns-in_default-clause-harts : goal.returns-in_default-clause-harts
returns-in_default-clause-harts c = done c.args.parts.now.harts c.change_harts.new.harts _ _ (c.change_harts.auto.harts ∙ c.as_mut_slice.ensures.len) c.as_mut_slice.ensures.value c.change_harts.ensures
