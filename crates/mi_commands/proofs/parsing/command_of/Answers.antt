use Rattle.std.proofs.Common.{◌≡◌, ◌∙◌, ap, sym, refl, List, Result}
use Rattle.std.specs.Option.{option_map}
use Rattle.mi_input.specs.declared.parts.Parts.{Parts}
use Rattle.mi_input.specs.declared.parts.Word.{Word}
use Rattle.mi_input.specs.Split.{parts_view, words_view}
use Rattle.mi_commands.specs.declared.command.Command.{Command}
use Rattle.mi_commands.specs.declared.refusal.Fault.{Fault}
use Rattle.mi_commands.specs.Commands.{answer, answer_of}
use Rattle.mi_commands.proofs.parsing.command_of.Goals as goal

-- the answer to a line's operation and words is that to its parts
answer_to_parts : (p : Parts) (ws : List Word) (a : Result Command Fault) → ws ≡ p.words.items → answer_of (option_map (λ v. v.now) p.operation) (words_view ws) ≡ a → a ≡ answer (parts_view p)
answer_to_parts p ws a same is = sym is ∙ ap (λ words. answer_of (option_map (λ v. v.now) p.operation) (words_view words)) same

pub returns-in-Ok-clause-commands : goal.returns-in-Ok-clause-commands
returns-in-Ok-clause-commands c = (
  c.in_ok-parts.ensures.splits.0,
  record {
    parts = parts_view c.in_ok-parts.parts;
    are_parts = c.in_ok-parts.ensures.splits.1;
    token_is = refl;
    answer_is = answer_to_parts c.in_ok-parts.parts _ _ c.deref_mut.ensures.value c.in-Ok.ensures;
  },
)

pub returns-clause-commands : goal.returns-clause-commands
returns-clause-commands c = (
  c.in_ok-parts.ensures.splits.0,
  record {
    parts = parts_view c.in_ok-parts.parts;
    are_parts = c.in_ok-parts.ensures.splits.1;
    token_is = refl;
    answer_is = answer_to_parts c.in_ok-parts.parts _ _ c.deref_mut.ensures.value (rw c.in-Err-Faulty.field-0-is at c.in-Err-Faulty.ensures);
  },
)
