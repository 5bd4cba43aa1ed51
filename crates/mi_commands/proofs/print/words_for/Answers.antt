use Rattle.std.proofs.Common.{◌≡◌, List, [], ◌∷◌, map, ap, sym, refl, ◌∙◌}
use Rattle.mi_input.specs.declared.parts.Word.{Word}
use Rattle.mi_input.specs.Split.{word_view, words_view}
use Rattle.mi_commands.specs.Prints.{as_parameter, parameter_word, words_for}
use Rattle.mi_commands.proofs.print.words_for.Goals as goal

seen_as_parameters : (words : List Word) → words_view (map parameter_word words) ≡ map as_parameter (words_view words)
seen_as_parameters [] = refl
seen_as_parameters (w ∷ words) = ap (λ ws. as_parameter (word_view w) ∷ ws) (seen_as_parameters words)

pub returns-in-VariableList : goal.returns-in-VariableList
returns-in-VariableList c =
    ap words_view c.as_parameters.ensures ∙ seen_as_parameters c.args.words.now ∙ ap (λ o. words_for o (words_view c.args.words.now)) (sym c.in-VariableList.is)
