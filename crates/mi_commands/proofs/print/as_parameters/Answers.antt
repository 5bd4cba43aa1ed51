use Rattle.std.proofs.Common.{◌<◌, length, ap, sym, ◌∙◌, arith}
use Rattle.std.specs.Prelude.{slice_set}
use Rattle.std.proofs.lemmas.List.Edits.{map_over_more}
use Rattle.mi_commands.specs.Prints.{parameter_word}
use Rattle.mi_commands.proofs.print.as_parameters.Goals as goal

pub loop-word-preserved : goal.loop-word-preserved
loop-word-preserved c =
    let words = c.loop-word.words in
    let k = c.loop-word.word-index in
    let within : k < length c.args.words.now = omega arith in
    ap (slice_set words k) (c.as_parameter.ensures ∙ ap parameter_word (sym c.word-item.is))
    ∙ map_over_more parameter_word c.args.words.now words k c.word-item.result within c.loop-word.invariant c.word-item.is
