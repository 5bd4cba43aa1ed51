use Rattle.std.proofs.Common.{rules, ◌≡◌, IfOk, ℕ, List}
use Rattle.std.specs.Prelude.{Option, refl}
use Rattle.mi_input.specs.Parts.{WordView}
use Rattle.mi_input.specs.Split.{words_view}
use Rattle.mi_commands.specs.declared.command.Command.{Command}
use Rattle.mi_commands.specs.declared.operation.Operation.{Operation}
use Rattle.mi_commands.specs.declared.operation.Operation.TheVariants as op
use Rattle.mi_commands.specs.declared.counts.OptionName.TheVariants as option
use Rattle.mi_commands.specs.Commands.{command_for, set_register}
use Rattle.mi_commands.specs.Faults.{first_word, number_in}
use Rattle.mi_commands.specs.Registers.{assignment}
use Rattle.mi_commands.specs.Words.{parameters}
use Rattle.mi_commands.proofs.parsing.command.Goals as goal

-- what `-gdb-set $NAME=VALUE` asks for, by what is read of its words
set_asked : (o : Operation) (ws ps : List WordView) (word : List ℕ) (thread : Option ℕ) → o ≡ op.SetRegister → ps ≡ parameters ws → word ≡ first_word ps →
    thread ≡ number_in option.Thread ws → set_register thread (assignment word) ≡ command_for o ws
set_asked o ws ps word thread is ps_is word_is thread_is = rw thread_is (rw word_is (rw ps_is (rw is refl)))

pub returns-in-SetRegister : goal.returns-in-SetRegister
returns-in-SetRegister c =
    let q : set_register c.number_in-thread.result (assignment c.first_word-in-SetRegister.result.now) ≡ command_for c.args.operation (words_view c.args.words.now) =
    set_asked _ _ _ _ _ c.in-SetRegister.is c.parameters-parameters.ensures c.first_word-in-SetRegister.ensures c.number_in-thread.ensures in
    rw (← q) c.set_register.ensures
