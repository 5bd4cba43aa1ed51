-- The table of commands: how each is spelled, the options that it takes, how many parameters, and which of them are numbers
-- (GDB's manual, chapter "The GDB/MI Interface"; `exec-wait` is this project's own.)
use Rattle.std.specs.Prelude.{ℕ, List, [], ◌∷◌, Bool, false, ◌==◌, ◌&&◌, ◌||◌, nat_le, Option, Some, None, find, codes}
use Rattle.std.specs.Str.{bytes_eq}
use Rattle.mi_commands.specs.declared.operation.Operation.{Operation}
use Rattle.mi_commands.specs.declared.operation.Operation.TheVariants as op
use Rattle.mi_commands.specs.declared.counts.OptionName.{OptionName}
use Rattle.mi_commands.specs.declared.counts.OptionName.TheVariants as option
use Rattle.mi_commands.specs.declared.counts.Allowed.{Allowed}
use Rattle.mi_commands.specs.declared.counts.Allowed.TheVariants as allowed
use Rattle.mi_commands.specs.declared.counts.Count.{Count}
use Rattle.mi_commands.specs.declared.counts.Count.TheVariants as count
use Rattle.mi_commands.specs.declared.number.Numbers.{Numbers}
use Rattle.mi_commands.specs.declared.number.Numbers.TheVariants as numbers

-- the first of two
abbrev pub or_else : {X : Type 0} → Option X → Option X → Option X
or_else (Some x) other = Some x
or_else None other = other

-- The operations that have a name of their own, those that lines ask for most in front. `SetRegister` has none: it is a form
-- of `-gdb-set`.
unfoldable pub operations : List Operation
operations =
    op.Wait ∷ op.Continue ∷ op.Next ∷ op.Step ∷ op.NextInstruction ∷ op.StepInstruction ∷ op.BreakInsert ∷
    op.BreakDelete ∷ op.BreakEnable ∷ op.BreakDisable ∷ op.BreakCondition ∷ op.BreakAfter ∷ op.BreakList ∷
    op.BreakWatch ∷ op.Interrupt ∷ op.Finish ∷ op.ThreadInfo ∷ op.ThreadSelect ∷ op.ThreadList ∷ op.FrameList ∷
    op.FrameDepth ∷ op.FrameInfo ∷ op.VariableList ∷ op.RegisterNames ∷ op.RegisterValues ∷ op.ReadMemory ∷
    op.WriteMemory ∷ op.Evaluate ∷ op.Set ∷ op.Show ∷ op.Exit ∷ []

-- How a command is spelled behind the `-`, the options that it takes, how many parameters, and which of them are numbers.
abbrev pub Row : Type 0
Row = List ℕ × Allowed × Count × Numbers

-- the table of the commands
abbrev pub row : Operation → Row
row op.BreakInsert = (codes "break-insert", allowed.OfInsertion, count.One, numbers.NoNumbers)
row op.BreakDelete = (codes "break-delete", allowed.Nothing, count.AtLeastOne, numbers.Each)
row op.BreakEnable = (codes "break-enable", allowed.Nothing, count.AtLeastOne, numbers.Each)
row op.BreakDisable = (codes "break-disable", allowed.Nothing, count.AtLeastOne, numbers.Each)
row op.BreakCondition = (codes "break-condition", allowed.Nothing, count.AtLeastOne, numbers.First)
row op.BreakAfter = (codes "break-after", allowed.Nothing, count.Two, numbers.WithCount)
row op.BreakList = (codes "break-list", allowed.Nothing, count.Zero, numbers.NoNumbers)
row op.BreakWatch = (codes "break-watch", allowed.Nothing, count.AtLeastOne, numbers.NoNumbers)
row op.Continue = (codes "exec-continue", allowed.OfThreads, count.Zero, numbers.NoNumbers)
row op.Interrupt = (codes "exec-interrupt", allowed.OfThreads, count.Zero, numbers.NoNumbers)
row op.Step = (codes "exec-step", allowed.OfThread, count.Zero, numbers.NoNumbers)
row op.Next = (codes "exec-next", allowed.OfThread, count.Zero, numbers.NoNumbers)
row op.StepInstruction = (codes "exec-step-instruction", allowed.OfThread, count.Zero, numbers.NoNumbers)
row op.NextInstruction = (codes "exec-next-instruction", allowed.OfThread, count.Zero, numbers.NoNumbers)
row op.Finish = (codes "exec-finish", allowed.OfThread, count.Zero, numbers.NoNumbers)
row op.Wait = (codes "exec-wait", allowed.Nothing, count.Zero, numbers.NoNumbers)
row op.ThreadInfo = (codes "thread-info", allowed.Nothing, count.AtMostOne, numbers.Each)
row op.ThreadSelect = (codes "thread-select", allowed.Nothing, count.One, numbers.Each)
row op.ThreadList = (codes "thread-list-ids", allowed.Nothing, count.Zero, numbers.NoNumbers)
row op.FrameList = (codes "stack-list-frames", allowed.OfThread, count.Zero, numbers.NoNumbers)
row op.FrameDepth = (codes "stack-info-depth", allowed.OfThread, count.Zero, numbers.NoNumbers)
row op.FrameInfo = (codes "stack-info-frame", allowed.OfThread, count.Zero, numbers.NoNumbers)
row op.VariableList = (codes "stack-list-variables", allowed.OfThread, count.One, numbers.NoNumbers)
row op.RegisterNames = (codes "data-list-register-names", allowed.Nothing, count.Zero, numbers.NoNumbers)
row op.RegisterValues = (codes "data-list-register-values", allowed.OfThread, count.AtLeastOne, numbers.Registers)
row op.ReadMemory = (codes "data-read-memory-bytes", allowed.Nothing, count.Two, numbers.WithLength)
row op.WriteMemory = (codes "data-write-memory-bytes", allowed.Nothing, count.TwoOrThree, numbers.AroundBytes)
row op.Evaluate = (codes "data-evaluate-expression", allowed.OfThread, count.AtLeastOne, numbers.NoNumbers)
row op.Set = (codes "gdb-set", allowed.Nothing, count.Two, numbers.NoNumbers)
row op.SetRegister = (codes "gdb-set", allowed.OfThread, count.One, numbers.Each)
row op.Show = (codes "gdb-show", allowed.Nothing, count.One, numbers.NoNumbers)
row op.Exit = (codes "gdb-exit", allowed.Nothing, count.Zero, numbers.NoNumbers)

-- each operation's options and the number of its parameters
abbrev pub shape : Operation → Allowed × Count
shape o = ((row o).1, (row o).2)

-- the first of these operations that has this name
abbrev pub named_in : List Operation → List ℕ → Option Operation
named_in table name = find (λ o. bytes_eq name (row o).0) table

unfoldable pub operation_of : List ℕ → Option Operation
operation_of name = named_in operations name

-- how an option is spelled
unfoldable pub spelling : OptionName → List ℕ
spelling option.Temporary = codes "-t"
spelling option.Disabled = codes "-d"
spelling option.Ignore = codes "-i"
spelling option.Condition = codes "-c"
spelling option.InThread = codes "-p"
spelling option.Thread = codes "--thread"
spelling option.All = codes "--all"

abbrev pub is_named : OptionName → List ℕ → Bool
is_named name word = bytes_eq word (spelling name)

-- `-i N`, `-c EXPR`, `-p N` and `--thread N` have a value, which is the next word whatever it is
abbrev pub takes_value : List ℕ → Bool
takes_value word = is_named option.Ignore word || (is_named option.Condition word || (is_named option.InThread word || is_named option.Thread word))

-- whether a command with these options takes the option that is so spelled
abbrev pub allows : Allowed → List ℕ → Bool
allows allowed.Nothing word = false
allows allowed.OfInsertion word =
    is_named option.Temporary word || (is_named option.Disabled word || (is_named option.Ignore word
    || (is_named option.Condition word || is_named option.InThread word)))
allows allowed.OfThread word = is_named option.Thread word
allows allowed.OfThreads word = is_named option.Thread word || is_named option.All word

-- whether so many parameters may stand there
abbrev pub fits : Count → ℕ → Bool
fits count.Zero n = n == 0
fits count.One n = n == 1
fits count.Two n = n == 2
fits count.TwoOrThree n = nat_le 2 n && nat_le n 3
fits count.AtMostOne n = nat_le n 1
fits count.AtLeastOne n = nat_le 1 n
