-- What is answered to commands on registers, memory and expressions (GDB manual, "GDB/MI Data Manipulation").
use Rattle.std.specs.Prelude.{ℕ, zero, suc, ◌+◌, ◌%◌, ◌^◌, List, [], ◌∷◌, ◌++◌, map, Option, Some, None, Result, Ok, Err}
use Rattle.rv_exec.specs.Registers.{Registers}
use Rattle.cond_expr.specs.declared.evaluating.Value.{Value}
use Rattle.cond_expr.specs.declared.evaluating.Value.TheVariants as worth
use Rattle.cond_expr.specs.Term.{Term}
use Rattle.cond_expr.specs.Value.{value_of}
use Rattle.mi_commands.specs.declared.command.Format.{Format}
use Rattle.dbg_model.specs.declared.reply.Content.{Content}
use Rattle.dbg_model.specs.declared.reply.Content.TheVariants as content
use Rattle.dbg_model.specs.declared.reply.Obstacle.TheVariants.{DivisionByZero, Unreadable}
use Rattle.dbg_model.specs.declared.reply.Refused.{Refused}
use Rattle.dbg_model.specs.declared.reply.Refused.TheVariants.{Hindered}
use Rattle.dbg_model.specs.declared.reply.Register.{Register}
use Rattle.dbg_model.specs.Views.{register, shown_byte}
use Rattle.dbg_model.specs.Sight.{Sight, stopped, thread_or}
use Rattle.dbg_model.specs.Outcome.{Outcome, and_then, showing}
use Rattle.dbg_model.specs.Variables.{expression_in}

-- ---- registers

abbrev pub valued : Registers → ℕ → Register
valued r n = record { number = n; value = register r n }

-- the numbers below n, in order
abbrev pub numbers_below : ℕ → List ℕ
numbers_below zero = []
numbers_below (suc n) = numbers_below n ++ n ∷ []

-- the registers that are asked for; all, where none is
abbrev pub asked_registers : List ℕ → List ℕ
asked_registers [] = numbers_below 33
asked_registers ns = ns

abbrev pub register_values : Sight → Option ℕ → Format → List ℕ → Result Outcome Refused
register_values s thread format numbers =
    and_then (stopped s (thread_or s.selected thread)) (λ r.
    Ok (showing (content.Registers format (map (valued r) (asked_registers numbers)))))

-- ---- memory

-- the address of byte n of a range; addresses go on modulo 2 ^ 32
abbrev pub address_at : ℕ → ℕ → ℕ
address_at addr n = (addr + n) % 2 ^ 32

abbrev pub byte_at : ℕ → Option ℕ → Result ℕ Refused
byte_at addr None = Err (Hindered (Unreadable addr))
byte_at addr (Some b) = Ok b

abbrev pub shown_at : Sight → ℕ → Result ℕ Refused
shown_at s addr = byte_at addr (shown_byte s.image s.memory addr)

-- so many bytes from an address on, each of which has to be there
abbrev pub bytes_at : Sight → ℕ → ℕ → Result (List ℕ) Refused
bytes_at s addr zero = Ok []
bytes_at s addr (suc n) =
    and_then (bytes_at s addr n) (λ bytes.
    and_then (shown_at s (address_at addr n)) (λ b.
    Ok (bytes ++ b ∷ [])))

abbrev pub read_memory : Sight → ℕ → ℕ → Result Outcome Refused
read_memory s addr count = and_then (bytes_at s addr count) (λ bytes. Ok (showing (content.Memory addr bytes)))

-- ---- expressions

abbrev pub worth_as : Value → Result Content Refused
worth_as (worth.Word n unsigned) = Ok (content.Value n unsigned)
worth_as worth.DivZero = Err (Hindered DivisionByZero)
worth_as (worth.Unread addr) = Err (Hindered (Unreadable addr))

-- what a tree is worth over registers and memory
abbrev pub worth_of : Sight → Registers → Term → Result Content Refused
worth_of s r tree = worth_as (value_of (register r) (shown_byte s.image s.memory) tree)

-- the value of an expression for a thread that has to be stopped
abbrev pub evaluate : Sight → Option ℕ → List ℕ → Result Outcome Refused
evaluate s thread text =
    and_then (stopped s (thread_or s.selected thread)) (λ r.
    and_then (expression_in s r text) (λ tree.
    and_then (worth_of s r tree) (λ v.
    Ok (showing v))))
