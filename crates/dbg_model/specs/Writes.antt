-- What is answered to commands that write into the program, and what is to be written (GDB manual, "Assignment to
-- Variables"; "GDB/MI Data Manipulation").
use Rattle.std.specs.Prelude.{ℕ, ◌-◌, List, length, Option, Some, None, Result, Ok, Err, if◌then◌else◌}
use Rattle.data_memory.specs.Ranges.{first_unwritable}
use Rattle.plain_machine.specs.PlainRun.{is_settable}
use Rattle.dbg_model.specs.declared.entry.Poke.TheVariants as poke
use Rattle.dbg_model.specs.declared.reply.Obstacle.TheVariants.{Unwritable}
use Rattle.dbg_model.specs.declared.reply.Refused.{Refused}
use Rattle.dbg_model.specs.declared.reply.Refused.TheVariants.{Hindered, FixedRegister}
use Rattle.dbg_model.specs.Sight.{Sight, stopped, thread_or}
use Rattle.dbg_model.specs.Outcome.{Outcome, and_then, doing, pokes}

-- a register has to be one that is set: x0 always holds zero, and pc is where the thread is
abbrev pub settable : List ℕ → ℕ → Result Unit Refused
settable name register = if is_settable register then Ok tt else Err (FixedRegister name)

-- a register of a thread that has to be stopped gets a value; harts are counted from 0
abbrev pub set_register : Sight → Option ℕ → List ℕ → ℕ → ℕ → Result Outcome Refused
set_register s thread name register value =
    and_then (stopped s (thread_or s.selected thread)) (λ r.
    and_then (settable name register) (λ u.
    Ok (doing (pokes (poke.Register (thread_or s.selected thread - 1) register value)))))

abbrev pub none_unwritable : Option ℕ → Result Unit Refused
none_unwritable None = Ok tt
none_unwritable (Some addr) = Err (Hindered (Unwritable addr))

-- the bytes from an address on, each of which has to be writable data, are replaced
abbrev pub write_memory : Sight → ℕ → List ℕ → Result Outcome Refused
write_memory s address bytes =
    and_then (none_unwritable (first_unwritable s.memory address (length bytes))) (λ u.
    Ok (doing (pokes (poke.Bytes address bytes))))
