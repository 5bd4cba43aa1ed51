-- What a line would be the line of: of each text something, and of the line of a row this row. This project's own.
use Rattle.std.specs.Prelude.{ℕ, ◌+◌, ◌-◌, ◌*◌, ◌%◌, ◌^◌, Bool, ◌==◌, nat_le, nat_lt, List, [], ◌∷◌, Option, Some, None, codes, if◌then◌else◌}
use Rattle.std.specs.List.{before_first, after_first}
use Rattle.std.specs.Result.{result_unwrap_or}
use Rattle.std.specs.Str.{bytes_eq}
use Rattle.hex.specs.Hex.{decode_of}
use Rattle.rv_exec.specs.declared.effect.Cause.{Cause}
use Rattle.rv_exec.specs.declared.effect.Cause.TheVariants as causes
use Rattle.break_table.specs.declared.due.CondError.{CondError}
use Rattle.break_table.specs.declared.due.CondError.TheVariants.{DivZero, Unread}
use Rattle.dbg_model.specs.declared.entry.Why.{Why}
use Rattle.dbg_model.specs.declared.entry.Why.TheVariants.{Break, Watch, Stepped, Finished, Interrupted, Fault}
use Rattle.dbg_model.specs.declared.entry.Poke.{Poke}
use Rattle.dbg_model.specs.declared.entry.Poke.TheVariants.{Register, Bytes}
use Rattle.dbg_model.specs.declared.entry.Entry.{Entry}
use Rattle.dbg_model.specs.declared.entry.Entry.TheVariants.{Ran, Counted, Stopped, Left, Did, Poked}
use Rattle.session_log.specs.declared.row.LogRow.{LogRow}
use Rattle.session_log.specs.declared.row.LogRow.TheVariants as rows

-- a number with these digits behind it, modulo 2^64
abbrev pub u64_from : ℕ → List ℕ → ℕ
u64_from n [] = n
u64_from n (d ∷ ds) = u64_from ((n * 10 % 2 ^ 64 + (d - 48)) % 2 ^ 64) ds

abbrev pub u64_of : List ℕ → ℕ
u64_of = u64_from 0

abbrev pub u32_of : List ℕ → ℕ
u32_of w = if nat_lt (u64_of w) (2 ^ 32) then u64_of w else 0

abbrev pub bytes_of : List ℕ → List ℕ
bytes_of digits = result_unwrap_or (decode_of digits) []

-- a space, or what ends a line
abbrev pub is_gap : ℕ → Bool
is_gap b = nat_le b 32

-- the word in front, and what stands behind the byte behind it
abbrev pub word : List ℕ → List ℕ
word = before_first is_gap

abbrev pub behind : List ℕ → List ℕ
behind = after_first is_gap

unfoldable pub cause_of : ℕ → Cause
cause_of n =
    if n == 1 then causes.FetchAlign
    else (if n == 2 then causes.LoadFault
    else (if n == 3 then causes.StoreFault
    else (if n == 4 then causes.LoadAlign
    else (if n == 5 then causes.StoreAlign
    else (if n == 6 then causes.Break
    else (if n == 7 then causes.Illegal
    else causes.FetchFault))))))

unfoldable pub error_of : List ℕ → List ℕ → Option CondError
error_of kind a =
    if bytes_eq kind (codes "divzero") then Some DivZero
    else (if bytes_eq kind (codes "unread") then Some (Unread (u32_of a))
    else None)

unfoldable pub why_of : List ℕ → List ℕ → List ℕ → List ℕ → Why
why_of kind a b c =
    if bytes_eq kind (codes "break") then Break (u32_of a) (error_of b c)
    else (if bytes_eq kind (codes "watch") then Watch (record { number = u32_of a; old = u32_of b; new = u32_of c })
    else (if bytes_eq kind (codes "finished") then Finished
    else (if bytes_eq kind (codes "interrupted") then Interrupted
    else (if bytes_eq kind (codes "fault") then Fault (cause_of (u64_of a))
    else Stepped))))

unfoldable pub poke_of : List ℕ → List ℕ → List ℕ → List ℕ → Poke
poke_of key a b c =
    if bytes_eq key (codes "#set") then Register (u32_of a) (u32_of b) (u32_of c)
    else Bytes (u32_of a) (bytes_of b)

unfoldable pub entry_of : List ℕ → List ℕ → List ℕ → List ℕ → List ℕ → List ℕ → Entry
entry_of key a b c d e =
    if bytes_eq key (codes "#ran") then Ran (u32_of a) (u64_of b)
    else (if bytes_eq key (codes "#counted") then Counted (u32_of a)
    else (if bytes_eq key (codes "#stopped") then Stopped (u32_of a) (why_of b c d e)
    else (if bytes_eq key (codes "#left") then Left (u32_of a) (u32_of b)
    else (if bytes_eq key (codes "#did") then Did (bytes_of a)
    else Poked (poke_of key a b c)))))

unfoldable pub row_of : List ℕ → List ℕ → List ℕ → List ℕ → List ℕ → List ℕ → LogRow
row_of key a b c d e =
    if bytes_eq key (codes "#settings")
    then rows.Head (record { harts = u32_of a; workers = u32_of b; slots = u32_of c; budget = u64_of d; slice = u32_of e })
    else (if bytes_eq key (codes "#end") then rows.End (u64_of a)
    else rows.Entry (entry_of key a b c d e))

-- the only row whose line this can be
abbrev pub guess : List ℕ → LogRow
guess l =
    row_of (word l) (word (behind l)) (word (behind (behind l))) (word (behind (behind (behind l))))
    (word (behind (behind (behind (behind l))))) (word (behind (behind (behind (behind (behind l))))))
