-- The numbers of the causes. They are this project's own, not the codes of the mcause register.
use Rattle.std.specs.Prelude.{ℕ, ◌≤◌}
use Rattle.rv_exec.specs.declared.effect.Cause.{Cause}
use Rattle.rv_exec.specs.declared.effect.Cause.TheVariants.{FetchAlign, LoadFault, StoreFault, LoadAlign, StoreAlign, Break, Illegal, FetchFault}
use Rattle.rv_exec.specs.declared.effect.Effect.{Effect}
use Rattle.rv_exec.specs.declared.effect.Effect.TheVariants.{Done, Call, Trap}

abbrev pub cause_number : Cause → ℕ
cause_number FetchAlign = 1
cause_number LoadFault = 2
cause_number StoreFault = 3
cause_number LoadAlign = 4
cause_number StoreAlign = 5
cause_number Break = 6
cause_number Illegal = 7
cause_number FetchFault = 8

-- An instruction traps for the causes 1 to 6; the others are those of a word that can't be fetched or decoded.
abbrev pub HasOwnCause : Effect → Type 0
HasOwnCause Done = Unit {0}
HasOwnCause Call = Unit {0}
HasOwnCause (Trap cause) = cause_number cause ≤ 6
