-- What an operation at the front changes.
use Rattle.std.proofs.Common.{◌≡◌, ◌<◌, ◌≤◌, ℕ, Result, Ok, Err, refl, arith, ◌∙◌, ap, sym}
use Rattle.std.proofs.lemmas.Bool.Decides.{nat_tests}
use Rattle.dwarf_frames.specs.Reading.{◌>>=◌}
use Rattle.dwarf_frames.specs.Operations.{Operations, Ends, Fails, Then}
use Rattle.dwarf_frames.specs.Marks.{fold_until}
use Rattle.dwarf_frames.specs.Table.{State, apply, fold_operations, moved, operations_until}
use Rattle.dwarf_frames.specs.declared.fault.FrameFault.{FrameFault}
use Rattle.dwarf_frames.specs.declared.operation.Operation.{Operation}
use Rattle.dwarf_frames.specs.declared.rules.Rules.{Rules}

pub fold_next : (restored : Rules) (s after : State) (o : Operation) → apply restored s o ≡ Ok after → (rest : Operations) → fold_operations restored s (Then o rest) ≡ fold_operations restored after rest
fold_next restored s after o h rest = ap (λ (x : Result State FrameFault). x >>= (λ t. fold_operations restored t rest)) h

pub fold_fault : (restored : Rules) (s : State) (o : Operation) (e : FrameFault) → apply restored s o ≡ Err e → (rest : Operations) → fold_operations restored s (Then o rest) ≡ Err e
fold_fault restored s o e h rest = ap (λ (x : Result State FrameFault). x >>= (λ t. fold_operations restored t rest)) h

until_then : (pc location : ℕ) (o : Operation) (rest : Operations) → location ≤ pc → operations_until pc location (Then o rest) ≡ Then o (operations_until pc (moved location o) rest)
until_then pc location o rest h = grind (arith, nat_tests)

until_fails : (pc location : ℕ) (e : FrameFault) → location ≤ pc → operations_until pc location (Fails e) ≡ Fails e
until_fails pc location e h = grind (arith, nat_tests)

until_above : (pc location : ℕ) (rest : Operations) → pc < location → operations_until pc location rest ≡ Ends
until_above pc location Ends h = refl
until_above pc location (Fails e) h = grind (arith, nat_tests)
until_above pc location (Then o rest) h = grind (arith, nat_tests)

pub fold_until_next : (restored : Rules) (pc location to : ℕ) (s after : State) (o : Operation) → location ≤ pc → to ≡ moved location o
    → apply restored s o ≡ Ok after → (rest : Operations) → fold_until restored pc s location (Then o rest) ≡ fold_until restored pc after to rest
fold_until_next restored pc location to s after o h m e rest =
    ap (fold_operations restored s) (until_then pc location o rest h)
    ∙ fold_next restored s after o e (operations_until pc (moved location o) rest)
    ∙ ap (λ (x : ℕ). fold_until restored pc after x rest) (sym m)

pub fold_until_fault : (restored : Rules) (pc location : ℕ) (s : State) (o : Operation) (e : FrameFault) → location ≤ pc → apply restored s o ≡ Err e → (rest : Operations) → fold_until restored pc s location (Then o rest) ≡ Err e
fold_until_fault restored pc location s o e h f rest =
    ap (fold_operations restored s) (until_then pc location o rest h) ∙ fold_fault restored s o e f (operations_until pc (moved location o) rest)

pub fold_until_fails : (restored : Rules) (pc location : ℕ) (s : State) (e : FrameFault) → location ≤ pc → fold_until restored pc s location (Fails e) ≡ Err e
fold_until_fails restored pc location s e h = ap (fold_operations restored s) (until_fails pc location e h)

pub fold_until_above : (restored : Rules) (pc location : ℕ) (s : State) → pc < location → (rest : Operations) → fold_until restored pc s location rest ≡ Ok s
fold_until_above restored pc location s h rest = ap (fold_operations restored s) (until_above pc location rest h)
