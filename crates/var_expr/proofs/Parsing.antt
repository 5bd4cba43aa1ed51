-- What parsing gives where neither text is too long.
use Rattle.std.proofs.Common.{◌≡◌, ◌<◌, ◌≤◌, ℕ, Bool, true, false, List, length, Some, Ok, Err, refl, arith, ◌∙◌, ap}
use Rattle.std.specs.Prelude.{nat_lt, ◌||◌, if◌then◌else◌}
use Rattle.std.proofs.lemmas.Bool.Decides.{nat_tests}
use Rattle.elf_symbols.specs.Names.{Names}
use Rattle.cond_expr.specs.Condition.{Tree}
use Rattle.cond_expr.specs.Fault.{first_fault}
use Rattle.cond_expr.specs.Lex.{tokens_of}
use Rattle.cond_expr.specs.Reader.{parsed}
use Rattle.cond_expr.specs.Term.{Term}
use Rattle.cond_expr.specs.declared.fault.ExprFault.{ExprFault}
use Rattle.cond_expr.proofs.Parsing.{parsed_fault, parsed_tree}
use Rattle.var_expr.specs.Parsed.{moved_back, parsed_by, read_back, too_long}
use Rattle.var_expr.specs.declared.expanded.Replaced.{Replaced}

short : (a b : ℕ) → a ≤ 256 → b ≤ 256 → (nat_lt 256 a || nat_lt 256 b) ≡ false
short a b h k =
    let p : nat_lt 256 a ≡ false = grind (arith, nat_tests) in
    let q : nat_lt 256 b ≡ false = grind (arith, nat_tests) in
    rw (p, q) refl

by_parsed : (symbols : Names) (given : ℕ) (names : List Replaced) (new : List ℕ) → given ≤ 256 → length new ≤ 256 → parsed_by symbols given names new ≡ read_back given names (parsed symbols new)
by_parsed symbols given names new h k = ap (λ (b : Bool). if b then Err too_long else read_back given names (parsed symbols new)) (short given (length new) h k)

pub parsed_found : (symbols : Names) (given : ℕ) (names : List Replaced) (new : List ℕ) (x : Term) → given ≤ 256 → length new ≤ 256 → Tree new symbols x → parsed_by symbols given names new ≡ Ok x
parsed_found symbols given names new x h k tree = by_parsed symbols given names new h k ∙ ap (read_back given names) (parsed_tree symbols new x tree)

pub parsed_moved : (symbols : Names) (given : ℕ) (names : List Replaced) (new : List ℕ) (f : ExprFault) → given ≤ 256 → length new ≤ 256 → first_fault (length new) (tokens_of symbols new) ≡ Some f
    → parsed_by symbols given names new ≡ Err (moved_back given names f)
parsed_moved symbols given names new f h k first = by_parsed symbols given names new h k ∙ ap (read_back given names) (parsed_fault symbols new f k first)

pub long_given : (symbols : Names) (given : ℕ) (names : List Replaced) (new : List ℕ) → 256 < given → parsed_by symbols given names new ≡ Err too_long
long_given symbols given names new h = let p : nat_lt 256 given ≡ true = grind (arith, nat_tests) in rw p refl

pub long_new : (symbols : Names) (given : ℕ) (names : List Replaced) (new : List ℕ) → 256 < length new → parsed_by symbols given names new ≡ Err too_long
long_new symbols given names new h =
    let p : nat_lt 256 (length new) ≡ true = grind (arith, nat_tests) in
    elim (nat_lt 256 given) as (λ b. (if b || nat_lt 256 (length new) then Err too_long else read_back given names (parsed symbols new)) ≡ Err too_long) [
      | true ↦ refl
      | false ↦ rw p refl
    ]
