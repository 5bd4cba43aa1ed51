-- The bytes of a range are as many as it has.
use Rattle.std.proofs.Common.{◌≡◌, ℕ, zero, suc, ◌+◌, ◌%◌, ◌^◌, List, [], ◌∷◌, length, refl, sym, ap, ◌∙◌, arith}
use Rattle.std.specs.Prelude.{Option, Some, None, Result, Ok, Err}
use Rattle.std.specs.Result.{result_ok}
use Rattle.rv_exec.specs.Registers.{Registers}
use Rattle.rv_exec.specs.Memory.{Memory}
use Rattle.data_memory.specs.Ranges.{value_at, then_range, range_at, bytes_at}
use Rattle.plain_machine.specs.Environment.{wrote, answered, Goes, Stays}

same_some : {A : Type 0} (x y : A) → Some x ≡ Some y → x ≡ y
same_some x y h = cc

then_length : (a n : ℕ) (o : Option ℕ) (rest : Result (List ℕ) ℕ) (bytes : List ℕ) → ((bs : List ℕ) → result_ok rest ≡ Some bs → length bs ≡ n)
    → result_ok (then_range a o rest) ≡ Some bytes → length bytes ≡ suc n
then_length a n None rest bytes h e = cc
then_length a n (Some v) (Ok vs) bytes h e = ap length (sym (same_some (v ∷ vs) bytes e)) ∙ ap suc (h vs refl)
then_length a n (Some v) (Err at) bytes h e = cc

pub bytes_length : (m : Memory) (addr n : ℕ) (bytes : List ℕ) → bytes_at m addr n ≡ Some bytes → length bytes ≡ n
bytes_length m addr zero bytes e = ap length (sym (same_some [] bytes e))
bytes_length m addr (suc n) bytes e =
    then_length (addr % 2 ^ 32) n (value_at m (addr % 2 ^ 32)) (range_at m (addr + 1) n) bytes (bytes_length m (addr + 1) n) e

none_left : (bytes : List ℕ) → length bytes ≡ 0 → bytes ≡ []
none_left [] is = refl
none_left (b ∷ bs) is = absurd (omega arith)

-- a write of some bytes
pub wrote_some : (r : Registers) (m : Memory) (addr n : ℕ) (bytes : List ℕ) → bytes_at m addr n ≡ Some bytes → wrote r m (bytes_at m addr n) ≡ Goes (answered r n) m bytes Stays
wrote_some r m addr n bytes is =
    ap (wrote r m) is ∙ ap (λ k. Goes (answered r k) m bytes Stays) (bytes_length m addr n bytes is)

-- a write of none
pub wrote_none : (r : Registers) (m : Memory) (addr n : ℕ) (bytes : List ℕ) → bytes_at m addr n ≡ Some bytes → n ≡ 0 → wrote r m (bytes_at m addr n) ≡ Goes (answered r n) m [] Stays
wrote_none r m addr n bytes is none =
    wrote_some r m addr n bytes is ∙ ap (λ bs. Goes (answered r n) m bs Stays) (none_left bytes (bytes_length m addr n bytes is ∙ none))

pub ruleset written = (wrote_some, wrote_none)
