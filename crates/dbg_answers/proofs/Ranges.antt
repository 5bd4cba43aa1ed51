-- Bytes of a range, one after another.
use Rattle.std.proofs.Common.{◌≡◌, ℕ, zero, suc, ◌+◌, ◌-◌, ◌<◌, ◌++◌, List, [], ◌∷◌, sym, ap, ◌∙◌, arith}
use Rattle.std.specs.Prelude.{Some, None, Ok, Err}
use Rattle.dbg_model.specs.declared.reply.Obstacle.TheVariants.{Unreadable}
use Rattle.dbg_model.specs.declared.reply.Refused.{Refused}
use Rattle.dbg_model.specs.declared.reply.Refused.TheVariants.{Hindered}
use Rattle.dbg_model.specs.Views.{shown_byte}
use Rattle.dbg_model.specs.Sight.{Sight}
use Rattle.dbg_model.specs.Outcome.{and_then}
use Rattle.dbg_model.specs.Data.{address_at, byte_at, bytes_at, shown_at}

bytes_more : (s : Sight) (addr n : ℕ) → bytes_at s addr (n + 1) ≡ and_then (bytes_at s addr n) (λ bytes. and_then (shown_at s (address_at addr n)) (λ b. Ok (bytes ++ b ∷ [])))
bytes_more s addr n = let at : n + 1 ≡ suc n = omega arith in ap (bytes_at s addr) at

stays_failed : (s : Sight) (addr n j : ℕ) (r : Refused) → bytes_at s addr n ≡ Err r → bytes_at s addr (n + j) ≡ Err r
stays_failed s addr n zero r h = let e : n + 0 ≡ n = omega arith in ap (bytes_at s addr) e ∙ h
stays_failed s addr n (suc j) r h =
    let e : n + suc j ≡ (n + j) + 1 = omega arith in
    let ih = stays_failed s addr n j r h in
    ap (bytes_at s addr) e ∙ (bytes_more s addr (n + j) ∙ ap (λ x. and_then x (λ bytes. and_then (shown_at s (address_at addr (n + j))) (λ b. Ok (bytes ++ b ∷ [])))) ih)

-- the first byte that isn't there
pub bytes_fail : (s : Sight) (addr k count : ℕ) (bytes : List ℕ) → k < count → bytes_at s addr k ≡ Ok bytes → None ≡ shown_byte s.image s.memory (address_at addr k) → bytes_at s addr count ≡ Err (Hindered (Unreadable (address_at addr k)))
bytes_fail s addr k count bytes low so none =
    let at = address_at addr k in
    let here : bytes_at s addr (k + 1) ≡ Err (Hindered (Unreadable at)) =
    bytes_more s addr k
    ∙ (ap (λ x. and_then x (λ bytes. and_then (shown_at s at) (λ b. Ok (bytes ++ b ∷ [])))) so
    ∙ ap (λ x. and_then (byte_at at x) (λ b. Ok (bytes ++ b ∷ []))) (sym none)) in
    let e : count ≡ (k + 1) + (count - (k + 1)) = omega arith in
    ap (bytes_at s addr) e ∙ stays_failed s addr (k + 1) (count - (k + 1)) (Hindered (Unreadable at)) here

pub bytes_go : (s : Sight) (addr k : ℕ) (bytes : List ℕ) (b : ℕ) → bytes_at s addr k ≡ Ok bytes → Some b ≡ shown_byte s.image s.memory (address_at addr k) → bytes_at s addr (k + 1) ≡ Ok (bytes ++ b ∷ [])
bytes_go s addr k bytes b so some =
    let at = address_at addr k in
    bytes_more s addr k
    ∙ (ap (λ x. and_then x (λ bytes. and_then (shown_at s at) (λ b. Ok (bytes ++ b ∷ [])))) so
    ∙ ap (λ x. and_then (byte_at at x) (λ b. Ok (bytes ++ b ∷ []))) (sym some))
