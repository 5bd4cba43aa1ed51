-- How many bytes watches have is left as it is.
use Rattle.std.proofs.Common.{ℕ, ◌≤◌, ◌^◌, zero, suc, Bool, true, false, cond, List, arith}
use Rattle.std.specs.Prelude.{Option}
use Rattle.std.proofs.lemmas.List.Elements.{All-map, All-weaker}
use Rattle.rv_exec.specs.Memory.{IsLen}
use Rattle.break_table.specs.Arrival.{raised}
use Rattle.watch_points.specs.declared.watchpoint.Fired.{Fired}
use Rattle.watch_points.specs.declared.watchpoint.Watch.{Watch}
use Rattle.watch_points.specs.Watches.{AreSized, is_of, is_one_of, risen, risen_one, switched, switched_one}

risen_by : (w : Watch) (b : Bool) → IsLen w.size → IsLen (cond b (record w { times = raised w.times }) w).size
risen_by w true s = s
risen_by w false s = s

pub risen_sized : (fired : Option Fired) (ws : List Watch) → AreSized ws → AreSized (risen fired ws)
risen_sized fired ws h =
    All-map (λ w. IsLen w.size) (risen_one fired) ws (All-weaker (λ w. IsLen w.size) (λ w. IsLen (risen_one fired w).size) (λ w s. risen_by w (is_of fired w) s) ws h)

switched_by : (enabled : Bool) (w : Watch) (b : Bool) → IsLen w.size → IsLen (cond b (record w { enabled = enabled }) w).size
switched_by enabled w true s = s
switched_by enabled w false s = s

pub switched_sized : (enabled : Bool) (ns : List ℕ) (ws : List Watch) → AreSized ws → AreSized (switched enabled ns ws)
switched_sized enabled ns ws h =
    All-map (λ w. IsLen w.size) (switched_one enabled ns) ws (All-weaker (λ w. IsLen w.size) (λ w. IsLen (switched_one enabled ns w).size) (λ w s. switched_by enabled w (is_one_of ns w.number) s) ws h)

-- what at most three bytes spell
pub three_bytes : (n : ℕ) → n ≤ 3 → 256 ^ n ≤ 16777216
three_bytes zero le = omega arith
three_bytes (suc zero) le = omega arith
three_bytes (suc (suc zero)) le = omega arith
three_bytes (suc (suc (suc zero))) le = omega arith
three_bytes (suc (suc (suc (suc n)))) le = absurd (omega arith)
