-- Live threads as they are shown.
use Rattle.std.proofs.Common.{◌≡◌, ℕ, ◌+◌, List, [], ◌∷◌, map, refl, ap}
use Rattle.std.specs.Prelude.{Some, None}
use Rattle.dbg_model.specs.Sources.{Sources}
use Rattle.dbg_model.specs.declared.thread_view.ThreadView.{ThreadView}
use Rattle.dbg_model.specs.declared.thread_view.ThreadView.TheVariants as view
use Rattle.dbg_model.specs.Sight.{each, shown}
use Rattle.dbg_answers.specs.Live.{live_shown, live_thread}

pub each_shown : (sources : Sources) (n : ℕ) (xs : List ThreadView) → map (live_shown sources) (each live_thread n xs) ≡ each (shown sources) n xs
each_shown sources n [] = refl
each_shown sources n (view.Stopped r ∷ xs) = ap (λ ts. live_shown sources (record { number = n; stopped = Some r }) ∷ ts) (each_shown sources (n + 1) xs)
each_shown sources n (view.Running ∷ xs) = ap (λ ts. live_shown sources (record { number = n; stopped = None }) ∷ ts) (each_shown sources (n + 1) xs)
each_shown sources n (view.Exited ∷ xs) = each_shown sources (n + 1) xs
