-- What a command sees of an engine is what it may see of the state that the engine shows.
use Rattle.std.proofs.Common.{◌≡◌, ◌∙◌, ℕ, List, ap}
use Rattle.elf32_read.specs.Program.{Program}
use Rattle.rv_exec.specs.Memory.{Memory}
use Rattle.dbg_model.specs.Sources.{Sources}
use Rattle.break_table.specs.Entry.{Entry}
use Rattle.mi_commands.specs.declared.command.Displaced.{Displaced}
use Rattle.dbg_model.specs.declared.thread_view.ThreadView.{ThreadView}
use Rattle.watch_points.specs.declared.watchpoint.Watch.{Watch}
use Rattle.dbg_model.specs.Sight.{Sight, sight_of}
use Rattle.engine_parts.specs.Facts.{Sound}
use Rattle.engine_parts.specs.Seen.{Engine, seen}
use Rattle.engine_parts.specs.Viewing.{own_views}
use Rattle.engine_parts.proofs.Viewing.{sees}

-- what a command sees, part by part
abbrev pub by_parts : Program → Sources → Memory → List ThreadView → List Entry → List Watch → ℕ → ℕ → Displaced → Sight
by_parts p sources m vs breaks ws given selected displaced = record {
  image = p;
  sources = sources;
  memory = m;
  threads = vs;
  breaks = breaks;
  watches = ws;
  given = given;
  selected = selected;
  displaced = displaced;
}

pub sees_by_parts : (r : Engine) (p : Program) (sources : Sources) (m : Memory) (vs : List ThreadView) (breaks : List Entry) (ws : List Watch) (given selected : ℕ) (displaced : Displaced) → Sound r
    → p ≡ r.opening.image → sources ≡ r.sources → m ≡ r.machine.memory → vs ≡ own_views r.machine.cores r.minds → breaks ≡ r.breaks → ws ≡ r.watches → given ≡ r.given → selected ≡ r.selected → displaced ≡ r.displaced
    → by_parts p sources m vs breaks ws given selected displaced ≡ sight_of r.opening (seen r)
sees_by_parts r p sources m vs breaks ws given selected displaced f is_p is_sources is_m is_vs is_breaks is_ws is_given is_selected is_displaced =
    ap (λ (x : Program). by_parts x sources m vs breaks ws given selected displaced) is_p
    ∙ (ap (λ (x : Sources). by_parts r.opening.image x m vs breaks ws given selected displaced) is_sources
    ∙ (ap (λ (x : List Entry). by_parts r.opening.image r.sources m vs x ws given selected displaced) is_breaks
    ∙ (ap (λ (x : ℕ). by_parts r.opening.image r.sources m vs r.breaks ws x selected displaced) is_given
    ∙ (ap (λ (x : ℕ). by_parts r.opening.image r.sources m vs r.breaks ws r.given x displaced) is_selected
    ∙ (ap (λ (x : Displaced). by_parts r.opening.image r.sources m vs r.breaks ws r.given r.selected x) is_displaced
    ∙ sees r m vs ws f is_m is_vs is_ws)))))
