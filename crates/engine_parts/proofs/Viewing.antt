-- What a command may see of an engine is what it may see of the state that the engine shows.
use Rattle.std.proofs.Common.{◌≡◌, ℕ, zero, suc, ◌≤◌, List, [], ◌∷◌, length, map, refl, ap, ◌∙◌, arith}
use Rattle.rv_exec.specs.Memory.{Memory}
use Rattle.elf32_read.specs.Program.{Program}
use Rattle.hart_machine.specs.declared.hart.Core.{Core}
use Rattle.dbg_model.specs.declared.thread_view.ThreadView.{ThreadView}
use Rattle.watch_points.specs.declared.watchpoint.Watch.{Watch}
use Rattle.dbg_model.specs.Sight.{Sight, sight_of, view_by, view_of}
use Rattle.engine_parts.specs.declared.mind.Activity.{Activity}
use Rattle.engine_parts.specs.declared.mind.Activity.TheVariants as activity
use Rattle.engine_parts.specs.declared.mind.Mind.{Mind}
use Rattle.engine_parts.specs.Minds.{mode_of}
use Rattle.engine_parts.specs.Facts.{Sound}
use Rattle.engine_parts.specs.Seen.{Engine, seen, seen_hart, seen_harts, seen_regs}
use Rattle.engine_parts.specs.Viewing.{own_views}

one_view : (p : Program) (c : Core) (x : Mind) (a : Activity) → view_by c.regs (mode_of a) ≡ view_by (seen_regs p c.regs a x.phase) (mode_of a)
one_view p c x activity.Stopped = refl
one_view p c x activity.Running = refl
one_view p c x activity.Exited = refl

all_views : (p : Program) (cs : List Core) (xs : List Mind) → own_views cs xs ≡ map view_of (seen_harts p cs xs)
all_views p [] xs = refl
all_views p (c ∷ cs) [] = refl
all_views p (c ∷ cs) (x ∷ xs) = ap (λ v. v ∷ own_views cs xs) (one_view p c x x.activity) ∙ ap (λ vs. view_of (seen_hart p c x) ∷ vs) (all_views p cs xs)

pub views_few : (cs : List Core) (xs : List Mind) (n : ℕ) → length xs ≤ n → length (own_views cs xs) ≤ n
views_few [] xs n le = omega (arith, le)
views_few (c ∷ cs) [] n le = omega (arith, le)
views_few (c ∷ cs) (x ∷ xs) zero le = absurd (omega (arith, le))
views_few (c ∷ cs) (x ∷ xs) (suc n) le = let l : length xs ≤ n = omega (arith, le) in let h = views_few cs xs n l in omega (arith, h)

-- what an engine shows to a command, with this memory, these threads and these watches
abbrev pub shows : Engine → Memory → List ThreadView → List Watch → Sight
shows r m views watches = record {
  image = r.opening.image;
  sources = r.sources;
  memory = m;
  threads = views;
  breaks = r.breaks;
  watches = watches;
  given = r.given;
  selected = r.selected;
  displaced = r.displaced;
}

pub sees : (r : Engine) (m : Memory) (vs : List ThreadView) (ws : List Watch) → Sound r → m ≡ r.machine.memory → vs ≡ own_views r.machine.cores r.minds → ws ≡ r.watches → shows r m vs ws ≡ sight_of r.opening (seen r)
sees r m vs ws f same views watches =
    ap (λ m. shows r m vs ws) same
    ∙ (ap (λ vs. shows r r.machine.memory vs ws) (views ∙ all_views r.opening.image r.machine.cores r.minds)
    ∙ (ap (λ (ps : List Watch). let s : Sight = record (sight_of r.opening (seen r)) { sources = r.sources; watches = ps } in s) watches
    ∙ ap (λ sources. let s : Sight = record (sight_of r.opening (seen r)) { sources = sources } in s) f.sources))
