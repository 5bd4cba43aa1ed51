-- What a command may see of an engine's harts. This project's own.
use Rattle.std.specs.Prelude.{List, [], ◌∷◌}
use Rattle.hart_machine.specs.declared.hart.Core.{Core}
use Rattle.dbg_model.specs.declared.thread_view.ThreadView.{ThreadView}
use Rattle.dbg_model.specs.Sight.{view_by}
use Rattle.engine_parts.specs.declared.mind.Mind.{Mind}
use Rattle.engine_parts.specs.Minds.{mode_of}

-- A hart that is stopped steps over nothing, and shows the registers that it has.
abbrev pub own_view : Core → Mind → ThreadView
own_view c x = view_by c.regs (mode_of x.activity)

abbrev pub own_views : List Core → List Mind → List ThreadView
own_views [] xs = []
own_views (c ∷ cs) [] = []
own_views (c ∷ cs) (x ∷ xs) = own_view c x ∷ own_views cs xs
