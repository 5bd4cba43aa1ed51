-- What ties a session to its world when it begins.
use Rattle.std.proofs.Common.{◌≡◌, ◌<◌, ℕ, ◌+◌, ◌-◌, Bool, true, false, cond, List, [], ◌++◌, length, take, drop, refl, sym, ap, ◌∙◌, arith, subst}
use Rattle.std.specs.Prelude.{Option, Some, None, IfSome}
use Rattle.std.proofs.lemmas.List.{take-append-drop}
use Rattle.dbg_traits.specs.Told.{Told, more}
use Rattle.mi_input.specs.Lines.{lines}
use Rattle.dbg_traits.specs.Settings.{AreSettings}
use Rattle.dbg_model.specs.declared.entry.Entry.{Entry}
use Rattle.dbg_model.specs.State.{State, first_state}
use Rattle.dbg_model.specs.Journals.{Leaves, Place, first_place, replay}
use Rattle.dbg_model.proofs.Options.{same_some}
use Rattle.mi_values.specs.Record.{LineTree}
use Rattle.mi_values.specs.Records.{lines_bytes, AreLines, AreRecords}
use Rattle.mi_reports.specs.Text.{opening_lines}
use Rattle.mi_reports.specs.Said.{said_lines}
use Rattle.mi_reports.proofs.Saying.{said_nothing}
use Rattle.session_parts.specs.Stage.{Stage}
use Rattle.session_parts.specs.Taking.{Gives}
use Rattle.session_parts.specs.Steps.{lines_by}
use Rattle.dbg_model.specs.declared.opening.Opening.{Opening}
use Rattle.session_parts.specs.Ties.{IsTied, GoesOn, IsCut, IsReady, IsEmpty, IsCounted}
use Rattle.session_parts.specs.Puts.{PutsAll}
use Rattle.session_parts.proofs.Telling.{told_none}
use Rattle.session_parts.specs.declared.status.Status.TheVariants as status
use Rattle.session_parts.proofs.Tying.{opened_as}

-- the opening lines
gives_none : (o : Option (List ℕ)) → IsEmpty o → IfSome o (λ bytes. Gives false bytes [] [])
gives_none None h = tt
gives_none (Some bytes) h = λ more e. ap (λ t. lines (t ++ more) e) h

count_none : (o : Option (List ℕ)) → IsEmpty o → IfSome o (λ bytes. length bytes ≡ 0)
count_none None h = tt
count_none (Some bytes) h = ap length h

all_put : (o : Option (List ℕ)) (text : List ℕ) (trees : List LineTree) → IsEmpty o → AreRecords text trees → IfSome (more o text) (λ w. AreRecords w trees)
all_put None text trees h are = tt
all_put (Some bytes) text trees h are = subst (λ (t : List ℕ). AreRecords (t ++ text) trees) (sym h) are

some_put : (o : Option (List ℕ)) (text : List ℕ) (trees : List LineTree) (n : ℕ) → IsEmpty o → AreRecords text trees → IfSome (more o (take n text)) (λ w. AreLines trees × IsCut w (lines_bytes trees))
some_put None text trees n h are = tt
some_put (Some bytes) text trees n h are = (are.lines, (drop n text, ap (λ t. (t ++ take n text) ++ drop n text) h ∙ (take-append-drop n text ∙ are.text)))

opened_with : (r : Stage) (text : List ℕ) → r.journal ≡ [] → AreRecords text (opening_lines r.opening.settings.harts) → AreRecords text (lines_by r)
opened_with r text h are = subst (λ (trees : List LineTree). AreRecords text trees) (sym (ap (said_lines r.opening) h ∙ said_nothing r.opening)) are

first_left : (o : Opening) (s : State) → Leaves o [] s → first_state o ≡ s
unfolding replay
first_left o s l = ap (λ (p : Place). p.state) (same_some (first_place o) (record { prev = l.prev; state = s }) l.replays)

-- an engine that has done nothing goes on
pub begins : (r : Stage) → Leaves r.opening r.journal r.state → r.journal ≡ [] → AreSettings r.opening.settings → GoesOn r 0
begins r leaves none ranges =
    let empty : Leaves r.opening [] r.state = subst (λ (j : List Entry). Leaves r.opening j r.state) none leaves in
    let is : first_state r.opening ≡ r.state = first_left r.opening r.state empty in
    let some = ranges.budget.0 in
    subst (λ (s : State). GoesOn (record r { state = s }) 0) is (record { below = record { budget = omega arith; history = omega arith; input = omega arith }; open_ = refl })

pub tied_open : (b : Bool) (t u : Told) (r : Stage) (text : List ℕ) → IsReady t r → GoesOn r 0
    → AreRecords text (opening_lines r.opening.settings.harts) → PutsAll b text t u
    → IsTied (cond b None (Some status.WriteFault)) u r (record { rest = []; count = 0; ended = false })
tied_open true t u r text h goes are puts = rw puts (record {
  held = record {
    file = opened_as t (record t { written = more t.written text }) r.opening r.opening refl h.opened refl refl refl refl refl refl;
    input = rw h.journal (gives_none t.polled h.polled);
    polled = count_none t.polled h.polled;
    count = h.taken;
    ended = h.running;
    asks = told_none r.opening r.journal t.polled t.asks h.asks;
  };
  written = all_put t.written text (lines_by r) h.written (opened_with r text h.journal are);
  cause = (record { file = h.clean.file; poll = h.clean.poll; put = h.clean.put }, goes);
})
tied_open false t u r text h goes are puts =
    let c = h.clean.put in
    let rose : 0 < puts.1 = omega (arith, puts.2) in
    rw puts.3 (record {
      held = record {
        file = opened_as t (record t { written = more t.written (take puts.0 text); put_faults = puts.1 }) r.opening r.opening refl h.opened refl refl refl refl refl refl;
        input = rw h.journal (gives_none t.polled h.polled);
        polled = count_none t.polled h.polled;
        count = h.taken;
        ended = h.running;
        asks = told_none r.opening r.journal t.polled t.asks h.asks;
      };
      written = some_put t.written text (lines_by r) puts.0 h.written (opened_with r text h.journal are);
      cause = rose;
    })

pub counted_open : (b : Bool) → IsCounted (cond b None (Some status.WriteFault)) 0
counted_open true = omega arith
counted_open false = omega arith
