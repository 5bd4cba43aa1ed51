-- What the line of a stop says before its place, by why the hart stopped: this project's own.
use Rattle.std.specs.Prelude.{ℕ, Bool, List, [], ◌∷◌, Option, decimal}
use Rattle.dbg_model.specs.declared.entry.Why.{Why}
use Rattle.dbg_model.specs.declared.entry.Why.TheVariants.{Break, Watch, Stepped, Finished, Interrupted, Fault}
use Rattle.dbg_model.specs.declared.shown.ShownWatch.{ShownWatch}
use Rattle.mi_values.specs.Tree.{Tree}
use Rattle.mi_values.specs.Record.{LineTree}
use Rattle.mi_reports.specs.declared.words.Key.TheVariants as key
use Rattle.mi_reports.specs.declared.words.Phrase.{Phrase}
use Rattle.mi_reports.specs.declared.words.Phrase.TheVariants as phrase
use Rattle.mi_reports.specs.Words.{says}
use Rattle.mi_reports.specs.Phrases.{phrase_text}
use Rattle.mi_reports.specs.Breakpoints.{disposition}
use Rattle.mi_reports.specs.Text.{signal, condition_lines}
use Rattle.mi_reports.specs.Triggers.{change_fields, expression, is_unsigned}

-- a signal
abbrev pub signal_reason : Phrase → Phrase → List (List ℕ × Tree)
signal_reason name meaning =
    says key.Reason (phrase_text phrase.SignalReceived) ∷ says key.SignalName (phrase_text name) ∷ says key.SignalMeaning (phrase_text meaning) ∷ []

-- the breakpoint of that number
abbrev pub hit_reason : Bool → ℕ → List (List ℕ × Tree)
hit_reason temporary number =
    says key.Reason (phrase_text phrase.BreakpointHit) ∷ says key.Disp (phrase_text (disposition temporary)) ∷ says key.BkptNumber (decimal number) ∷ []

abbrev pub reason_fields : Why → Bool → Option ShownWatch → List (List ℕ × Tree)
reason_fields (Break number error) temporary watch = hit_reason temporary number
reason_fields (Watch f) temporary watch = says key.Reason (phrase_text phrase.WatchpointTrigger) ∷ change_fields (expression watch) (is_unsigned watch) f
reason_fields Stepped temporary watch = says key.Reason (phrase_text phrase.EndSteppingRange) ∷ []
reason_fields Finished temporary watch = says key.Reason (phrase_text phrase.FunctionFinished) ∷ []
reason_fields Interrupted temporary watch = signal_reason phrase.Sigint phrase.Interrupt
reason_fields (Fault cause) temporary watch = signal_reason (signal cause).0 (signal cause).1

-- the line before it
abbrev pub condition_of : Why → List LineTree
condition_of (Break number error) = condition_lines number error
condition_of w = []
