-- The line of a stop by a watch (GDB manual, "GDB/MI Async Records", "GDB/MI Breakpoint Commands").
use Rattle.std.specs.Prelude.{ℕ, not, Bool, true, List, [], ◌∷◌, ◌++◌, Option, Some, None}
use Rattle.dbg_model.specs.declared.frame.ShownFrame.{ShownFrame}
use Rattle.watch_points.specs.declared.watchpoint.Fired.{Fired}
use Rattle.dbg_model.specs.declared.shown.ShownWatch.{ShownWatch}
use Rattle.mi_values.specs.Tree.{Tree}
use Rattle.mi_values.specs.Record.{LineTree}
use Rattle.mi_values.specs.FieldLists.{tuple_of}
use Rattle.mi_reports.specs.declared.words.Key.TheVariants as key
use Rattle.mi_reports.specs.declared.words.Phrase.TheVariants as phrase
use Rattle.mi_reports.specs.Words.{key_text, says}
use Rattle.mi_reports.specs.Phrases.{phrase_text}
use Rattle.mi_reports.specs.Text.{place_fields, stopped_line}
use Rattle.mi_text.specs.Numeral.{worth_text}
use Rattle.mi_reports.specs.Watches.{watch_field}

-- the text by which its bytes were given
abbrev pub expression : Option ShownWatch → List ℕ
expression None = []
expression (Some w) = w.text

abbrev pub is_unsigned : Option ShownWatch → Bool
is_unsigned None = true
is_unsigned (Some w) = not w.signed

-- what its bytes were worth before, and are since
unfoldable pub worth_fields : Bool → Fired → List (List ℕ × Tree)
worth_fields unsigned f = says key.Old (worth_text f.old unsigned) ∷ says key.New (worth_text f.new unsigned) ∷ []

-- the watch of this text, and what became of its bytes
unfoldable pub change_fields : List ℕ → Bool → Fired → List (List ℕ × Tree)
change_fields expression unsigned f = watch_field f.number expression ∷ (key_text key.Value, tuple_of (worth_fields unsigned f)) ∷ []

-- hart h stopped in this frame by that watch
unfoldable pub trigger_fields : Option ShownWatch → Fired → ℕ → ShownFrame → List (List ℕ × Tree)
trigger_fields w f h frame = says key.Reason (phrase_text phrase.WatchpointTrigger) ∷ (change_fields (expression w) (is_unsigned w) f ++ place_fields h frame)

abbrev pub trigger_lines : Option ShownWatch → Fired → ℕ → ShownFrame → List LineTree
trigger_lines w f h frame = stopped_line (trigger_fields w f h frame) ∷ []
