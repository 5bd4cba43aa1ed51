-- Watches as they are told and listed (GDB manual, "GDB/MI Breakpoint Commands": `-break-watch`, `-break-list`).
use Rattle.std.specs.Prelude.{ℕ, List, [], ◌∷◌, decimal}
use Rattle.watch_points.specs.declared.watchpoint.Watch.{Watch}
use Rattle.mi_values.specs.Tree.{Tree}
use Rattle.mi_values.specs.FieldLists.{tuple_of}
use Rattle.mi_reports.specs.declared.words.Key.TheVariants as key
use Rattle.mi_reports.specs.declared.words.Phrase.TheVariants as phrase
use Rattle.mi_reports.specs.Words.{key_text, says}
use Rattle.mi_reports.specs.Phrases.{phrase_text}
use Rattle.mi_reports.specs.Breakpoints.{enabled}

-- its number, and the text by which its bytes were given
unfoldable pub told_fields : ℕ → List ℕ → List (List ℕ × Tree)
told_fields number expression = says key.Number (decimal number) ∷ says key.Exp expression ∷ []

unfoldable pub watch_field : ℕ → List ℕ → List ℕ × Tree
watch_field number expression = (key_text key.Wpt, tuple_of (told_fields number expression))

-- a watch in the table of breakpoints
unfoldable pub listed_fields : Watch → List (List ℕ × Tree)
listed_fields w =
    says key.Number (decimal w.number) ∷ says key.Type (phrase_text phrase.WatchpointType) ∷ says key.Disp (phrase_text phrase.Kept) ∷
    says key.Enabled (phrase_text (enabled w.enabled)) ∷ says key.What w.text ∷ says key.Times (decimal w.times) ∷ []

unfoldable pub listed_field : Watch → List ℕ × Tree
listed_field w = (key_text key.Bkpt, tuple_of (listed_fields w))
