-- Breakpoints as they are listed (GDB manual, "GDB/MI Breakpoint Information"): a field that has nothing to say is left out.
use Rattle.std.specs.Prelude.{ℕ, ◌==◌, Bool, List, [], ◌∷◌, ◌++◌, Option, Some, None, if◌then◌else◌, decimal}
use Rattle.dbg_model.specs.declared.breakpoint.Breakpoint.{Breakpoint}
use Rattle.mi_values.specs.Tree.{Tree}
use Rattle.mi_values.specs.FieldLists.{tuple_of}
use Rattle.mi_reports.specs.declared.words.Key.TheVariants as key
use Rattle.mi_reports.specs.declared.words.Phrase.{Phrase}
use Rattle.mi_reports.specs.declared.words.Phrase.TheVariants as phrase
use Rattle.mi_reports.specs.Words.{key_text, says, says_some}
use Rattle.mi_reports.specs.Phrases.{phrase_text}
use Rattle.mi_text.specs.Numeral.{address_text}
use Rattle.mi_reports.specs.Frames.{source_fields}

-- what becomes of a breakpoint that is hit
abbrev pub disposition : Bool → Phrase
disposition temporary = if temporary then phrase.Deleted else phrase.Kept

abbrev pub enabled : Bool → Phrase
enabled b = if b then phrase.Yes else phrase.No

abbrev pub for_thread : Option ℕ → List (List ℕ × Tree)
for_thread None = []
for_thread (Some thread) = says key.Thread (decimal thread) ∷ []

abbrev pub ignored : ℕ → List (List ℕ × Tree)
ignored n = if n == 0 then [] else says key.Ignore (decimal n) ∷ []

-- whether it stays and is enabled, and where it stands
unfoldable pub front_fields : Breakpoint → List (List ℕ × Tree)
front_fields b =
    says key.Type (phrase_text phrase.BreakpointType) ∷ says key.Disp (phrase_text (disposition b.temporary)) ∷
    says key.Enabled (phrase_text (enabled b.enabled)) ∷ says key.Addr (address_text b.address) ∷ []

-- the function and the line that it stands in
unfoldable pub place_fields : Breakpoint → List (List ℕ × Tree)
place_fields b = says_some key.Func b.function ++ source_fields b.source

-- when it stops, and whom
unfoldable pub term_fields : Breakpoint → List (List ℕ × Tree)
term_fields b = says_some key.Cond b.condition ++ for_thread b.thread

-- its arrivals, how many more are only counted, and where it was asked for
unfoldable pub count_fields : Breakpoint → List (List ℕ × Tree)
count_fields b = (says key.Times (decimal b.times) ∷ ignored b.ignore) ++ (says key.OriginalLocation b.location ∷ [])

unfoldable pub breakpoint_fields : Breakpoint → List (List ℕ × Tree)
breakpoint_fields b = says key.Number (decimal b.number) ∷ (front_fields b ++ (place_fields b ++ (term_fields b ++ count_fields b)))

unfoldable pub breakpoint_field : Breakpoint → List ℕ × Tree
breakpoint_field b = (key_text key.Bkpt, tuple_of (breakpoint_fields b))
