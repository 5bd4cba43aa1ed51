-- What is said in lines: of each entry what a session says.
use Rattle.std.proofs.Common.{◌≡◌, ℕ, zero, suc, Bool, true, false, List, [], ◌∷◌, ◌++◌, refl, sym, ap, ◌∙◌}
use Rattle.std.specs.Prelude.{Option, Some, None, unwrap_or}
use Rattle.std.specs.Option.{option_map}
use Rattle.dbg_model.specs.declared.entry.Entry.{Entry}
use Rattle.dbg_model.specs.declared.entry.Entry.TheVariants.{Ran, Counted, Stopped, Left, Did, Poked}
use Rattle.dbg_model.specs.declared.entry.Why.{Why}
use Rattle.dbg_model.specs.declared.entry.Why.TheVariants.{Break, Watch, Stepped, Finished, Interrupted, Fault}
use Rattle.dbg_model.specs.declared.opening.Opening.{Opening}
use Rattle.dbg_model.specs.declared.shown.Shown.{Shown}
use Rattle.dbg_model.specs.declared.shown.Shown.TheVariants.{Nothing}
use Rattle.dbg_model.specs.State.{State}
use Rattle.dbg_model.specs.Lawful.{one_out, ran}
use Rattle.dbg_model.specs.Journals.{Place, come, first_place}
use Rattle.dbg_model.specs.Shown.{shown_of, written}
use Rattle.mi_values.specs.Record.{LineTree}
use Rattle.mi_values.specs.Records.{lines_bytes}
use Rattle.mi_values.proofs.Joined.{bytes_joined}
use Rattle.mi_reports.specs.Text.{opening_lines}
use Rattle.mi_reports.specs.Lines.{lines_of, may_show}
use Rattle.mi_reports.specs.Said.{entry_lines, lines_from, ran_lines, said, said_lines, wrote_lines}
use Rattle.log_check.specs.Speech.{CanShow, entry_text, instruction_text, is_one, ran_text, speech, text_from}
use Rattle.session_check.specs.Speaking.{line_voice}

-- ---- what `report` asks

may_write : (h n : ℕ) (out : List ℕ) → is_one (Ran h n) ≡ true → may_show (Ran h n) (written out) ≡ true
may_write h n [] one = one
may_write h n (b ∷ bs) one = one

shows : (o : Opening) (s : State) (e : Entry) → is_one e ≡ true → may_show e (shown_of o s e) ≡ true
shows o s (Ran h n) one = may_write h n (one_out o h s) one
shows o s (Counted h) one = refl
shows o s (Stopped h why) one = refl
shows o s (Left h code) one = refl
shows o s (Did line) one = refl
shows o s (Poked p) one = refl

pub may_report : (e : Entry) (shown : Shown) → CanShow e shown → may_show e shown ≡ true
may_report e shown c = ap (may_show e) c.shows ∙ shows c.opening c.state e c.one

stop_silent : (h : ℕ) (why : Why) → lines_of (Stopped h why) Nothing ≡ []
stop_silent h (Break number error) = refl
stop_silent h (Watch f) = refl
stop_silent h Stepped = refl
stop_silent h Finished = refl
stop_silent h Interrupted = refl
stop_silent h (Fault cause) = refl

-- what shows nothing says nothing
pub silent : (e : Entry) → lines_bytes (lines_of e Nothing) ≡ []
silent (Ran h n) = refl
silent (Counted h) = refl
silent (Stopped h why) = ap lines_bytes (stop_silent h why)
silent (Left h code) = refl
silent (Did line) = refl
silent (Poked p) = refl

-- ---- the speech is what is said

one_said : (o : Opening) (h : ℕ) (r : Option State) → instruction_text line_voice o h r ≡ lines_bytes (wrote_lines o h r)
one_said o h None = refl
one_said o h (Some s) = refl

ran_said : (o : Opening) (h : ℕ) (s : State) (n : ℕ) → ran_text line_voice o h s n ≡ lines_bytes (ran_lines o h s n)
ran_said o h s zero = refl
ran_said o h s (suc n) =
    ap (λ (l : List ℕ). l ++ instruction_text line_voice o h (ran o h s n)) (ran_said o h s n)
    ∙ ap (λ (l : List ℕ). lines_bytes (ran_lines o h s n) ++ l) (one_said o h (ran o h s n))
    ∙ sym (bytes_joined (ran_lines o h s n) (wrote_lines o h (ran o h s n)))

entry_said : (o : Opening) (s : State) (e : Entry) → entry_text line_voice o s e ≡ lines_bytes (entry_lines o s e)
entry_said o s (Ran h n) = ran_said o h s n
entry_said o s (Counted h) = refl
entry_said o s (Stopped h why) = refl
entry_said o s (Left h code) = refl
entry_said o s (Did line) = refl
entry_said o s (Poked p) = refl

from_said_by : (o : Opening) (es : List Entry) (r : Option Place) → ((q : Place) → text_from line_voice o q es ≡ lines_bytes (lines_from o q es))
    → unwrap_or (option_map (λ q. text_from line_voice o q es) r) [] ≡ lines_bytes (unwrap_or (option_map (λ q. lines_from o q es) r) [])
from_said_by o es None each = refl
from_said_by o es (Some q) each = each q

from_said : (o : Opening) (p : Place) (j : List Entry) → text_from line_voice o p j ≡ lines_bytes (lines_from o p j)
from_said o p [] = refl
from_said o p (e ∷ es) =
    let more : List LineTree = unwrap_or (option_map (λ q. lines_from o q es) (come o p e)) [] in
    ap (λ (l : List ℕ). l ++ unwrap_or (option_map (λ q. text_from line_voice o q es) (come o p e)) []) (entry_said o p.state e)
    ∙ ap (λ (l : List ℕ). lines_bytes (entry_lines o p.state e) ++ l) (from_said_by o es (come o p e) (λ q. from_said o q es))
    ∙ sym (bytes_joined (entry_lines o p.state e) more)

pub speech_said : (o : Opening) (j : List Entry) → speech line_voice o j ≡ said o j
unfolding speech said said_lines
speech_said o j =
    ap (λ (l : List ℕ). lines_bytes (opening_lines o.settings.harts) ++ l) (from_said o (first_place o) j)
    ∙ sym (bytes_joined (opening_lines o.settings.harts) (lines_from o (first_place o) j))
