-- What is written in one piece is what the fields are.
use Rattle.std.specs.Prelude.{codes, decimal}
use Rattle.std.proofs.Common.{◌≡◌, ℕ, ◌+◌, List, [], ◌∷◌, ◌++◌, Bool, Option, refl, ap, ◌∙◌, append_assoc}
use mathlib.Core.List.{append-nil}
use Rattle.std.proofs.lemmas.Grind.{flat_map-append}
use Rattle.dbg_model.specs.declared.entry.Entry.TheVariants.{Stopped}
use Rattle.dbg_model.specs.declared.entry.Why.{Why}
use Rattle.dbg_model.specs.declared.entry.Why.TheVariants.{Break}
use Rattle.dbg_model.specs.declared.frame.ShownFrame.{ShownFrame}
use Rattle.dbg_model.specs.declared.shown.Shown.TheVariants.{Stop}
use Rattle.dbg_model.specs.declared.reply.Content.TheVariants as content
use Rattle.dbg_model.specs.declared.shown.ShownWatch.{ShownWatch}
use Rattle.mi_values.specs.declared.sign.NoticeSign.TheVariants.{Exec}
use Rattle.mi_values.specs.FieldLists.{result_of}
use Rattle.mi_values.specs.Record.{line_bytes}
use Rattle.mi_values.specs.Records.{lines_bytes}
use Rattle.mi_values.specs.Spelling.{value_bytes}
use Rattle.mi_values.specs.Tree.{Tree}
use Rattle.mi_values.proofs.Joined.{bytes_joined}
use Rattle.mi_reports.specs.declared.words.Key.TheVariants as key
use Rattle.mi_reports.specs.declared.words.Phrase.{Phrase}
use Rattle.mi_reports.specs.declared.words.Phrase.TheVariants as phrase
use Rattle.mi_reports.specs.Words.{key_text, says}
use Rattle.mi_reports.specs.Frames.{frame_rest, frame_fields, frame_field}
use Rattle.mi_reports.specs.Led.{head, led, behind, opened, begun}
use Rattle.mi_reports.specs.Lines.{lines_of}
use Rattle.mi_reports.specs.Pieces.{frame_begun, threads_told, threads_ended}
use Rattle.mi_reports.specs.Reasons.{condition_of, reason_fields}
use Rattle.mi_reports.specs.Replies.{running_line, content_lines}
use Rattle.mi_reports.specs.Text.{place_fields, stopped_line, signal_fields, end_fields, hit_fields}
use Rattle.mi_reports.specs.Phrases.{phrase_text}
use Rattle.mi_reports.specs.Breakpoints.{enabled}
use Rattle.mi_reports.specs.Triggers.{trigger_fields}
use Rattle.mi_reports.specs.Watches.{listed_fields}
use Rattle.watch_points.specs.declared.watchpoint.Watch.{Watch}
use Rattle.mi_reports.proofs.Bytes.{address_spelled, decimal_spelled}
use Rattle.mi_reports.proofs.Led.{tuple_led, text_led, one_led, notice_led}

-- ---- stops

pub place_bytes : (h : ℕ) (f : ShownFrame)
    → behind (place_fields h f) ++ 10 ∷ [] ≡ frame_begun f.address ++ (behind (frame_rest f) ++ (threads_told (decimal (h + 1)) ++ threads_ended (decimal (h + 1))))
unfolding place_fields frame_field frame_fields head key_text frame_begun threads_told threads_ended
place_bytes h f = simp (tuple_led, text_led, one_led, address_spelled, decimal_spelled, append_assoc)

-- the lines of a stop
pub stop_is : (h : ℕ) (w : Why) (temporary : Bool) (watch : Option ShownWatch) (f : ShownFrame)
    → lines_of (Stopped h w) (Stop f temporary watch) ≡ condition_of w ++ stopped_line (reason_fields w temporary watch ++ place_fields h f) ∷ []
unfolding hit_fields end_fields signal_fields trigger_fields
stop_is h (Break number error) temporary watch f = refl
stop_is h w temporary watch f = refl

pub stop_bytes : (h : ℕ) (w : Why) (temporary : Bool) (watch : Option ShownWatch) (f : ShownFrame)
    → lines_bytes (lines_of (Stopped h w) (Stop f temporary watch))
    ≡ lines_bytes (condition_of w) ++ (begun Exec key.Stopped ++ (behind (reason_fields w temporary watch) ++ (behind (place_fields h f) ++ 10 ∷ [])))
unfolding stopped_line
stop_bytes h w temporary watch f =
    let fields = reason_fields w temporary watch ++ place_fields h f in
    ap lines_bytes (stop_is h w temporary watch f)
    ∙ (bytes_joined (condition_of w) (stopped_line fields ∷ [])
    ∙ simp (notice_led Exec key.Stopped fields, flat_map-append, append_assoc))

-- ---- replies

pub running_bytes : (t : ℕ) → line_bytes (running_line t) ≡ codes "*running,thread-id=\"" ++ (decimal t ++ codes "\"\n")
unfolding running_line head key_text begun
running_bytes t = notice_led Exec key.Running (says key.ThreadId (decimal t) ∷ []) ∙ simp (text_led, decimal_spelled, append_assoc)

pub going_bytes : (token : List ℕ) → line_bytes (result_of token (key_text key.Running) []) ≡ codes "" ++ (token ++ codes "^running\n")
unfolding line_bytes result_of key_text value_bytes
going_bytes token = refl

pub done_bytes : (token : List ℕ) → lines_bytes (content_lines token content.Done) ≡ codes "" ++ (token ++ codes "^done\n(gdb)\n")
unfolding line_bytes result_of key_text value_bytes
done_bytes token = append_assoc token (codes "^done\n") (codes "(gdb)\n")

pub exit_bytes : (token : List ℕ) → lines_bytes (content_lines token content.Exit) ≡ codes "" ++ (token ++ codes "^exit\n")
unfolding line_bytes result_of key_text value_bytes
exit_bytes token = append-nil (token ++ codes "^exit\n")

-- ---- a watch in the table

-- one text behind another
behind_both : (old middle new a b : List ℕ) → middle ≡ old ++ a → new ≡ middle ++ b → new ≡ old ++ (a ++ b)
behind_both old middle new a b one two = two ∙ (ap (λ (l : List ℕ). l ++ b) one ∙ append_assoc old a b)

abbrev kind_fields : Phrase → List (List ℕ × Tree)
kind_fields status = says key.Type (phrase_text phrase.WatchpointType) ∷ says key.Disp (phrase_text phrase.Kept) ∷ says key.Enabled (phrase_text status) ∷ []

listed_bytes : (w : Watch)
    → led 123 (says key.Number (decimal w.number)) ++ (behind (kind_fields (enabled w.enabled)) ++ (led 44 (says key.What w.text) ++ led 44 (says key.Times (decimal w.times))))
    ≡ opened 123 (listed_fields w)
unfolding listed_fields
listed_bytes w = simp (append_assoc, append-nil)

pub listed_written : (w : Watch) (status : Phrase) (text old a b c new : List ℕ) → status ≡ enabled w.enabled → text ≡ w.text
    → a ≡ old ++ led 123 (says key.Number (decimal w.number)) → b ≡ a ++ behind (kind_fields status) → c ≡ b ++ led 44 (says key.What text)
    → new ≡ c ++ led 44 (says key.Times (decimal w.times)) → new ≡ old ++ opened 123 (listed_fields w)
listed_written w status text old a b c new status_is text_is one two three four =
    let kind = two ∙ ap (λ (s : Phrase). a ++ behind (kind_fields s)) status_is in
    let what = three ∙ ap (λ (t : List ℕ). b ++ led 44 (says key.What t)) text_is in
    let last = behind_both b c new _ _ what four in
    let rest = behind_both a b new _ _ kind last in
    behind_both old a new _ _ one rest ∙ ap (λ (l : List ℕ). old ++ l) (listed_bytes w)
