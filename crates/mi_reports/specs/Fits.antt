-- What is shown is made of bytes, wherever it comes from: tests of this project's own.
use Rattle.std.specs.Prelude.{ℕ, Bool, true, ◌&&◌, List, [], Option, Some, None}
use Rattle.std.specs.List.{list_all}
use Rattle.dbg_model.specs.declared.frame.ShownFrame.{ShownFrame}
use Rattle.dbg_model.specs.declared.frame.SourceLine.{SourceLine}
use Rattle.dbg_model.specs.declared.breakpoint.Breakpoint.{Breakpoint}
use Rattle.dbg_model.specs.declared.row.Row.{Row}
use Rattle.dbg_model.specs.declared.row.Row.TheVariants as rows
use Rattle.dbg_model.specs.declared.variable.ShownVariable.{ShownVariable}
use Rattle.dbg_model.specs.declared.reply.Thread.{Thread}
use Rattle.dbg_model.specs.declared.reply.Content.{Content}
use Rattle.dbg_model.specs.declared.reply.Content.TheVariants as content
use Rattle.dbg_model.specs.declared.reply.Refused.{Refused}
use Rattle.dbg_model.specs.declared.reply.Refused.TheVariants as refused
use Rattle.dbg_model.specs.declared.reply.Reply.{Reply}
use Rattle.dbg_model.specs.declared.shown.Shown.{Shown}
use Rattle.dbg_model.specs.declared.shown.Shown.TheVariants.{Nothing, Wrote, Stop, Exit, Answer}
use Rattle.mi_commands.specs.declared.refusal.Fault.{Fault}
use Rattle.mi_commands.specs.declared.refusal.Fault.TheVariants as fault
use Rattle.mi_text.specs.Token.{is_token}
use Rattle.mi_values.specs.Testing.{are_bytes}
use Rattle.mi_reports.specs.Triggers.{expression}

abbrev pub text_fits : Option (List ℕ) → Bool
text_fits None = true
text_fits (Some bytes) = are_bytes bytes

abbrev pub source_fits : Option SourceLine → Bool
source_fits None = true
source_fits (Some s) = are_bytes s.file

unfoldable pub frame_fits : ShownFrame → Bool
frame_fits f = text_fits f.function && source_fits f.source

abbrev pub frames_fit : List ShownFrame → Bool
frames_fit = list_all frame_fits

abbrev pub place_fits : Option ShownFrame → Bool
place_fits None = true
place_fits (Some frame) = frame_fits frame

abbrev pub threads_fit : List Thread → Bool
threads_fit = list_all (λ t. place_fits t.stopped_at)

unfoldable pub breakpoint_fits : Breakpoint → Bool
breakpoint_fits b = text_fits b.function && (source_fits b.source && (text_fits b.condition && are_bytes b.location))

abbrev pub row_fits : Row → Bool
row_fits (rows.Breakpoint b) = breakpoint_fits b
row_fits (rows.Watch w) = are_bytes w.text

abbrev pub rows_fit : List Row → Bool
rows_fit = list_all row_fits

abbrev pub variables_fit : List ShownVariable → Bool
variables_fit = list_all (λ v. are_bytes v.name)

-- the text in the message of a fault that isn't a fixed one
abbrev pub faulty : Fault → List ℕ
faulty (fault.Undefined name) = name
faulty (fault.Parameters name) = name
faulty (fault.Number word) = word
faulty fault.Setting = []
faulty (fault.Location word thread) = word

-- and in the message of an error
abbrev pub quoted : Refused → List ℕ
quoted (refused.Faulty f) = faulty f
quoted (refused.UnknownName name) = name
quoted (refused.UnknownLine file line) = file
quoted (refused.FixedRegister name) = name
quoted (refused.Unwatchable expression) = expression
quoted r = []

-- what a reply shows
abbrev pub content_fits : Content → Bool
content_fits (content.Inserted b) = breakpoint_fits b
content_fits (content.Breakpoints rs) = rows_fit rs
content_fits (content.Watching number expression) = are_bytes expression
content_fits (content.Threads threads selected) = threads_fit threads
content_fits (content.Frames frames) = frames_fit frames
content_fits (content.Frame frame) = frame_fits frame
content_fits (content.Variables vs) = variables_fit vs
content_fits (content.Refused r) = are_bytes (quoted r)
content_fits c = true

abbrev pub reply_fits : Reply → Bool
reply_fits r = is_token r.token && content_fits r.content

-- what an entry shows
abbrev pub shown_fits : Shown → Bool
shown_fits Nothing = true
shown_fits (Wrote bytes) = are_bytes bytes
shown_fits (Stop frame temporary watch) = frame_fits frame && are_bytes (expression watch)
shown_fits (Exit last) = true
shown_fits (Answer reply) = reply_fits reply
