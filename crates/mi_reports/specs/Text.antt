-- The lines of what entries show (GDB manual, "GDB/MI Async Records", "GDB/MI Stream Records").
use Rattle.std.specs.Prelude.{ℕ, zero, suc, ◌+◌, ◌%◌, ◌==◌, Bool, List, [], ◌∷◌, ◌++◌, Option, Some, None, if◌then◌else◌, decimal}
use Rattle.rv_exec.specs.declared.effect.Cause.{Cause}
use Rattle.rv_exec.specs.declared.effect.Cause.TheVariants.{FetchAlign, LoadFault, StoreFault, LoadAlign, StoreAlign, Break, Illegal, FetchFault}
use Rattle.break_table.specs.declared.due.CondError.{CondError}
use Rattle.dbg_model.specs.declared.frame.ShownFrame.{ShownFrame}
use Rattle.mi_values.specs.declared.sign.NoticeSign.TheVariants.{Exec, Notify}
use Rattle.mi_values.specs.declared.sign.StreamSign.TheVariants.{Target, Log}
use Rattle.mi_values.specs.Tree.{Tree, text, items, item, no_item}
use Rattle.mi_values.specs.Record.{LineTree, stream, prompt}
use Rattle.mi_values.specs.FieldLists.{notice_of}
use Rattle.mi_reports.specs.declared.words.Key.{Key}
use Rattle.mi_reports.specs.declared.words.Key.TheVariants as key
use Rattle.mi_reports.specs.declared.words.Phrase.{Phrase}
use Rattle.mi_reports.specs.declared.words.Phrase.TheVariants as phrase
use Rattle.mi_reports.specs.Words.{key_text, says}
use Rattle.mi_reports.specs.Phrases.{phrase_text}
use Rattle.mi_text.specs.Numeral.{exit_code}
use Rattle.mi_reports.specs.Frames.{frame_field}
use Rattle.mi_reports.specs.Breakpoints.{disposition}
use Rattle.mi_reports.specs.Errors.{condition_message}

-- ---- threads; harts are counted from 0, threads from 1

-- the thread of hart h, in its group
unfoldable pub thread_fields : ℕ → List (List ℕ × Tree)
thread_fields h = says key.Id (decimal (h + 1)) ∷ says key.GroupId (phrase_text phrase.Group) ∷ []

-- such a thread was created, or has exited
unfoldable pub thread_line : Key → ℕ → LineTree
thread_line class h = notice_of Notify (key_text class) (thread_fields h)

-- a line for each of the first n threads
abbrev pub created_lines : ℕ → List LineTree
created_lines zero = []
created_lines (suc n) = created_lines n ++ thread_line key.ThreadCreated n ∷ []

-- the lines that a session of so many harts opens with
abbrev pub opening_lines : ℕ → List LineTree
opening_lines harts = created_lines harts ++ prompt ∷ []

-- ---- stops

-- hart h stopped in this frame
unfoldable pub place_fields : ℕ → ShownFrame → List (List ℕ × Tree)
place_fields h frame =
    frame_field None frame ∷ says key.ThreadId (decimal (h + 1)) ∷ (key_text key.StoppedThreads, items (item (text (decimal (h + 1))) no_item)) ∷ []

-- something stopped
unfoldable pub stopped_line : List (List ℕ × Tree) → LineTree
stopped_line fields = notice_of Exec (key_text key.Stopped) fields

-- hart h stopped in this frame by a signal
unfoldable pub signal_fields : Phrase → Phrase → ℕ → ShownFrame → List (List ℕ × Tree)
signal_fields name meaning h frame =
    says key.Reason (phrase_text phrase.SignalReceived) ∷ says key.SignalName (phrase_text name) ∷ says key.SignalMeaning (phrase_text meaning) ∷ place_fields h frame

-- hart h stopped in this frame, for a reason that its place says all of
unfoldable pub end_fields : Phrase → ℕ → ShownFrame → List (List ℕ × Tree)
end_fields reason h frame = says key.Reason (phrase_text reason) ∷ place_fields h frame

-- hart h stopped in this frame by the breakpoint of that number
unfoldable pub hit_fields : Bool → ℕ → ℕ → ShownFrame → List (List ℕ × Tree)
hit_fields temporary number h frame =
    says key.Reason (phrase_text phrase.BreakpointHit) ∷ says key.Disp (phrase_text (disposition temporary)) ∷ says key.BkptNumber (decimal number) ∷ place_fields h frame

-- a fault's signal, and what it means
abbrev pub signal : Cause → Phrase × Phrase
signal FetchAlign = (phrase.Sigbus, phrase.BusError)
signal LoadFault = (phrase.Sigsegv, phrase.SegmentationFault)
signal StoreFault = (phrase.Sigsegv, phrase.SegmentationFault)
signal LoadAlign = (phrase.Sigbus, phrase.BusError)
signal StoreAlign = (phrase.Sigbus, phrase.BusError)
signal Break = (phrase.Sigtrap, phrase.Trap)
signal Illegal = (phrase.Sigill, phrase.IllegalInstruction)
signal FetchFault = (phrase.Sigsegv, phrase.SegmentationFault)

-- hart h stopped in this frame by a fault
abbrev pub stop_lines : Cause → ℕ → ShownFrame → List LineTree
stop_lines cause h frame = stopped_line (signal_fields (signal cause).0 (signal cause).1 h frame) ∷ []

-- hart h stopped in this frame by an interrupt that was asked of it
abbrev pub interrupt_lines : ℕ → ShownFrame → List LineTree
interrupt_lines h frame = stopped_line (signal_fields phrase.Sigint phrase.Interrupt h frame) ∷ []

-- hart h stopped in this frame where its step ends
abbrev pub stepped_lines : ℕ → ShownFrame → List LineTree
stepped_lines h frame = stopped_line (end_fields phrase.EndSteppingRange h frame) ∷ []

-- hart h stopped in this frame, to which the function that it was to finish has returned
abbrev pub finished_lines : ℕ → ShownFrame → List LineTree
finished_lines h frame = stopped_line (end_fields phrase.FunctionFinished h frame) ∷ []

-- the line of the condition of that breakpoint; none where it had a value
abbrev pub condition_lines : ℕ → Option CondError → List LineTree
condition_lines number None = []
condition_lines number (Some e) = stream Log (condition_message number e) ∷ []

-- hart h stopped in this frame by the breakpoint of that number, whose condition had this error
abbrev pub break_lines : Bool → ℕ → Option CondError → ℕ → ShownFrame → List LineTree
break_lines temporary number error h frame = condition_lines number error ++ stopped_line (hit_fields temporary number h frame) ∷ []

-- ---- exits

-- hart h has exited
abbrev pub gone_lines : ℕ → List LineTree
gone_lines h = thread_line key.ThreadExited h ∷ []

-- the program has exited with a code
unfoldable pub exit_fields : ℕ → List (List ℕ × Tree)
exit_fields code =
    if code == 0 then says key.Reason (phrase_text phrase.ExitedNormally) ∷ []
    else says key.Reason (phrase_text phrase.Exited) ∷ says key.ExitCode (exit_code code) ∷ []

abbrev pub exit_lines : ℕ → List LineTree
exit_lines code = stopped_line (exit_fields code) ∷ []

-- hart h has exited with a code, and the program with it where it was the last live one; of a code the system keeps a byte
abbrev pub left_lines : ℕ → ℕ → Bool → List LineTree
left_lines h code last = gone_lines h ++ (if last then exit_lines (code % 256) else [])

-- ---- output

-- the bytes that an instruction wrote; no line where it wrote none
abbrev pub stream_lines : List ℕ → List LineTree
stream_lines [] = []
stream_lines (b ∷ bs) = stream Target (b ∷ bs) ∷ []
