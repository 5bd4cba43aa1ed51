-- The classes of lines and the names of their fields (GDB manual, "GDB/MI Output Records", "GDB/MI Async Records",
-- "GDB/MI Frame Information", "GDB/MI Breakpoint Information", "GDB/MI Thread Information"), letter for letter.
use Rattle.std.specs.Prelude.{ℕ, List, Option, Some, None, [], ◌∷◌, codes}
use Rattle.mi_values.specs.Tree.{Tree, text}
use Rattle.mi_reports.specs.declared.words.Key.{Key}
use Rattle.mi_reports.specs.declared.words.Key.TheVariants as key

unfoldable pub key_text : Key → List ℕ
key_text key.Done = codes "done"
key_text key.Running = codes "running"
key_text key.Exit = codes "exit"
key_text key.Error = codes "error"
key_text key.Stopped = codes "stopped"
key_text key.ThreadCreated = codes "thread-created"
key_text key.ThreadExited = codes "thread-exited"
key_text key.Addr = codes "addr"
key_text key.Arg = codes "arg"
key_text key.Args = codes "args"
key_text key.Begin = codes "begin"
key_text key.Bkpt = codes "bkpt"
key_text key.BkptNumber = codes "bkptno"
key_text key.Body = codes "body"
key_text key.Code = codes "code"
key_text key.Cond = codes "cond"
key_text key.Contents = codes "contents"
key_text key.CurrentThreadId = codes "current-thread-id"
key_text key.Depth = codes "depth"
key_text key.Disp = codes "disp"
key_text key.Enabled = codes "enabled"
key_text key.End = codes "end"
key_text key.ExitCode = codes "exit-code"
key_text key.Exp = codes "exp"
key_text key.File = codes "file"
key_text key.Frame = codes "frame"
key_text key.Func = codes "func"
key_text key.GroupId = codes "group-id"
key_text key.Id = codes "id"
key_text key.Ignore = codes "ignore"
key_text key.Level = codes "level"
key_text key.Line = codes "line"
key_text key.Memory = codes "memory"
key_text key.Message = codes "msg"
key_text key.Name = codes "name"
key_text key.New = codes "new"
key_text key.NewThreadId = codes "new-thread-id"
key_text key.Number = codes "number"
key_text key.NumberOfThreads = codes "number-of-threads"
key_text key.Offset = codes "offset"
key_text key.Old = codes "old"
key_text key.OriginalLocation = codes "original-location"
key_text key.Reason = codes "reason"
key_text key.RegisterNames = codes "register-names"
key_text key.RegisterValues = codes "register-values"
key_text key.Rows = codes "nr_rows"
key_text key.SignalMeaning = codes "signal-meaning"
key_text key.SignalName = codes "signal-name"
key_text key.Stack = codes "stack"
key_text key.State = codes "state"
key_text key.StoppedThreads = codes "stopped-threads"
key_text key.Table = codes "BreakpointTable"
key_text key.TargetId = codes "target-id"
key_text key.Thread = codes "thread"
key_text key.ThreadId = codes "thread-id"
key_text key.ThreadIds = codes "thread-ids"
key_text key.Threads = codes "threads"
key_text key.Times = codes "times"
key_text key.Type = codes "type"
key_text key.Value = codes "value"
key_text key.Variables = codes "variables"
key_text key.What = codes "what"
key_text key.Wpt = codes "wpt"

-- a field that is a text
abbrev pub says : Key → List ℕ → List ℕ × Tree
says k t = (key_text k, text t)

-- a field that is left out where there is no text
abbrev pub says_some : Key → Option (List ℕ) → List (List ℕ × Tree)
says_some k None = []
says_some k (Some t) = says k t ∷ []
