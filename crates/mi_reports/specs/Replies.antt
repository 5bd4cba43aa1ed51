-- The lines of a reply (GDB manual, "GDB/MI Result Records", "GDB/MI Thread Commands", "GDB/MI Data Manipulation",
-- "GDB/MI Stack Manipulation Commands", "GDB/MI Breakpoint Commands", "GDB/MI Miscellaneous Commands").
use Rattle.std.specs.Prelude.{ℕ, ◌+◌, ◌-◌, ◌%◌, ◌^◌, List, [], ◌∷◌, ◌++◌, length, map, Option, Some, None, decimal, codes}
use Rattle.mi_commands.specs.declared.command.Displaced.{Displaced}
use Rattle.mi_commands.specs.declared.command.Displaced.TheVariants as displaced
use Rattle.mi_commands.specs.declared.command.Format.{Format}
use Rattle.mi_commands.specs.declared.command.Format.TheVariants.{Hexadecimal, Decimal}
use Rattle.dbg_model.specs.declared.frame.ShownFrame.{ShownFrame}
use Rattle.dbg_model.specs.declared.reply.Register.{Register}
use Rattle.dbg_model.specs.declared.reply.Thread.{Thread}
use Rattle.dbg_model.specs.declared.reply.Content.{Content}
use Rattle.dbg_model.specs.declared.reply.Content.TheVariants as content
use Rattle.dbg_model.specs.declared.reply.Reply.{Reply}
use Rattle.hex.specs.Hex.{encode_lower}
use Rattle.mi_values.specs.declared.sign.NoticeSign.TheVariants.{Exec}
use Rattle.mi_values.specs.Tree.{Tree, text, items, item, no_item, items_of}
use Rattle.mi_values.specs.Record.{LineTree, prompt}
use Rattle.mi_values.specs.FieldLists.{tuple_of, notice_of, result_of}
use Rattle.mi_reports.specs.declared.words.Key.TheVariants as key
use Rattle.mi_reports.specs.declared.words.Phrase.{Phrase}
use Rattle.mi_reports.specs.declared.words.Phrase.TheVariants as phrase
use Rattle.mi_reports.specs.Words.{key_text, says}
use Rattle.mi_reports.specs.Phrases.{phrase_text}
use Rattle.mi_text.specs.Numeral.{address_text, signed_text, worth_text}
use Rattle.mi_reports.specs.Frames.{frame_field, stack_tree}
use Rattle.mi_reports.specs.Breakpoints.{breakpoint_field}
use Rattle.mi_reports.specs.Watches.{watch_field}
use Rattle.mi_reports.specs.Table.{table_fields}
use Rattle.mi_reports.specs.Variables.{variables_field}
use Rattle.mi_reports.specs.Errors.{error_fields}

-- ---- threads

-- this thread goes on
unfoldable pub running_line : ℕ → LineTree
running_line t = notice_of Exec (key_text key.Running) (says key.ThreadId (decimal t) ∷ [])

-- what a thread is at
abbrev pub state_fields : Option ShownFrame → List (List ℕ × Tree)
state_fields None = says key.State (phrase_text phrase.Running) ∷ []
state_fields (Some frame) = frame_field (Some 0) frame ∷ says key.State (phrase_text phrase.Stopped) ∷ []

-- a thread, whose hart is counted from 0
unfoldable pub thread_fields : Thread → List (List ℕ × Tree)
thread_fields t = says key.Id (decimal t.number) ∷ says key.TargetId (phrase_text phrase.Hart ++ decimal (t.number - 1)) ∷ state_fields t.stopped_at

unfoldable pub thread_tree : Thread → Tree
thread_tree t = tuple_of (thread_fields t)

unfoldable pub threads_fields : List Thread → ℕ → List (List ℕ × Tree)
threads_fields ts selected = (key_text key.Threads, items (items_of (map thread_tree ts))) ∷ says key.CurrentThreadId (decimal selected) ∷ []

abbrev pub number_field : ℕ → List ℕ × Tree
number_field n = says key.ThreadId (decimal n)

unfoldable pub numbers_fields : List ℕ → ℕ → List (List ℕ × Tree)
numbers_fields ns selected =
    (key_text key.ThreadIds, tuple_of (map number_field ns)) ∷ says key.CurrentThreadId (decimal selected) ∷ says key.NumberOfThreads (decimal (length ns)) ∷ []

-- ---- registers and memory

-- the names of x0 to x31 of the psABI, where x8 is fp, and of pc
abbrev pub register_names : List (List ℕ)
register_names =
    codes "zero" ∷ codes "ra" ∷ codes "sp" ∷ codes "gp" ∷ codes "tp" ∷ codes "t0" ∷ codes "t1" ∷ codes "t2" ∷
    codes "fp" ∷ codes "s1" ∷ codes "a0" ∷ codes "a1" ∷ codes "a2" ∷ codes "a3" ∷ codes "a4" ∷ codes "a5" ∷
    codes "a6" ∷ codes "a7" ∷ codes "s2" ∷ codes "s3" ∷ codes "s4" ∷ codes "s5" ∷ codes "s6" ∷ codes "s7" ∷
    codes "s8" ∷ codes "s9" ∷ codes "s10" ∷ codes "s11" ∷ codes "t3" ∷ codes "t4" ∷ codes "t5" ∷ codes "t6" ∷ codes "pc" ∷ []

unfoldable pub names_field : List ℕ × Tree
names_field = (key_text key.RegisterNames, items (items_of (map text register_names)))

abbrev pub value_text : Format → ℕ → List ℕ
value_text Hexadecimal v = address_text v
value_text Decimal v = signed_text v

unfoldable pub register_fields : Format → Register → List (List ℕ × Tree)
register_fields f r = says key.Number (decimal r.number) ∷ says key.Value (value_text f r.value) ∷ []

unfoldable pub register_tree : Format → Register → Tree
register_tree f r = tuple_of (register_fields f r)

unfoldable pub registers_field : Format → List Register → List ℕ × Tree
registers_field f rs = (key_text key.RegisterValues, items (items_of (map (register_tree f) rs)))

-- the bytes from an address on, as two lower-case hexadecimal digits each
unfoldable pub block_fields : ℕ → List ℕ → List (List ℕ × Tree)
block_fields addr bytes =
    says key.Begin (address_text addr) ∷ says key.Offset (address_text 0) ∷ says key.End (address_text ((addr + length bytes) % 2 ^ 32)) ∷
    says key.Contents (encode_lower bytes) ∷ []

unfoldable pub memory_field : ℕ → List ℕ → List ℕ × Tree
memory_field addr bytes = (key_text key.Memory, items (item (tuple_of (block_fields addr bytes)) no_item))

-- ---- settings

abbrev pub setting : Displaced → Phrase
setting displaced.On = phrase.On
setting displaced.Off = phrase.Off
setting displaced.Auto = phrase.Auto

-- ---- the reply

-- what was refused or done, and the prompt
abbrev pub error_lines : List ℕ → List (List ℕ × Tree) → List LineTree
error_lines token fields = result_of token (key_text key.Error) fields ∷ prompt ∷ []

abbrev pub done_lines : List ℕ → List (List ℕ × Tree) → List LineTree
done_lines token fields = result_of token (key_text key.Done) fields ∷ prompt ∷ []

-- what is shown of what was done
abbrev pub done_fields : Content → List (List ℕ × Tree)
done_fields content.Blank = []
done_fields content.Done = []
done_fields (content.Inserted b) = breakpoint_field b ∷ []
done_fields (content.Breakpoints rs) = (key_text key.Table, tuple_of (table_fields rs)) ∷ []
done_fields (content.Watching number expression) = watch_field number expression ∷ []
done_fields (content.Running threads) = []
done_fields (content.Selected thread) = says key.NewThreadId (decimal thread) ∷ []
done_fields (content.Threads threads selected) = threads_fields threads selected
done_fields (content.ThreadNumbers numbers selected) = numbers_fields numbers selected
done_fields (content.Frames frames) = (key_text key.Stack, stack_tree frames) ∷ []
done_fields (content.Depth depth) = says key.Depth (decimal depth) ∷ []
done_fields (content.Frame frame) = frame_field (Some 0) frame ∷ []
done_fields (content.Variables vs) = variables_field vs ∷ []
done_fields content.RegisterNames = names_field ∷ []
done_fields (content.Registers format registers) = registers_field format registers ∷ []
done_fields (content.Memory addr bytes) = memory_field addr bytes ∷ []
done_fields (content.Value word unsigned) = says key.Value (worth_text word unsigned) ∷ []
done_fields (content.Setting value) = says key.Value (phrase_text (setting value)) ∷ []
done_fields content.Exit = []
done_fields (content.Refused r) = []

-- no prompt follows an exit, after which no line is read
abbrev pub content_lines : List ℕ → Content → List LineTree
content_lines token content.Blank = prompt ∷ []
content_lines token (content.Running threads) = result_of token (key_text key.Running) [] ∷ (map running_line threads ++ prompt ∷ [])
content_lines token content.Exit = result_of token (key_text key.Exit) [] ∷ []
content_lines token (content.Refused r) = error_lines token (error_fields r)
content_lines token c = done_lines token (done_fields c)

-- the lines of a reply
abbrev pub reply_lines : Reply → List LineTree
reply_lines r = content_lines r.token r.content
