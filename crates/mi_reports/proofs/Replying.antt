-- The fields of replies are proper.
use Rattle.std.specs.Prelude.{map, length, ◌%◌, ◌^◌, nat_lt, decimal}
use Rattle.std.proofs.Common.{◌≡◌, ℕ, ◌+◌, ◌-◌, List, [], ◌∷◌, ◌++◌, true, ◌&&◌, eqb, Option, Some, None, refl, Bool}
use Rattle.dbg_model.specs.declared.frame.ShownFrame.{ShownFrame}
use Rattle.dbg_model.specs.declared.breakpoint.Breakpoint.{Breakpoint}
use Rattle.dbg_model.specs.declared.row.Row.{Row}
use Rattle.dbg_model.specs.declared.row.Row.TheVariants as rows
use Rattle.dbg_model.specs.declared.reply.Thread.{Thread}
use Rattle.dbg_model.specs.declared.reply.Register.{Register}
use Rattle.dbg_model.specs.declared.reply.Content.{Content}
use Rattle.dbg_model.specs.declared.reply.Content.TheVariants as content
use Rattle.dbg_model.specs.declared.reply.Refused.{Refused}
use Rattle.dbg_model.specs.declared.reply.Refused.TheVariants as refused
use Rattle.mi_commands.specs.declared.refusal.Fault.TheVariants as fault
use Rattle.mi_commands.specs.declared.command.Format.{Format}
use Rattle.mi_commands.specs.declared.command.Format.TheVariants.{Hexadecimal, Decimal}
use Rattle.hex.specs.Hex.{encode_lower}
use Rattle.mi_values.specs.Tree.{items_of, Tree}
use Rattle.mi_values.specs.FieldLists.{tuple_of, in_brackets}
use Rattle.mi_values.specs.Testing.{are_bytes, is_proper, are_proper_items}
use Rattle.mi_values.proofs.Testing.{both}
use Rattle.mi_reports.specs.declared.words.Key.TheVariants as key
use Rattle.mi_reports.specs.declared.words.Phrase.TheVariants as phrase
use Rattle.mi_reports.specs.Words.{key_text, says, says_some}
use Rattle.mi_reports.specs.Phrases.{phrase_text}
use Rattle.mi_text.specs.Numeral.{address_text, worth_text}
use Rattle.mi_reports.specs.Fits.{text_fits, source_fits, place_fits, threads_fit, breakpoint_fits, row_fits, rows_fit, content_fits, variables_fit}
use Rattle.mi_reports.specs.Frames.{source_fields, frame_field}
use Rattle.mi_reports.specs.Breakpoints.{disposition, enabled, for_thread, ignored, front_fields, place_fields, term_fields, count_fields, breakpoint_fields, breakpoint_field}
use Rattle.mi_reports.specs.Table.{row_field, table_fields}
use Rattle.mi_reports.specs.Errors.{message, error_code, error_fields}
use Rattle.mi_reports.specs.Replies.{state_fields, thread_fields, thread_tree, threads_fields, number_field, numbers_fields, names_field, value_text, register_fields, register_tree, registers_field, block_fields, memory_field, setting, done_fields}
use Rattle.mi_reports.proofs.Bytes.{decimal_bytes, address_bytes, hex_bytes, joined_bytes, signed_bytes, worth_bytes}
use Rattle.mi_reports.proofs.Names.{phrase_bytes}
use Rattle.mi_reports.proofs.Proper.{Good, none_good, join, value, says_good, some_good, tuple_good, brackets_good, source_good, frame_good, frames_good, pick}
use Rattle.watch_points.specs.declared.watchpoint.Watch.{Watch}
use Rattle.mi_reports.specs.Watches.{told_fields, watch_field, listed_fields, listed_field}
use Rattle.dbg_model.specs.declared.variable.ShownVariable.{ShownVariable}
use Rattle.dbg_model.specs.declared.variable.VariableValue.{VariableValue}
use Rattle.dbg_model.specs.declared.variable.VariableValue.TheVariants as value_of
use Rattle.mi_reports.specs.Variables.{argument_fields, shown_fields, shown_text, variable_fields, variable_tree, variables_field}

-- ---- watches and variables

told_good : (number : ℕ) (t : List ℕ) (d : ℕ) → nat_lt 0 d ≡ true → are_bytes t ≡ true → Good (told_fields number t) d
unfolding told_fields
told_good number t d l h = says_good key.Number (decimal number) _ d l (decimal_bytes number) (says_good key.Exp t [] d l h (none_good d))

pub watch_good : (number : ℕ) (t : List ℕ) (fs : List (List ℕ × Tree)) → are_bytes t ≡ true → Good fs 16 → Good (watch_field number t ∷ fs) 16
unfolding watch_field
watch_good number t fs h g = value key.Wpt _ fs 16 (tuple_good (told_fields number t) 16 refl (told_good number t 15 refl h)) g

listed_fields_good : (w : Watch) (d : ℕ) → nat_lt 0 d ≡ true → are_bytes w.text ≡ true → Good (listed_fields w) d
unfolding listed_fields
listed_fields_good w d l h =
    says_good key.Number (decimal w.number) _ d l (decimal_bytes w.number)
    (says_good key.Type (phrase_text phrase.WatchpointType) _ d l (phrase_bytes phrase.WatchpointType)
    (says_good key.Disp (phrase_text phrase.Kept) _ d l (phrase_bytes phrase.Kept)
    (says_good key.Enabled (phrase_text (enabled w.enabled)) _ d l (phrase_bytes (enabled w.enabled))
    (says_good key.What w.text _ d l h (says_good key.Times (decimal w.times) [] d l (decimal_bytes w.times) (none_good d))))))

listed_good : (w : Watch) (d : ℕ) → nat_lt 0 d ≡ true → nat_lt 0 (d - 1) ≡ true → are_bytes w.text ≡ true → Good (listed_field w ∷ []) d
unfolding listed_field
listed_good w d l m h = value key.Bkpt _ [] d (tuple_good (listed_fields w) d l (listed_fields_good w (d - 1) m h)) (none_good d)

text_bytes : (v : VariableValue) → are_bytes (shown_text v) ≡ true
text_bytes (value_of.Word word unsigned) = worth_bytes word unsigned
text_bytes value_of.OptimizedOut = phrase_bytes phrase.OptimizedOut
text_bytes value_of.NotRead = phrase_bytes phrase.TypeNotRead
text_bytes (value_of.Unreadable addr) =
    let head = phrase_text phrase.ErrorBegin ++ phrase_text phrase.Unreadable in
    joined_bytes (head ++ address_text addr) (phrase_text phrase.ErrorEnd)
    (joined_bytes head (address_text addr) (joined_bytes (phrase_text phrase.ErrorBegin) (phrase_text phrase.Unreadable) (phrase_bytes phrase.ErrorBegin) (phrase_bytes phrase.Unreadable)) (address_bytes addr))
    (phrase_bytes phrase.ErrorEnd)

argument_good : (b : Bool) → Good (argument_fields b) 14
argument_good true = says_good key.Arg (decimal 1) [] 14 refl (decimal_bytes 1) (none_good 14)
argument_good Bool.false = none_good 14

shown_good : (v : Option VariableValue) → Good (shown_fields v) 14
shown_good None = none_good 14
shown_good (Some v) = says_good key.Value (shown_text v) [] 14 refl (text_bytes v) (none_good 14)

variable_tree_good : (v : ShownVariable) → are_bytes v.name ≡ true → is_proper (variable_tree v) 15 ≡ true
unfolding variable_tree variable_fields
variable_tree_good v h =
    tuple_good _ 15 refl (says_good key.Name v.name _ 14 refl h (join (argument_fields v.argument) (shown_fields v.value) 14 (argument_good v.argument) (shown_good v.value)))

variable_trees_good : (vs : List ShownVariable) → variables_fit vs ≡ true → are_proper_items (items_of (map variable_tree vs)) 15 ≡ true
variable_trees_good [] h = refl
variable_trees_good (v ∷ vs) h = let p = both (are_bytes v.name) (variables_fit vs) h in rw (variable_tree_good v p.0, variable_trees_good vs p.1) refl

variables_good : (vs : List ShownVariable) → variables_fit vs ≡ true → Good (variables_field vs ∷ []) 16
unfolding variables_field
variables_good vs h = value key.Variables _ [] 16 (variable_trees_good vs h) (none_good 16)

-- ---- breakpoints

thread_good : (t : Option ℕ) (d : ℕ) → nat_lt 0 d ≡ true → Good (for_thread t) d
thread_good None d l = none_good d
thread_good (Some t) d l = says_good key.Thread (decimal t) [] d l (decimal_bytes t) (none_good d)

ignored_good : (n d : ℕ) → nat_lt 0 d ≡ true → Good (ignored n) d
ignored_good n d l = pick (eqb n 0) [] _ d (none_good d) (says_good key.Ignore (decimal n) [] d l (decimal_bytes n) (none_good d))

front_good : (b : Breakpoint) (d : ℕ) → nat_lt 0 d ≡ true → Good (front_fields b) d
unfolding front_fields
front_good b d l =
    says_good key.Type (phrase_text phrase.BreakpointType) _ d l (phrase_bytes phrase.BreakpointType)
    (says_good key.Disp (phrase_text (disposition b.temporary)) _ d l (phrase_bytes (disposition b.temporary))
    (says_good key.Enabled (phrase_text (enabled b.enabled)) _ d l (phrase_bytes (enabled b.enabled)) (says_good key.Addr (address_text b.address) [] d l (address_bytes b.address) (none_good d))))

counts_good : (b : Breakpoint) (d : ℕ) → nat_lt 0 d ≡ true → are_bytes b.location ≡ true → Good (count_fields b) d
unfolding count_fields
counts_good b d l h =
    join (says key.Times (decimal b.times) ∷ ignored b.ignore) (says key.OriginalLocation b.location ∷ []) d
    (says_good key.Times (decimal b.times) (ignored b.ignore) d l (decimal_bytes b.times) (ignored_good b.ignore d l)) (says_good key.OriginalLocation b.location [] d l h (none_good d))

fields_good : (b : Breakpoint) (d : ℕ) → nat_lt 0 d ≡ true → breakpoint_fits b ≡ true → Good (breakpoint_fields b) d
unfolding breakpoint_fields place_fields term_fields breakpoint_fits
fields_good b d l h =
    let p = both (text_fits b.function) (source_fits b.source && (text_fits b.condition && are_bytes b.location)) h in
    let q = both (source_fits b.source) (text_fits b.condition && are_bytes b.location) p.1 in
    let r = both (text_fits b.condition) (are_bytes b.location) q.1 in
    let place : Good (says_some key.Func b.function ++ source_fields b.source) d = join (says_some key.Func b.function) (source_fields b.source) d (some_good key.Func b.function d l p.0) (source_good b.source d l q.0) in
    let terms : Good (says_some key.Cond b.condition ++ for_thread b.thread) d = join (says_some key.Cond b.condition) (for_thread b.thread) d (some_good key.Cond b.condition d l r.0) (thread_good b.thread d l) in
    says_good key.Number (decimal b.number) _ d l (decimal_bytes b.number)
    (join (front_fields b) _ d (front_good b d l) (join (says_some key.Func b.function ++ source_fields b.source) _ d place (join (says_some key.Cond b.condition ++ for_thread b.thread) (count_fields b) d terms (counts_good b d l r.1))))

breakpoint_good : (b : Breakpoint) (d : ℕ) → nat_lt 0 d ≡ true → nat_lt 0 (d - 1) ≡ true → breakpoint_fits b ≡ true → Good (breakpoint_field b ∷ []) d
unfolding breakpoint_field
breakpoint_good b d l m h = value key.Bkpt _ [] d (tuple_good (breakpoint_fields b) d l (fields_good b (d - 1) m h)) (none_good d)

row_good : (r : Row) (d : ℕ) → nat_lt 0 d ≡ true → nat_lt 0 (d - 1) ≡ true → row_fits r ≡ true → Good (row_field r ∷ []) d
row_good (rows.Breakpoint b) d l m h = breakpoint_good b d l m h
row_good (rows.Watch w) d l m h = listed_good w d l m h

rows_good : (rs : List Row) (d : ℕ) → nat_lt 0 d ≡ true → nat_lt 0 (d - 1) ≡ true → rows_fit rs ≡ true → Good (map row_field rs) d
rows_good [] d l m h = none_good d
rows_good (r ∷ rs) d l m h =
    let p = both (row_fits r) (rows_fit rs) h in
    join (row_field r ∷ []) (map row_field rs) d (row_good r d l m p.0) (rows_good rs d l m p.1)

table_good : (rs : List Row) → rows_fit rs ≡ true → Good ((key_text key.Table, tuple_of (table_fields rs)) ∷ []) 16
unfolding table_fields
table_good rs h =
    let listed : Good (says key.Rows (decimal (length rs)) ∷ (key_text key.Body, in_brackets (map row_field rs)) ∷ []) 15 =
    says_good key.Rows (decimal (length rs)) _ 15 refl (decimal_bytes (length rs)) (value key.Body _ [] 15 (brackets_good (map row_field rs) 15 refl (rows_good rs 14 refl refl h)) (none_good 15)) in
    value key.Table _ [] 16 (tuple_good _ 16 refl listed) (none_good 16)

-- ---- threads

state_good : (s : Option ShownFrame) → place_fits s ≡ true → Good (state_fields s) 14
state_good None h = says_good key.State (phrase_text phrase.Running) [] 14 refl (phrase_bytes phrase.Running) (none_good 14)
state_good (Some f) h =
    join (frame_field (Some 0) f ∷ []) (says key.State (phrase_text phrase.Stopped) ∷ []) 14 (frame_good (Some 0) f 14 refl refl h)
    (says_good key.State (phrase_text phrase.Stopped) [] 14 refl (phrase_bytes phrase.Stopped) (none_good 14))

thread_tree_good : (t : Thread) → place_fits t.stopped_at ≡ true → is_proper (thread_tree t) 15 ≡ true
unfolding thread_tree thread_fields
thread_tree_good t h =
    tuple_good _ 15 refl
    (says_good key.Id (decimal t.number) _ 14 refl (decimal_bytes t.number)
    (says_good key.TargetId (phrase_text phrase.Hart ++ decimal (t.number - 1)) (state_fields t.stopped_at) 14 refl
    (joined_bytes (phrase_text phrase.Hart) (decimal (t.number - 1)) (phrase_bytes phrase.Hart) (decimal_bytes (t.number - 1))) (state_good t.stopped_at h)))

trees_good : (ts : List Thread) → threads_fit ts ≡ true → are_proper_items (items_of (map thread_tree ts)) 15 ≡ true
trees_good [] h = refl
trees_good (t ∷ ts) h = let p = both (place_fits t.stopped_at) (threads_fit ts) h in rw (thread_tree_good t p.0, trees_good ts p.1) refl

threads_good : (ts : List Thread) (selected : ℕ) → threads_fit ts ≡ true → Good (threads_fields ts selected) 16
unfolding threads_fields
threads_good ts selected h = value key.Threads _ _ 16 (trees_good ts h) (says_good key.CurrentThreadId (decimal selected) [] 16 refl (decimal_bytes selected) (none_good 16))

list_good : (ns : List ℕ) → Good (map number_field ns) 15
list_good [] = none_good 15
list_good (n ∷ ns) = says_good key.ThreadId (decimal n) (map number_field ns) 15 refl (decimal_bytes n) (list_good ns)

numbers_good : (ns : List ℕ) (selected : ℕ) → Good (numbers_fields ns selected) 16
unfolding numbers_fields
numbers_good ns selected =
    value key.ThreadIds _ _ 16 (tuple_good (map number_field ns) 16 refl (list_good ns))
    (says_good key.CurrentThreadId (decimal selected) _ 16 refl (decimal_bytes selected) (says_good key.NumberOfThreads (decimal (length ns)) [] 16 refl (decimal_bytes (length ns)) (none_good 16)))

-- ---- registers and memory

names_good : Good (names_field ∷ []) 16
unfolding names_field
names_good = value key.RegisterNames _ [] 16 refl (none_good 16)

value_bytes : (f : Format) (v : ℕ) → are_bytes (value_text f v) ≡ true
value_bytes Hexadecimal v = address_bytes v
value_bytes Decimal v = signed_bytes v

register_good : (f : Format) (r : Register) → is_proper (register_tree f r) 15 ≡ true
unfolding register_tree register_fields
register_good f r =
    tuple_good _ 15 refl (says_good key.Number (decimal r.number) _ 14 refl (decimal_bytes r.number) (says_good key.Value (value_text f r.value) [] 14 refl (value_bytes f r.value) (none_good 14)))

trees_of_good : (f : Format) (rs : List Register) → are_proper_items (items_of (map (register_tree f) rs)) 15 ≡ true
trees_of_good f [] = refl
trees_of_good f (r ∷ rs) = rw (register_good f r, trees_of_good f rs) refl

registers_good : (f : Format) (rs : List Register) → Good (registers_field f rs ∷ []) 16
unfolding registers_field
registers_good f rs = value key.RegisterValues _ [] 16 (trees_of_good f rs) (none_good 16)

block_good : (addr : ℕ) (bytes : List ℕ) → Good (block_fields addr bytes) 14
unfolding block_fields
block_good addr bytes =
    says_good key.Begin (address_text addr) _ 14 refl (address_bytes addr)
    (says_good key.Offset (address_text 0) _ 14 refl (address_bytes 0)
    (says_good key.End (address_text ((addr + length bytes) % 2 ^ 32)) _ 14 refl (address_bytes ((addr + length bytes) % 2 ^ 32))
    (says_good key.Contents (encode_lower bytes) [] 14 refl (hex_bytes bytes) (none_good 14))))

memory_good : (addr : ℕ) (bytes : List ℕ) → Good (memory_field addr bytes ∷ []) 16
unfolding memory_field
memory_good addr bytes = let block : is_proper (tuple_of (block_fields addr bytes)) 15 ≡ true = tuple_good (block_fields addr bytes) 15 refl (block_good addr bytes) in value key.Memory _ [] 16 (rw block refl) (none_good 16)

-- ---- the reply

code_good : (r : Refused) → Good (error_code r) 16
code_good (refused.Faulty (fault.Undefined name)) = says_good key.Code (phrase_text phrase.UndefinedCommand) [] 16 refl (phrase_bytes phrase.UndefinedCommand) (none_good 16)
code_good r = none_good 16

pub error_good : (r : Refused) → are_bytes (message r) ≡ true → Good (error_fields r) 16
unfolding error_fields
error_good r h = says_good key.Message (message r) (error_code r) 16 refl h (code_good r)

pub running_good : (t : ℕ) → Good (says key.ThreadId (decimal t) ∷ []) 16
running_good t = says_good key.ThreadId (decimal t) [] 16 refl (decimal_bytes t) (none_good 16)

pub done_good : (c : Content) → content_fits c ≡ true → Good (done_fields c) 16
done_good (content.Inserted b) h = breakpoint_good b 16 refl refl h
done_good (content.Breakpoints rs) h = table_good rs h
done_good (content.Watching number expression) h = watch_good number expression [] h (none_good 16)
done_good (content.Selected thread) h = says_good key.NewThreadId (decimal thread) [] 16 refl (decimal_bytes thread) (none_good 16)
done_good (content.Threads threads selected) h = threads_good threads selected h
done_good (content.ThreadNumbers numbers selected) h = numbers_good numbers selected
done_good (content.Frames frames) h = frames_good frames h
done_good (content.Depth depth) h = says_good key.Depth (decimal depth) [] 16 refl (decimal_bytes depth) (none_good 16)
done_good (content.Frame frame) h = frame_good (Some 0) frame 16 refl refl h
done_good (content.Variables vs) h = variables_good vs h
done_good content.RegisterNames h = names_good
done_good (content.Registers format registers) h = registers_good format registers
done_good (content.Memory addr bytes) h = memory_good addr bytes
done_good (content.Value word unsigned) h = says_good key.Value (worth_text word unsigned) [] 16 refl (worth_bytes word unsigned) (none_good 16)
done_good (content.Setting v) h = says_good key.Value (phrase_text (setting v)) [] 16 refl (phrase_bytes (setting v)) (none_good 16)
done_good c h = none_good 16
