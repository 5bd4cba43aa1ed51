-- The lines of what is said are lines of the grammar, where what they show is made of bytes.
use Rattle.std.specs.Prelude.{◌%◌, map}
use Rattle.std.proofs.Common.{◌≡◌, ℕ, zero, suc, List, [], ◌∷◌, ◌++◌, Bool, true, cond, Option, Some, refl, sym, subst, arith, false}
use Rattle.dbg_model.specs.declared.entry.Entry.{Entry}
use Rattle.dbg_model.specs.declared.entry.Entry.TheVariants.{Ran, Stopped, Left, Did}
use Rattle.dbg_model.specs.declared.entry.Why.{Why}
use Rattle.dbg_model.specs.declared.entry.Why.TheVariants.{Break, Watch, Stepped, Finished, Interrupted, Fault}
use Rattle.dbg_model.specs.declared.frame.ShownFrame.{ShownFrame}
use Rattle.dbg_model.specs.declared.shown.Shown.{Shown}
use Rattle.dbg_model.specs.declared.shown.Shown.TheVariants.{Wrote, Stop, Exit, Answer}
use Rattle.dbg_model.specs.declared.shown.ShownWatch.{ShownWatch}
use Rattle.dbg_model.specs.declared.reply.Content.{Content}
use Rattle.dbg_model.specs.declared.reply.Content.TheVariants as content
use Rattle.elf_checks.specs.declared.fault.ElfFault.{ElfFault}
use Rattle.mi_text.specs.Token.{is_token}
use Rattle.mi_values.specs.declared.sign.NoticeSign.{NoticeSign}
use Rattle.mi_values.specs.Tree.{Tree, fields_of}
use Rattle.mi_values.specs.FieldLists.{notice_of, result_of}
use Rattle.mi_values.specs.Record.{prompt, IsLine}
use Rattle.mi_values.specs.Records.{AreLines}
use Rattle.mi_values.specs.Testing.{are_bytes}
use Rattle.mi_values.proofs.Testing.{both, bytes_by, fields_by}
use Rattle.mi_values.proofs.Joined.{lines_joined}
use Rattle.mi_reports.specs.declared.words.Key.{Key}
use Rattle.mi_reports.specs.declared.words.Key.TheVariants as key
use Rattle.mi_reports.specs.declared.words.Phrase.TheVariants as phrase
use Rattle.mi_reports.specs.Words.{key_text, says}
use Rattle.mi_reports.specs.Fits.{frame_fits, content_fits, shown_fits}
use Rattle.mi_reports.specs.Lines.{lines_of, may_show}
use Rattle.mi_reports.specs.Phrases.{phrase_text}
use Rattle.mi_reports.specs.Refusals.{file_fields, refusal_lines, usage_fields}
use Rattle.mi_reports.specs.Replies.{running_line, done_lines, content_lines}
use Rattle.mi_reports.specs.Reasons.{condition_of, reason_fields}
use Rattle.mi_reports.specs.Text.{thread_line, thread_fields, created_lines, opening_lines, stopped_line, place_fields, exit_lines, left_lines, stream_lines, signal}
use Rattle.mi_reports.specs.Triggers.{expression, is_unsigned, worth_fields, change_fields}
use Rattle.mi_reports.proofs.Messages.{message_bytes, condition_bytes, file_bytes}
use Rattle.mi_reports.proofs.Names.{key_name, phrase_bytes}
use Rattle.mi_reports.proofs.Proper.{Good, none_good, join, says_good, thread_good, place_good, exit_good, value, tuple_good, signal_good, end_good, hit_good}
use Rattle.mi_reports.proofs.Replying.{done_good, error_good, running_good, watch_good}
use Rattle.mi_reports.proofs.Pieces.{stop_is}
use Rattle.watch_points.specs.declared.watchpoint.Fired.{Fired}
use Rattle.mi_text.specs.Numeral.{worth_text}
use Rattle.mi_reports.proofs.Bytes.{worth_bytes}

-- ---- why a hart stopped

worths_good : (unsigned : Bool) (f : Fired) → Good (worth_fields unsigned f) 15
unfolding worth_fields
worths_good unsigned f =
    says_good key.Old (worth_text f.old unsigned) _ 15 refl (worth_bytes f.old unsigned) (says_good key.New (worth_text f.new unsigned) [] 15 refl (worth_bytes f.new unsigned) (none_good 15))

trigger_good : (w : Option ShownWatch) (f : Fired) → are_bytes (expression w) ≡ true → Good (reason_fields (Watch f) false w) 16
unfolding change_fields
trigger_good w f is =
    let worths = tuple_good (worth_fields (is_unsigned w) f) 16 refl (worths_good (is_unsigned w) f) in
    says_good key.Reason (phrase_text phrase.WatchpointTrigger) _ 16 refl (phrase_bytes phrase.WatchpointTrigger) (watch_good f.number (expression w) _ is (value key.Value _ [] 16 worths (none_good 16)))

reason_good : (w : Why) (temporary : Bool) (watch : Option ShownWatch) → are_bytes (expression watch) ≡ true → Good (reason_fields w temporary watch) 16
reason_good (Break number error) temporary watch is = hit_good temporary number
reason_good (Watch fired) temporary watch is = trigger_good watch fired is
reason_good Stepped temporary watch is = end_good phrase.EndSteppingRange
reason_good Finished temporary watch is = end_good phrase.FunctionFinished
reason_good Interrupted temporary watch is = signal_good phrase.Sigint phrase.Interrupt
reason_good (Fault cause) temporary watch is = signal_good (signal cause).0 (signal cause).1

-- ---- one line

notice_proper : (sign : NoticeSign) (k : Key) (fs : List (List ℕ × Tree)) → Good fs 16 → IsLine (notice_of sign (key_text k) fs)
unfolding notice_of
notice_proper sign k fs g = (key_name k, fields_by (fields_of fs) 16 g.test)

result_proper : (token : List ℕ) (k : Key) (fs : List (List ℕ × Tree)) → is_token token ≡ true → Good fs 16 → IsLine (result_of token (key_text k) fs)
unfolding result_of
result_proper token k fs t g = (t, key_name k, fields_by (fields_of fs) 16 g.test)

stopped_proper : (fs : List (List ℕ × Tree)) → Good fs 16 → IsLine (stopped_line fs)
unfolding stopped_line
stopped_proper fs g = notice_proper _ key.Stopped fs g

thread_proper : (k : Key) (h : ℕ) → IsLine (thread_line k h)
unfolding thread_line
thread_proper k h = notice_proper _ k (thread_fields h) (thread_good h)

running_proper : (t : ℕ) → IsLine (running_line t)
unfolding running_line
running_proper t = notice_proper _ key.Running _ (running_good t)

-- ---- lines

created_proper : (n : ℕ) → AreLines (created_lines n)
created_proper zero = tt
created_proper (suc n) = lines_joined (created_lines n) (thread_line key.ThreadCreated n ∷ []) (created_proper n) (thread_proper key.ThreadCreated n, tt)

pub opening_proper : (n : ℕ) → AreLines (opening_lines n)
opening_proper n = lines_joined (created_lines n) (prompt ∷ []) (created_proper n) (tt, tt)

condition_proper : (w : Why) → AreLines (condition_of w)
condition_proper (Break number (Some e)) = (bytes_by _ (condition_bytes number e), tt)
condition_proper w = tt

stop_proper : (h : ℕ) (w : Why) (temporary : Bool) (watch : Option ShownWatch) (f : ShownFrame) → frame_fits f ≡ true → are_bytes (expression watch) ≡ true → AreLines (lines_of (Stopped h w) (Stop f temporary watch))
stop_proper h w temporary watch f fits is =
    let fields = join (reason_fields w temporary watch) (place_fields h f) 16 (reason_good w temporary watch is) (place_good h f fits) in
    subst AreLines (sym (stop_is h w temporary watch f)) (lines_joined (condition_of w) (stopped_line (reason_fields w temporary watch ++ place_fields h f) ∷ []) (condition_proper w) (stopped_proper _ fields, tt))

last_proper : (last : Bool) (code : ℕ) → AreLines (cond last (exit_lines (code % 256)) [])
last_proper true code = (stopped_proper _ (exit_good (code % 256) (omega arith)), tt)
last_proper Bool.false code = tt

left_proper : (h code : ℕ) (last : Bool) → AreLines (left_lines h code last)
left_proper h code last = (thread_proper key.ThreadExited h, last_proper last code)

stream_proper : (bytes : List ℕ) → are_bytes bytes ≡ true → AreLines (stream_lines bytes)
stream_proper [] h = tt
stream_proper (b ∷ bs) h = (bytes_by (b ∷ bs) h, tt)

-- ---- replies

runnings_proper : (threads : List ℕ) → AreLines (map running_line threads)
runnings_proper [] = tt
runnings_proper (t ∷ ts) = (running_proper t, runnings_proper ts)

done_proper : (token : List ℕ) (fs : List (List ℕ × Tree)) → is_token token ≡ true → Good fs 16 → AreLines (done_lines token fs)
done_proper token fs t g = (result_proper token key.Done fs t g, (tt, tt))

content_proper : (token : List ℕ) (c : Content) → is_token token ≡ true → content_fits c ≡ true → AreLines (content_lines token c)
content_proper token content.Blank t h = (tt, tt)
content_proper token (content.Running threads) t h =
    (result_proper token key.Running [] t (none_good 16), lines_joined (map running_line threads) (prompt ∷ []) (runnings_proper threads) (tt, tt))
content_proper token content.Exit t h = (result_proper token key.Exit [] t (none_good 16), tt)
content_proper token (content.Refused r) t h = (result_proper token key.Error _ t (error_good r (message_bytes r h)), (tt, tt))
content_proper token c t h = done_proper token _ t (done_good c h)

-- ---- a session that isn't begun

refusal_proper : (t : List ℕ) → are_bytes t ≡ true → AreLines (refusal_lines (says key.Message t ∷ []))
refusal_proper t h = (result_proper [] key.Error _ refl (says_good key.Message t [] 16 refl h (none_good 16)), tt)

pub file_proper : (f : ElfFault) → AreLines (refusal_lines (file_fields f))
unfolding file_fields
file_proper f = refusal_proper _ (file_bytes f)

pub usage_proper : AreLines (refusal_lines usage_fields)
unfolding usage_fields
usage_proper = refusal_proper (phrase_text phrase.Usage) (phrase_bytes phrase.Usage)

-- ---- entries

-- the lines of an entry, whatever it shows that it may
pub entry_proper : (e : Entry) (s : Shown) → may_show e s ≡ true → shown_fits s ≡ true → AreLines (lines_of e s)
entry_proper (Ran h n) (Wrote bytes) may fits = stream_proper bytes fits
entry_proper (Stopped h w) (Stop frame temporary watch) may fits =
    let p = both (frame_fits frame) (are_bytes (expression watch)) fits in stop_proper h w temporary watch frame p.0 p.1
entry_proper (Stopped h w) s may fits = absurd cc
entry_proper (Left h code) (Exit last) may fits = left_proper h code last
entry_proper (Did line) (Answer reply) may fits = let p = both (is_token reply.token) (content_fits reply.content) fits in content_proper reply.token reply.content p.0 p.1
entry_proper e s may fits = tt
