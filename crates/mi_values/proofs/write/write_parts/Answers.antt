use Rattle.std.proofs.Common.{ℕ, List, ◌++◌, ap, ◌∙◌}
use Rattle.std.proofs.lemmas.Result.{on_ok_weaker}
use Rattle.mi_text.proofs.Kept.{keeps_more, keeps_on}
use Rattle.mi_values.proofs.Written.{opened, after_sign}
use Rattle.mi_values.proofs.Lines.{stream_written, result_line, notice_line, stream_line, result_bytes, notice_bytes, stream_bytes, prompt_bytes, prompt_written}
use Rattle.mi_values.proofs.write.write_parts.Goals as goal

pub returns-in_ok-write_byte-in-Result-clause-written : goal.returns-in_ok-write_byte-in-Result-clause-written
returns-in_ok-write_byte-in-Result-clause-written c =
    let total = result_bytes c.args.line.now c.in-Result.token c.in-Result.class c.in-Result.fields c.in-Result.is in
    let front = c.in_ok-extend_from_slice-in-Result.ensures.items ∙ ap (λ (l : List ℕ). c.args.into.now.items ++ l) c.as_bytes.ensures.value in
    on_ok_weaker c.write_class.result (after_sign _ _ _ _ _ _ _ 94 total front c.in_ok-write_byte-in-Result.ensures.written) c.write_class.ensures.written

pub returns-in_ok-write_byte-in-Result-clause-line : goal.returns-in_ok-write_byte-in-Result-clause-line
returns-in_ok-write_byte-in-Result-clause-line c =
    on_ok_weaker c.write_class.result (result_line c.args.line.now c.in-Result.token c.in-Result.class c.in-Result.fields c.in-Result.is c.as_bytes.ensures.token) c.write_class.ensures.named

pub returns-in_ok-write_byte-in-Result-clause-kept : goal.returns-in_ok-write_byte-in-Result-clause-kept
returns-in_ok-write_byte-in-Result-clause-kept c =
    keeps_on _ _ _ (keeps_on _ _ _ (keeps_more _ _ _ c.in_ok-extend_from_slice-in-Result.ensures.items) c.in_ok-write_byte-in-Result.ensures.kept) c.write_class.ensures.kept

pub returns-in_ok-write_byte-in-Notice-clause-written : goal.returns-in_ok-write_byte-in-Notice-clause-written
returns-in_ok-write_byte-in-Notice-clause-written c =
    let total = notice_bytes c.args.line.now c.in-Notice.sign c.in-Notice.class c.in-Notice.fields c.notice_byte.result c.in-Notice.is c.notice_byte.ensures in
    on_ok_weaker c.write_class-in-Notice.result (opened _ _ _ _ _ _ c.in_ok-write_byte-in-Notice.ensures.written total) c.write_class-in-Notice.ensures.written

pub returns-in_ok-write_byte-in-Notice-clause-line : goal.returns-in_ok-write_byte-in-Notice-clause-line
returns-in_ok-write_byte-in-Notice-clause-line c =
    on_ok_weaker c.write_class-in-Notice.result (notice_line c.args.line.now c.in-Notice.sign c.in-Notice.class c.in-Notice.fields c.in-Notice.is) c.write_class-in-Notice.ensures.named

pub returns-in_ok-write_byte-in-Notice-clause-kept : goal.returns-in_ok-write_byte-in-Notice-clause-kept
returns-in_ok-write_byte-in-Notice-clause-kept c = keeps_on _ _ _ c.in_ok-write_byte-in-Notice.ensures.kept c.write_class-in-Notice.ensures.kept

pub returns-in_ok-write_c_string-in-Stream-clause-written : goal.returns-in_ok-write_c_string-in-Stream-clause-written
returns-in_ok-write_c_string-in-Stream-clause-written c =
    on_ok_weaker c.write_byte-in-Stream-2.result
    (stream_written _ _ _ _ c.in-Stream.bytes.items c.deref.result.now _ _ _ (stream_bytes c.args.line.now c.in-Stream.sign c.in-Stream.bytes c.in-Stream.is) c.in_ok-write_byte-in-Stream.ensures.written
    c.stream_byte.ensures c.in_ok-write_c_string-in-Stream.ensures.written c.deref.ensures.value)
    c.write_byte-in-Stream-2.ensures.written

pub returns-in_ok-write_c_string-in-Stream-clause-line : goal.returns-in_ok-write_c_string-in-Stream-clause-line
returns-in_ok-write_c_string-in-Stream-clause-line c =
    on_ok_weaker c.write_byte-in-Stream-2.result
    (λ e. stream_line c.args.line.now c.in-Stream.sign c.in-Stream.bytes c.deref.result.now c.in-Stream.is c.deref.ensures.value c.in_ok-write_c_string-in-Stream.ensures.bytes)
    c.write_byte-in-Stream-2.ensures.written

pub returns-in_ok-write_c_string-in-Stream-clause-kept : goal.returns-in_ok-write_c_string-in-Stream-clause-kept
returns-in_ok-write_c_string-in-Stream-clause-kept c =
    keeps_on _ _ _ (keeps_on _ _ _ c.in_ok-write_byte-in-Stream.ensures.kept c.in_ok-write_c_string-in-Stream.ensures.kept) c.write_byte-in-Stream-2.ensures.kept

pub returns-in-Prompt-clause-written : goal.returns-in-Prompt-clause-written
returns-in-Prompt-clause-written c =
    prompt_written c.extend_from_slice-in-Prompt.result _ _ _ (prompt_bytes c.args.line.now c.in-Prompt.is) c.extend_from_slice-in-Prompt.ensures.items
