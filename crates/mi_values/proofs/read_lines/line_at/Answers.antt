use Rattle.std.proofs.Common.{refl}
use Rattle.mi_values.specs.declared.sign.NoticeSign.TheVariants.{Exec, Notify}
use Rattle.mi_values.specs.declared.sign.StreamSign.TheVariants.{Target, Log}
use Rattle.mi_values.proofs.Lines.{notice_whole, stream_whole, prompt_read, result_whole}
use Rattle.mi_values.proofs.read_lines.line_at.Goals as goal

pub returns-in-Some : goal.returns-in-Some
returns-in-Some c = notice_whole Exec c.args.bytes.now c.in-Some.rest.now 42 c.read_notice.result c.in-Some.ensures refl c.read_notice.ensures

pub returns-in-Some-after : goal.returns-in-Some-after
returns-in-Some-after c = notice_whole Notify c.args.bytes.now c.in-Some-after.rest.now 61 c.read_notice-in-Some-after.result c.in-Some-after.ensures refl c.read_notice-in-Some-after.ensures

pub returns-in-Some-after-2 : goal.returns-in-Some-after-2
returns-in-Some-after-2 c = stream_whole Target c.args.bytes.now c.in-Some-after-2.rest.now 64 c.read_stream.result c.in-Some-after-2.ensures refl c.read_stream.ensures

pub returns-in-Some-after-3 : goal.returns-in-Some-after-3
returns-in-Some-after-3 c = stream_whole Log c.args.bytes.now c.in-Some-after-3.rest.now 38 c.read_stream-in-Some-after-3.result c.in-Some-after-3.ensures refl c.read_stream-in-Some-after-3.ensures

pub returns-then-is_prompt : goal.returns-then-is_prompt
returns-then-is_prompt c = let found = c.if-is_prompt.ensures in prompt_read c.args.bytes.now found.0 found.1

pub returns : goal.returns
returns c = result_whole c.args.bytes.now c.read_result.result c.in_default.ensures c.in_default-after.ensures c.in_default-after-2.ensures c.in_default-after-3.ensures c.if-is_prompt.ensures c.read_result.ensures
