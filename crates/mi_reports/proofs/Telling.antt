-- The `@` lines of what is said show the output.
use Rattle.std.proofs.Common.{◌≡◌, ℕ, zero, suc, ◌%◌, Bool, true, cond, List, [], ◌∷◌, ◌++◌, refl, sym, ap, ◌∙◌, append_assoc}
use Rattle.std.specs.Prelude.{Option, Some, None, ◌&&◌, length, map, unwrap_or, slice_get}
use Rattle.std.specs.Option.{option_map}
use Rattle.std.proofs.lemmas.Grind.{flat_map-append}
use mathlib.Core.List.{append-nil}
use Rattle.plain_machine.specs.Environment.{Answer, Traps, Goes}
use Rattle.plain_machine.specs.Plain.{plain}
use Rattle.data_memory.specs.Ranges.{first_unwritable}
use Rattle.plain_machine.specs.PlainRun.{PlainState, is_settable}
use Rattle.dbg_model.specs.declared.entry.Entry.{Entry}
use Rattle.dbg_model.specs.declared.entry.Entry.TheVariants.{Ran, Counted, Stopped, Left, Did, Poked}
use Rattle.dbg_model.specs.declared.entry.Poke.{Poke}
use Rattle.dbg_model.specs.declared.entry.Poke.TheVariants as poke
use Rattle.dbg_model.specs.declared.entry.Why.TheVariants.{Break}
use Rattle.dbg_model.specs.declared.opening.Opening.{Opening}
use Rattle.dbg_model.specs.declared.frame.ShownFrame.{ShownFrame}
use Rattle.dbg_model.specs.Sources.{sources_of}
use Rattle.dbg_model.specs.Shown.{frame_at}
use Rattle.dbg_model.specs.declared.hart.Hart.{Hart}
use Rattle.dbg_model.specs.declared.reply.Content.{Content}
use Rattle.dbg_model.specs.declared.reply.Content.TheVariants as content
use Rattle.dbg_model.specs.Pokes.{bytes_poked, is_pending, register_poked, with_poke, written}
use Rattle.dbg_model.specs.State.{State, all_gone, due, is_stopped}
use Rattle.dbg_model.specs.Breaks.{is_temporary}
use Rattle.dbg_model.specs.Reply.{reply_of}
use Rattle.dbg_model.proofs.Adding.{enter_ran}
use Rattle.dbg_model.specs.Lawful.{set_out, may_run, stepped_by, one_by, one, ran, enter, answer_out, hart_out, one_out, exited_at}
use Rattle.dbg_model.specs.Journals.{Place, come, ran_hart, follows, replay_from, replay, first_place, Leaves}
use Rattle.dbg_model.proofs.Options.{bind_some, guard_some, map_some, same_some}
use Rattle.dbg_model.proofs.Plainly.{plain_of, enter_plain}
use Rattle.break_table.specs.declared.due.CondError.{CondError}
use Rattle.mi_values.specs.Record.{LineTree, prompt}
use Rattle.mi_values.specs.FieldLists.{notice_of, result_of}
use Rattle.mi_values.specs.Records.{streamed, streamed_by}
use Rattle.mi_reports.specs.Text.{thread_line, created_lines, opening_lines, stopped_line, hit_fields, condition_lines, break_lines, gone_lines, exit_lines, stream_lines}
use Rattle.mi_reports.specs.Replies.{running_line, content_lines}
use Rattle.mi_reports.specs.Said.{said_lines, lines_from, entry_lines, ran_lines, wrote_lines}
use Rattle.mi_reports.proofs.Saying.{wrote_shows}

streamed_joined : (xs ys : List LineTree) → streamed (xs ++ ys) ≡ streamed xs ++ streamed ys
streamed_joined xs ys = flat_map-append streamed_by xs ys

output_shows : (bytes : List ℕ) → streamed (stream_lines bytes) ≡ bytes
output_shows [] = refl
output_shows (b ∷ bs) = append-nil (b ∷ bs)

created_shows : (n : ℕ) → streamed (created_lines n) ≡ []
unfolding thread_line notice_of
created_shows zero = refl
created_shows (suc n) = streamed_joined (created_lines n) (thread_line _ n ∷ []) ∙ ap (λ t. t ++ []) (created_shows n)

opening_shows : (n : ℕ) → streamed (opening_lines n) ≡ []
opening_shows n = streamed_joined (created_lines n) (prompt ∷ []) ∙ ap (λ t. t ++ []) (created_shows n)

condition_shows : (number : ℕ) (e : Option CondError) → streamed (condition_lines number e) ≡ []
condition_shows number None = refl
condition_shows number (Some e) = refl

break_shows : (temporary : Bool) (number : ℕ) (e : Option CondError) (h : ℕ) (f : ShownFrame) → streamed (break_lines temporary number e h f) ≡ []
unfolding stopped_line notice_of
break_shows temporary number e h f = streamed_joined (condition_lines number e) (stopped_line (hit_fields temporary number h f) ∷ []) ∙ ap (λ t. t ++ []) (condition_shows number e)

last_shows : (b : Bool) (code : ℕ) → streamed (cond b (exit_lines code) []) ≡ []
unfolding stopped_line notice_of
last_shows true code = refl
last_shows Bool.false code = refl

left_shows : (h : ℕ) (b : Bool) (code : ℕ) → streamed (gone_lines h ++ cond b (exit_lines code) []) ≡ []
unfolding thread_line notice_of
left_shows h b code = last_shows b code

running_shows : (ts : List ℕ) → streamed (map running_line ts ++ prompt ∷ []) ≡ []
unfolding running_line notice_of
running_shows [] = refl
running_shows (t ∷ ts) = running_shows ts

content_shows : (token : List ℕ) (c : Content) → streamed (content_lines token c) ≡ []
unfolding result_of
content_shows token (content.Running threads) = running_shows threads
content_shows token c = refl

-- what an instruction adds to the output
answer_adds : (a : Answer) (o : Opening) (s t : State) (h : ℕ) (x : Hart) → stepped_by a s h x ≡ Some t → t.out ≡ s.out ++ answer_out a
answer_adds (Traps cause) o s t h x is = cc
answer_adds (Goes r m out leave) o s t h x is = ap (λ (u : State). u.out) (sym (same_some _ t is))

one_by_adds : (o : Opening) (s t : State) (h : ℕ) (r : Option Hart) → one_by o s h r ≡ Some t → t.out ≡ s.out ++ hart_out o s r
one_by_adds o s t h None is = cc
one_by_adds o s t h (Some x) is =
    let g = guard_some (may_run o s h x) (stepped_by (plain o.image x.regs s.memory) s h (set_out (due o.image s h x) x)) t is in
    answer_adds (plain o.image x.regs s.memory) o s t h (set_out (due o.image s h x) x) g.1

one_adds : (o : Opening) (h : ℕ) (s t : State) → one o h s ≡ Some t → t.out ≡ s.out ++ one_out o h s
unfolding one one_out
one_adds o h s t is = one_by_adds o s t h (slice_get s.harts h) is

ran_adds : (o : Opening) (h : ℕ) (s : State) (n : ℕ) (t : State) → ran o h s n ≡ Some t → t.out ≡ s.out ++ streamed (ran_lines o h s n)
ran_adds o h s zero t is = ap (λ (u : State). u.out) (sym (same_some s t is)) ∙ sym (append-nil s.out)
ran_adds o h s (suc n) t is =
    let b = bind_some (one o h) (ran o h s n) t is in
    let first = ran_adds o h s n b.0 b.1 in
    let shown = streamed (ran_lines o h s n) in
    let wrote : wrote_lines o h (ran o h s n) ≡ stream_lines (one_out o h b.0) = ap (wrote_lines o h) b.1 ∙ wrote_shows o h b.0 in
    let both : streamed (ran_lines o h s (suc n)) ≡ shown ++ one_out o h b.0 =
    streamed_joined (ran_lines o h s n) (wrote_lines o h (ran o h s n)) ∙ ap (λ t. shown ++ t) (ap streamed wrote ∙ output_shows (one_out o h b.0)) in
    one_adds o h b.0 t b.2 ∙ (ap (λ u. u ++ one_out o h b.0) first ∙ (append_assoc s.out shown (one_out o h b.0) ∙ ap (λ u. s.out ++ u) (sym both)))

-- an entry that is none of the program's adds nothing
nothing : (s t : State) (lines : List LineTree) → Some (plain_of s) ≡ Some (plain_of t) → streamed lines ≡ [] → t.out ≡ s.out ++ streamed lines
nothing s t lines is none = ap (λ (p : PlainState). p.out) (sym (same_some (plain_of s) (plain_of t) is)) ∙ (sym (append-nil s.out) ∙ ap (λ u. s.out ++ u) (sym none))

register_out : (s t : State) (h n v : ℕ) (r : Option Hart) → register_poked s h n v r ≡ Some t → t.out ≡ s.out
register_out s t h n v None is = cc
register_out s t h n v (Some x) is = ap (λ (u : State). u.out) (sym (same_some _ t (guard_some (is_stopped x.mode && is_settable n) _ t is).1))

bytes_out : (s t : State) (a : ℕ) (bytes : List ℕ) (r : Option ℕ) → bytes_poked s a bytes r ≡ Some t → t.out ≡ s.out
bytes_out s t a bytes None is = ap (λ (u : State). u.out) (sym (same_some _ t is))
bytes_out s t a bytes (Some at) is = cc

-- a write is no output
written_out : (s t : State) (p : Poke) → written s p ≡ Some t → t.out ≡ s.out
written_out s t (poke.Register h n v) is = register_out s t h n v (slice_get s.harts h) is
written_out s t (poke.Bytes a bytes) is = bytes_out s t a bytes (first_unwritable s.memory a (length bytes)) is

poked_out : (o : Opening) (s t : State) (p : Poke) → enter o s (Poked p) ≡ Some t → t.out ≡ s.out
unfolding enter
poked_out o s t p is =
    let m = map_some with_poke (written s p) t (guard_some (is_pending s.pending p) (option_map with_poke (written s p)) t is).1 in
    ap (λ (u : State). u.out) (sym m.2) ∙ written_out s m.0 p m.1

entry_adds : (o : Opening) (s : State) (e : Entry) (t : State) → enter o s e ≡ Some t → t.out ≡ s.out ++ streamed (entry_lines o s e)
unfolding stopped_line notice_of
entry_adds o s (Ran h n) t is = ran_adds o h s n t (enter_ran o h n s t is).1
entry_adds o s (Counted h) t is = nothing s t [] (enter_plain o s (Counted h) t is) refl
entry_adds o s (Stopped h (Break number error)) t is =
    nothing s t (entry_lines o s (Stopped h (Break number error))) (enter_plain o s (Stopped h (Break number error)) t is) (break_shows (is_temporary s.breaks number) number error h (frame_at (sources_of o.image) s.harts h))
entry_adds o s (Stopped h w) t is = nothing s t (entry_lines o s (Stopped h w)) (enter_plain o s (Stopped h w) t is) refl
entry_adds o s (Left h code) t is =
    let all = all_gone (exited_at s.harts h (slice_get s.harts h)) in
    nothing s t (entry_lines o s (Left h code)) (enter_plain o s (Left h code) t is) (left_shows h all (code % 256))
entry_adds o s (Did line) t is = nothing s t (entry_lines o s (Did line)) (enter_plain o s (Did line) t is) (content_shows (reply_of o s line).token (reply_of o s line).content)
entry_adds o s (Poked p) t is = poked_out o s t p is ∙ sym (append-nil s.out)

from_adds : (o : Opening) (es : List Entry) (p q : Place) → replay_from o p es ≡ Some q → q.state.out ≡ p.state.out ++ streamed (lines_from o p es)
from_adds o [] p q is = ap (λ (r : Place). r.state.out) (sym (same_some p q is)) ∙ sym (append-nil p.state.out)
from_adds o (e ∷ es) p q is =
    let make : State → Place = λ t. record { prev = ran_hart e; state = t } in
    let b = bind_some (λ r. replay_from o r es) (come o p e) q is in
    let g = guard_some (follows p.prev e) (option_map make (enter o p.state e)) b.0 b.1 in
    let m = map_some make (enter o p.state e) b.0 g.1 in
    let first : b.0.state.out ≡ p.state.out ++ streamed (entry_lines o p.state e) = ap (λ (r : Place). r.state.out) (sym m.2) ∙ entry_adds o p.state e m.0 m.1 in
    let here = streamed (entry_lines o p.state e) in
    let later = streamed (lines_from o b.0 es) in
    let both : streamed (lines_from o p (e ∷ es)) ≡ here ++ later =
    streamed_joined (entry_lines o p.state e) (unwrap_or (option_map (λ r. lines_from o r es) (come o p e)) [])
    ∙ ap (λ (r : Option Place). here ++ streamed (unwrap_or (option_map (λ x. lines_from o x es) r) [])) b.1 in
    from_adds o es b.0 q b.2 ∙ (ap (λ u. u ++ later) first ∙ (append_assoc p.state.out here later ∙ ap (λ u. p.state.out ++ u) (sym both)))

-- the contents of the `@` lines, in order, are the bytes that the program wrote
pub said_output : (o : Opening) (j : List Entry) (s : State) → Leaves o j s → streamed (said_lines o j) ≡ s.out
unfolding said_lines replay
said_output o j s l =
    streamed_joined (opening_lines o.settings.harts) (lines_from o (first_place o) j)
    ∙ (ap (λ t. t ++ streamed (lines_from o (first_place o) j)) (opening_shows o.settings.harts) ∙ sym (from_adds o j (first_place o) (record { prev = l.prev; state = s }) l.replays))
