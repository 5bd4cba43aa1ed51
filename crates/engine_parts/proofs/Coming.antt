-- What an entry shows after the move that noted it is what it shows in the state in which it comes.
use Rattle.std.proofs.Common.{◌≡◌, ◌<◌, ℕ, suc, zero, ◌+◌, ◌%◌, ◌^◌, Bool, true, false, List, [], ◌∷◌, ◌++◌, refl, sym, ap, ◌∙◌, subst, append_assoc, arith, not}
use Rattle.std.specs.Prelude.{Option, Some, None, Result, Ok, Err, IfOk, ◌&&◌, option_and_then, slice_get, ◌==◌}
use Rattle.std.specs.Option.{option_map}
use Rattle.std.specs.Result.{result_ok}
use Rattle.rv_exec.specs.Memory.{Memory}
use Rattle.data_memory.specs.Ranges.{bytes_at, range_at, then_range, value_at}
use Rattle.dbg_model.specs.declared.entry.Entry.{Entry}
use Rattle.dbg_model.specs.declared.entry.Entry.TheVariants.{Ran, Counted, Stopped, Left, Did, Poked}
use Rattle.dbg_model.specs.declared.entry.Mode.{Mode}
use Rattle.dbg_model.specs.declared.entry.Mode.TheVariants as mode
use Rattle.dbg_model.specs.declared.hart.Hart.{Hart}
use Rattle.dbg_model.specs.declared.opening.Opening.{Opening}
use Rattle.dbg_model.specs.declared.shown.Shown.{Shown}
use Rattle.dbg_model.specs.declared.shown.Shown.TheVariants.{Wrote, Exit}
use Rattle.dbg_model.specs.State.{State, all_gone, has_exited}
use Rattle.dbg_model.specs.Lawful.{enter, exited_at, leaver_from, leaver_or, left_by, one_out}
use Rattle.dbg_model.specs.Journals.{Leaves, Place, come, first_place, follows, ran_hart, replay, replay_from}
use Rattle.dbg_model.specs.Shown.{shown_of, written}
use Rattle.dbg_model.proofs.Adding.{came_by}
use Rattle.dbg_model.proofs.Options.{bind_bind, bind_some, guard_some, map_some, same_some}
use Rattle.engine_parts.specs.declared.moving.Move.{Move}
use Rattle.engine_parts.specs.declared.moving.Move.TheVariants as move
use Rattle.engine_parts.specs.declared.moving.Turned.TheVariants as turned
use Rattle.engine_parts.specs.Calls.{Moves}
use Rattle.engine_parts.specs.Marks.{executed}
use Rattle.engine_parts.specs.Facts.{Facts}
use Rattle.engine_parts.specs.Seen.{Engine, seen}
use Rattle.engine_parts.specs.Shown.{ComesAt, ComesIn, StandBehind, ran_shows, shown_by, wrote}
use Rattle.engine_parts.proofs.Arrivals.{stopped_halts}
use Rattle.engine_parts.proofs.Shown.{stop_shows}

-- ---- the states between the entries of a journal

replay_from-both : (o : Opening) (p : Place) (j es : List Entry) → replay_from o p (j ++ es) ≡ option_and_then (λ q. replay_from o q es) (replay_from o p j)
replay_from-both o p [] es = refl
replay_from-both o p (x ∷ xs) es =
    bind_bind (λ q. replay_from o q (xs ++ es)) (λ q. replay_from o q xs) (λ q. replay_from o q es) (come o p x) (λ q. replay_from-both o q xs es)

-- the place where an entry comes
record Comes (o : Opening) (j : List Entry) (e : Entry) : Type 0 where
  pub place : Place
  pub at : replay o j ≡ Some place
  pub after : State
  pub gives : enter o place.state e ≡ Some after

comes_behind : (o : Opening) (j es : List Entry) (e : Entry) (s : State) → Leaves o (j ++ e ∷ es) s → Comes o j e
unfolding replay
comes_behind o j es e s l =
    let end : Place = record { prev = l.prev; state = s } in
    let b = bind_some (λ q. replay_from o q (e ∷ es)) (replay_from o (first_place o) j) end (sym (replay_from-both o (first_place o) j (e ∷ es)) ∙ l.replays) in
    let c = bind_some (λ q. replay_from o q es) (come o b.0 e) end b.2 in
    let g = guard_some (follows b.0.prev e) (option_map (λ (t : State). record { prev = ran_hart e; state = t }) (enter o b.0.state e)) c.0 c.1 in
    let m = map_some (λ (t : State). let p : Place = record { prev = ran_hart e; state = t } in p) (enter o b.0.state e) c.0 g.1 in
    record { place = b.0; at = b.1; after = m.0; gives = m.1 }

same_state : (o : Opening) (j : List Entry) (p : Place) (s : State) → replay o j ≡ Some p → Leaves o j s → p.state ≡ s
same_state o j p s at l = ap (λ (q : Place). q.state) (same_some p (record { prev = l.prev; state = s }) (sym at ∙ l.replays))

-- ---- exits

left_from : (s t : State) (h code : ℕ) (l : Option (ℕ × ℕ)) → left_by s h code l ≡ Some t → t.harts ≡ exited_at s.harts h (slice_get s.harts h)
left_from s t h code None is = cc
left_from s t h code (Some l) is =
    let u : State = record s { harts = exited_at s.harts h (slice_get s.harts h); noted = s.noted + 1 } in
    let g = guard_some (not s.exited && ((l.0 == h) && (l.1 == code))) (Some u) t is in
    ap (λ (v : State). v.harts) (sym (same_some u t g.1))

left_harts : (o : Opening) (s t : State) (h code : ℕ) → enter o s (Left h code) ≡ Some t → t.harts ≡ exited_at s.harts h (slice_get s.harts h)
unfolding enter
left_harts o s t h code is = left_from s t h code (leaver_from 0 s.harts) is

none_left : (s t : State) (h code : ℕ) (l : Option (ℕ × ℕ)) → left_by s h code l ≡ Some t → l ≡ None → ⊥
none_left s t h code None is none = cc
none_left s t h code (Some l) is none = cc

some_live_by : (k : ℕ) (m : Mode) (xs : List Hart) → ((leaver_from (k + 1) xs ≡ None → ⊥) → all_gone xs ≡ false) → (leaver_or k m (leaver_from (k + 1) xs) ≡ None → ⊥) → (has_exited m && all_gone xs) ≡ false
some_live_by k mode.Stopped xs more some = refl
some_live_by k mode.Running xs more some = refl
some_live_by k (mode.Leaving code) xs more some = refl
some_live_by k mode.Exited xs more some = more some

-- a hart that leaves is live
some_live : (k : ℕ) (xs : List Hart) → (leaver_from k xs ≡ None → ⊥) → all_gone xs ≡ false
some_live k [] some = absurd (some refl)
some_live k (x ∷ xs) some = some_live_by k x.mode xs (some_live (k + 1) xs) some

leaver_live : (o : Opening) (s t : State) (h code : ℕ) → enter o s (Left h code) ≡ Some t → all_gone s.harts ≡ false
unfolding enter
leaver_live o s t h code is = some_live 0 s.harts (none_left s t h code (leaver_from 0 s.harts) is)

enters_at : (o : Opening) (s t u : State) (e : Entry) → s ≡ t → enter o s e ≡ Some u → enter o t e ≡ Some u
enters_at o s t u e same is = subst (λ (v : State). enter o v e ≡ Some u) same is

-- the exit is the last one exactly where no hart is live behind it
left_comes : (r : Engine) (h code : ℕ) (last : Bool) (s : State) (front es : List Entry) → Facts r → r.journal ≡ front ++ Left h code ∷ es → Leaves r.opening front s → StandBehind last es
    → (last && all_gone (seen r).harts) ≡ all_gone (exited_at s.harts h (slice_get s.harts h))
left_comes r h code true s front es f journal l none =
    let o = r.opening in
    let P : List Entry → Type 0 = λ k. Leaves o k (seen r) in
    let by = came_by o front (Left h code) (seen r) (subst P (journal ∙ ap (λ fs. front ++ Left h code ∷ fs) none) f.sound.leaves) in
    ap all_gone (left_harts o s (seen r) h code (enters_at o by.before.state s (seen r) (Left h code) (same_state o front by.before s by.at l) by.gives))
left_comes r h code false s front es f journal l (i, c, fs, is) =
    let o = r.opening in
    let j = front ++ Left h code ∷ [] in
    let P : List Entry → Type 0 = λ k. Leaves o k (seen r) in
    let b = comes_behind o j fs (Left i c) (seen r) (subst P (journal ∙ (ap (λ gs. front ++ Left h code ∷ gs) is ∙ sym (append_assoc front (Left h code ∷ []) (Left i c ∷ fs)))) f.sound.leaves) in
    let by = came_by o front (Left h code) b.place.state (record { prev = b.place.prev; replays = b.at }) in
    let harts = left_harts o s b.place.state h code (enters_at o by.before.state s b.place.state (Left h code) (same_state o front by.before s by.at l) by.gives) in
    sym (leaver_live o b.place.state b.after i c b.gives) ∙ ap all_gone harts

-- ---- instructions

then_some : (addr : ℕ) (v : Option ℕ) (rest : Result (List ℕ) ℕ) (out : List ℕ) → result_ok (then_range addr v rest) ≡ Some out → Wrote out ≡ written out
then_some addr None rest out is = absurd cc
then_some addr (Some v) (Err at) out is = absurd cc
then_some addr (Some v) (Ok vs) out is = let same = same_some (v ∷ vs) out is in subst (λ (xs : List ℕ). Wrote xs ≡ written xs) same refl

some_written : (m : Memory) (addr len : ℕ) (out : List ℕ) → 0 < len → bytes_at m addr len ≡ Some out → Wrote out ≡ written out
some_written m addr zero out some is = absurd (omega arith)
some_written m addr (suc n) out some is = then_some (addr % 2 ^ 32) (value_at m (addr % 2 ^ 32)) (range_at m (addr + 1) n) out is

out_at : (o p : Opening) (h k : ℕ) (s t : State) (out : List ℕ) → p ≡ o → k ≡ h → t ≡ s → one_out o h s ≡ out → out ≡ one_out p k t
out_at o p h k s t out opening hart state is = sym (ap (λ (q : Opening). one_out q k t) opening ∙ (ap (λ (i : ℕ). one_out o i t) hart ∙ (ap (one_out o h) state ∙ is)))

ran_comes : (m : Move) (r n : Engine) (h k : ℕ) (s : State) → Moves m r n h → executed (turned.Moved m) ≡ 1 → k ≡ h → s ≡ seen r → ran_shows n m ≡ written (one_out n.opening k s)
ran_comes move.Ran r n h k s m done hart state = ap written (out_at r.opening n.opening h k (seen r) s [] m.opening hart state m.wrote)
ran_comes (move.Wrote addr len) r n h k s (out, some, bytes, m) done hart state =
    ap wrote bytes ∙ (some_written n.machine.memory addr len out some bytes ∙ ap written (out_at r.opening n.opening h k (seen r) s out m.opening hart state m.wrote))
ran_comes move.Left r n h k s (code, m) done hart state = ap written (out_at r.opening n.opening h k (seen r) s [] m.opening hart state m.leavers.wrote)
ran_comes move.AllLeft r n h k s (code, count, m) done hart state = ap written (out_at r.opening n.opening h k (seen r) s [] m.opening hart state m.leavers.wrote)
ran_comes move.Counted r n h k s m done hart state = absurd (omega arith)
ran_comes move.Stopped r n h k s m done hart state = absurd (omega arith)
ran_comes move.Copied r n h k s m done hart state = absurd (omega arith)
ran_comes move.Lifted r n h k s m done hart state = absurd (omega arith)
ran_comes move.Fixed r n h k s m done hart state = absurd (omega arith)
ran_comes move.Planted r n h k s m done hart state = absurd (omega arith)

-- ---- each entry

same_opening : (m : Move) (r n : Engine) (h : ℕ) → Moves m r n h → n.opening ≡ r.opening
same_opening move.Ran r n h m = m.opening
same_opening (move.Wrote addr len) r n h (out, some, bytes, m) = m.opening
same_opening move.Left r n h (code, m) = m.opening
same_opening move.AllLeft r n h (code, count, m) = m.opening
same_opening move.Counted r n h m = m.opening
same_opening move.Stopped r n h (why, m) = (stopped_halts why r n h m).opening
same_opening move.Copied r n h m = m.rephases.opening
same_opening move.Lifted r n h m = m.rephases.opening
same_opening move.Fixed r n h m = m.rephases.opening
same_opening move.Planted r n h m = m.rephases.opening

comes_at : (m : Move) (r n : Engine) (h : ℕ) (e : Entry) (last : Bool) (s : State) → Facts n → Moves m r n h → n.opening ≡ r.opening → ComesAt m r n h e last s → shown_by n m e last ≡ shown_of n.opening s e
comes_at m r n h (Ran k c) last s f does same comes = ran_comes m r n h k s does comes.0 comes.1 comes.2
comes_at m r n h (Counted k) last s f does same comes = refl
comes_at m r n h (Stopped k why) last s f does same comes =
    sym (stop_shows why r n k f comes.0) ∙ (ap (λ (o : Opening). shown_of o (seen r) (Stopped k why)) (sym same) ∙ ap (λ (t : State). shown_of n.opening t (Stopped k why)) (sym comes.1))
comes_at m r n h (Left k code) last s f does same comes = ap Exit (left_comes n k code last s comes.front comes.behind f comes.journal comes.leaves comes.next)
comes_at m r n h (Did line) last s f does same comes = absurd comes
comes_at m r n h (Poked p) last s f does same comes = absurd comes

comes_shown : (m : Move) (r n : Engine) (e : Entry) (last : Bool) (s : State) → ComesIn m r n e last s → shown_by n m e last ≡ shown_of n.opening s e
comes_shown m r n e last s c = comes_at m r n c.hart e last s c.facts c.moves (same_opening m r n c.hart c.moves) c.comes

-- what is made of an entry is that
pub made_shown : {E : Type 0} (m : Move) (n : Engine) (e : Entry) (last : Bool) (made : Result Shown E) → IfOk made (λ v. v ≡ shown_by n m e last)
    → IfOk made (λ v. (r : Engine) (s : State) → ComesIn m r n e last s → v ≡ shown_of n.opening s e)
made_shown m n e last (Ok v) is = λ r s c. is ∙ comes_shown m r n e last s c
made_shown m n e last (Err why) is = tt
