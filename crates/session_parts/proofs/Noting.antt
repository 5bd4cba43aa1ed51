-- The entries that were noted since.
use Rattle.std.proofs.Common.{◌≡◌, ◌<◌, ◌≤◌, ℕ, ◌+◌, ◌-◌, Bool, true, List, [], ◌∷◌, ◌++◌, length, drop, refl, sym, ap, ◌∙◌, arith, length-set, subst}
use Rattle.std.specs.Prelude.{Option, Some, None}
use Rattle.dbg_model.specs.declared.entry.Entry.{Entry}
use Rattle.dbg_model.specs.declared.entry.Entry.TheVariants.{Ran, Counted, Stopped, Left, Did, Poked}
use Rattle.dbg_model.specs.declared.entry.Mode.{Mode}
use Rattle.dbg_model.specs.declared.entry.Mode.TheVariants as mode
use Rattle.dbg_model.specs.declared.entry.Poke.{Poke}
use Rattle.dbg_model.specs.declared.hart.Hart.{Hart}
use Rattle.dbg_model.specs.declared.opening.Opening.{Opening}
use Rattle.dbg_model.specs.Leaving.{left_one, lefts_from}
use Rattle.dbg_model.specs.Journals.{last_entries, lengthened, noted, noted_one, one_more_by, ran_count}
use Rattle.dbg_model.proofs.Counting.{counted, length-both}
use Rattle.engine_parts.specs.Seen.{Engine, seen}
use Rattle.engine_parts.specs.Facts.{Facts}
use Rattle.engine_parts.specs.Calls.{pokes_of}
use Rattle.data_memory.specs.Ranges.{bytes_at}
use Rattle.engine_parts.specs.declared.moving.Move.{Move}
use Rattle.engine_parts.specs.declared.moving.Move.TheVariants as move
use Rattle.engine_parts.specs.Shown.{IsMoved, ran_shows, shown_by, wrote}
use Rattle.mi_reports.specs.Lines.{may_show}
use Rattle.session_parts.specs.Reported.{AreMoved, Notes, NotesLine, noted_since}

drop_behind : {A : Type 0} (xs ys : List A) → drop (length xs) (xs ++ ys) ≡ ys
drop_behind [] ys = refl
drop_behind (x ∷ xs) ys = drop_behind xs ys

noted_both : (xs ys : List Entry) → noted (xs ++ ys) ≡ noted xs + noted ys
noted_both [] ys = omega arith
noted_both (x ∷ xs) ys = let ih = noted_both xs ys in omega arith

longer_by : (o : Option ℕ) (e : Entry) (h : ℕ) → ran_count e h ≡ o → noted (one_more_by o e h) ≡ noted_one e
longer_by None e h is = omega arith
longer_by (Some n) (Ran k m) h is = refl
longer_by (Some n) (Counted k) h is = cc
longer_by (Some n) (Stopped k why) h is = cc
longer_by (Some n) (Left k code) h is = cc
longer_by (Some n) (Did line) h is = cc
longer_by (Some n) (Poked p) h is = cc

-- an instruction is no noted entry
pub lengthened_notes : (j : List Entry) (h : ℕ) → noted (lengthened j h) ≡ noted j
lengthened_notes [] h = refl
lengthened_notes (e ∷ []) h = let l = longer_by (ran_count e h) e h refl in omega arith
lengthened_notes (e ∷ f ∷ es) h = let ih = lengthened_notes (f ∷ es) h in omega arith

-- these entries were noted since
pub record Since (r s : Engine) (es : List Entry) : Type 0 where
  pub before : r.noted ≤ s.noted
  pub count : s.noted - r.noted ≡ length es
  pub many : s.noted - r.noted ≤ length s.journal
  pub are : noted_since s r.noted ≡ es

pub since : (r s : Engine) (front es : List Entry) → Facts r → Facts s → s.journal ≡ front ++ es → noted front ≡ noted r.journal → noted es ≡ length es → Since r s es
since r s front es f g is same all =
    let old : r.noted ≡ noted r.journal = (counted r.opening r.journal (seen r) f.sound.leaves).noted in
    let new : s.noted ≡ noted s.journal = (counted s.opening s.journal (seen s) g.sound.leaves).noted in
    let both : noted s.journal ≡ noted front + noted es = ap noted is ∙ noted_both front es in
    let len : length s.journal ≡ length front + length es = ap length is ∙ length-both front es in
    let count : s.noted - r.noted ≡ length es = omega arith in
    let at : length s.journal - (s.noted - r.noted) ≡ length front = omega arith in
    record {
      before = omega arith;
      count = count;
      many = omega arith;
      are = ap (λ k. drop k s.journal) at ∙ (ap (drop (length front)) is ∙ drop_behind front es);
    }

pub notes : (r s : Engine) (es : List Entry) → Since r s es → noted es ≡ length es → AreMoved (length s.minds) es → Notes s r.noted
notes r s es k all moved =
    record {
      least = k.before;
      many = k.many;
      noted = ap noted k.are ∙ (all ∙ sym k.count);
      moved = let P : List Entry → Type 0 = λ xs. AreMoved (length s.minds) xs in subst P (sym k.are) moved;
    }

pokes_noted : (line : List ℕ) (p : Option Poke) → noted (Did line ∷ pokes_of p) ≡ length (Did line ∷ pokes_of p)
pokes_noted line None = refl
pokes_noted line (Some p) = refl

-- a line was done
pub line_notes : (r s : Engine) (line : List ℕ) (p : Option Poke) → Facts r → Facts s → s.journal ≡ r.journal ++ Did line ∷ pokes_of p → NotesLine s r.noted
line_notes r s line p f g is =
    let all = pokes_noted line p in
    let k = since r s r.journal (Did line ∷ pokes_of p) f g is refl all in
    record { least = k.before; many = k.many; noted = ap noted k.are ∙ (all ∙ sym k.count); line = line; more = pokes_of p; done = k.are }

-- ---- exits

left_noted : (k : ℕ) (m : Mode) → noted (left_one k m) ≡ length (left_one k m)
left_noted k mode.Stopped = refl
left_noted k mode.Running = refl
left_noted k (mode.Leaving code) = refl
left_noted k mode.Exited = refl

pub lefts_noted : (k : ℕ) (xs : List Hart) → noted (lefts_from k xs) ≡ length (lefts_from k xs)
lefts_noted k [] = refl
lefts_noted k (x ∷ xs) =
    let here = left_noted k x.mode in
    let more = lefts_noted (k + 1) xs in
    let both = noted_both (left_one k x.mode) (lefts_from (k + 1) xs) in
    let len = length-both (left_one k x.mode) (lefts_from (k + 1) xs) in
    omega arith

lefts_by : (n k : ℕ) (m : Mode) (es : List Entry) → AreMoved n es → AreMoved n (left_one k m ++ es)
lefts_by n k mode.Stopped es more = more
lefts_by n k mode.Running es more = more
lefts_by n k (mode.Leaving code) es more = (tt, more)
lefts_by n k mode.Exited es more = more

pub lefts_moved : (n k : ℕ) (xs : List Hart) → AreMoved n (lefts_from k xs)
lefts_moved n k [] = tt
lefts_moved n k (x ∷ xs) = lefts_by n k x.mode (lefts_from (k + 1) xs) (lefts_moved n (k + 1) xs)

-- ---- what an entry shows

wrote_may : (h k : ℕ) (o : Option (List ℕ)) → k ≡ 1 → may_show (Ran h k) (wrote o) ≡ true
wrote_may h k None is = rw is refl
wrote_may h k (Some bytes) is = rw is refl

ran_may : (r : Engine) (m : Move) (h k : ℕ) → k ≡ 1 → may_show (Ran h k) (ran_shows r m) ≡ true
ran_may r (move.Wrote addr len) h k is = wrote_may h k (bytes_at r.machine.memory addr len) is
ran_may r move.Ran h k is = rw is refl
ran_may r move.Left h k is = rw is refl
ran_may r move.AllLeft h k is = rw is refl
ran_may r move.Counted h k is = rw is refl
ran_may r move.Stopped h k is = rw is refl
ran_may r move.Copied h k is = rw is refl
ran_may r move.Lifted h k is = rw is refl
ran_may r move.Fixed h k is = rw is refl
ran_may r move.Planted h k is = rw is refl

-- an entry may show what it shows
pub shows_may : (r : Engine) (m : Move) (e : Entry) (last : Bool) (n : ℕ) → IsMoved n e → may_show e (shown_by r m e last) ≡ true
shows_may r m (Ran h k) last n is = ran_may r m h k is
shows_may r m (Counted h) last n is = refl
shows_may r m (Stopped h why) last n is = refl
shows_may r m (Left h code) last n is = refl
shows_may r m (Did line) last n is = absurd is
shows_may r m (Poked p) last n is = absurd is
