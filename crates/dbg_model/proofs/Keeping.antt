-- What a tape and the noted entries keep.
use Rattle.std.proofs.Common.{◌≡◌, ◌≢◌, ℕ, zero, suc, ◌+◌, ◌-◌, ◌<◌, ◌≤◌, List, [], ◌∷◌, ◌++◌, length, take, drop, refl, sym, ap, ◌∙◌, arith, length-append}
use Rattle.std.specs.Prelude.{Option, Some, None}
use Rattle.std.proofs.lemmas.List.{append-nil, take-append-drop}
use Rattle.std.proofs.Math.Seq.{drop-append_seam}
use Rattle.run_tape.specs.declared.marks.Mark.{Mark}
use Rattle.run_tape.specs.declared.marks.Mark.TheVariants.{Run as RunMark, Note}
use Rattle.dbg_model.specs.declared.entry.Entry.{Entry}
use Rattle.dbg_model.specs.declared.entry.Entry.TheVariants.{Ran, Counted, Stopped, Left, Did, Poked}
use Rattle.dbg_model.specs.declared.entries.Run.{Run}
use Rattle.dbg_model.specs.Journals.{last_entries, lengthened_by, noted, noted_one, ran_count}
use Rattle.dbg_model.specs.Keeping.{merged, notes_in, pending_entries, pending_marks}
use Rattle.dbg_model.specs.WriterInside.{last_noted_one}
use Rattle.dbg_model.proofs.Lengths.{again_by, anew_by, begins_by}

-- more marks and entries behind marks each of which has its entry
pub merged-append : (ms us : List Mark) (es ks : List Entry) → notes_in ms ≡ length es → merged (ms ++ us) (es ++ ks) ≡ merged ms es ++ merged us ks
merged-append [] us [] ks is = refl
merged-append [] us (e ∷ es) ks is = absurd (omega arith)
merged-append (RunMark h n ∷ ms) us es ks is = ap (λ fs. Ran h n ∷ fs) (merged-append ms us es ks is)
merged-append (Note ∷ ms) us [] ks is = absurd (omega arith)
merged-append (Note ∷ ms) us (e ∷ es) ks is = ap (λ fs. e ∷ fs) (merged-append ms us es ks (omega arith))

pub notes_in-append : (ms us : List Mark) → notes_in (ms ++ us) ≡ notes_in ms + notes_in us
notes_in-append [] us = omega arith
notes_in-append (RunMark h n ∷ ms) us = notes_in-append ms us
notes_in-append (Note ∷ ms) us = omega (arith, notes_in-append ms us)

pub length-merged : (ms : List Mark) (es : List Entry) → notes_in ms ≡ length es → length (merged ms es) ≡ length ms
length-merged [] [] is = refl
length-merged [] (e ∷ es) is = absurd (omega arith)
length-merged (RunMark h n ∷ ms) es is = ap suc (length-merged ms es is)
length-merged (Note ∷ ms) [] is = absurd (omega arith)
length-merged (Note ∷ ms) (e ∷ es) is = ap suc (length-merged ms es (omega arith))

pub length-written : (ms : List Mark) (es : List Entry) (p : Option Run) → notes_in ms ≡ length es → length (merged ms es ++ pending_entries p) ≤ length ms + 1
length-written ms es None is = omega (arith, length-merged ms es is, length-append (merged ms es) [])
length-written ms es (Some r) is = omega (arith, length-merged ms es is, length-append (merged ms es) (Ran r.hart r.count ∷ []))

-- a run that wasn't on the tape
merged-pending : (p : Option Run) → merged (pending_marks p) [] ≡ pending_entries p
merged-pending None = refl
merged-pending (Some r) = refl

pub notes_in-pending : (ms : List Mark) (p : Option Run) → notes_in (ms ++ pending_marks p) ≡ notes_in ms
notes_in-pending ms None = ap notes_in (append-nil ms)
notes_in-pending ms (Some r) = notes_in-append ms (RunMark r.hart r.count ∷ []) ∙ omega arith

pub merged-settled : (ms : List Mark) (es : List Entry) (p : Option Run) → notes_in ms ≡ length es → merged (ms ++ pending_marks p) es ≡ merged ms es ++ pending_entries p
merged-settled ms es p is =
    ap (merged (ms ++ pending_marks p)) (sym (append-nil es)) ∙ merged-append ms (pending_marks p) es [] is
    ∙ ap (λ fs. merged ms es ++ fs) (merged-pending p)

-- one noted entry more
pub merged-noted : (ms : List Mark) (es : List Entry) (p : Option Run) (e : Entry) → notes_in ms ≡ length es
    → merged ((ms ++ pending_marks p) ++ Note ∷ []) (es ++ e ∷ []) ≡ (merged ms es ++ pending_entries p) ++ e ∷ []
merged-noted ms es p e is =
    merged-append (ms ++ pending_marks p) (Note ∷ []) es (e ∷ []) (notes_in-pending ms p ∙ is) ∙ ap (λ fs. fs ++ e ∷ []) (merged-settled ms es p is)

pub notes_in-noted : (ms : List Mark) (es : List Entry) (p : Option Run) (e : Entry) → notes_in ms ≡ length es → notes_in ((ms ++ pending_marks p) ++ Note ∷ []) ≡ length (es ++ e ∷ [])
notes_in-noted ms es p e is = omega (arith, notes_in-append (ms ++ pending_marks p) (Note ∷ []), notes_in-pending ms p, length-append es (e ∷ []))

pub noted-append : (es fs : List Entry) → noted (es ++ fs) ≡ noted es + noted fs
noted-append [] fs = omega arith
noted-append (e ∷ es) fs = omega (arith, noted-append es fs)

pub noted-more : (es : List Entry) (e : Entry) → noted_one e ≡ 1 → noted es ≡ length es → noted (es ++ e ∷ []) ≡ length (es ++ e ∷ [])
noted-more es e one all = omega (arith, noted-append es (e ∷ []), length-append es (e ∷ []))

pub last_noted_one-push : (es : List Entry) (e : Entry) → last_noted_one (es ++ e ∷ []) ≡ noted_one e
last_noted_one-push [] e = refl
last_noted_one-push (x ∷ []) e = refl
last_noted_one-push (x ∷ y ∷ es) e = last_noted_one-push (y ∷ es) e

noted_one-le : (e : Entry) → noted_one e ≤ 1
noted_one-le (Ran h n) = omega arith
noted_one-le (Counted h) = omega arith
noted_one-le (Stopped h why) = omega arith
noted_one-le (Left h code) = omega arith
noted_one-le (Did line) = omega arith
noted_one-le (Poked p) = omega arith

noted-le : (es : List Entry) → noted es ≤ length es
noted-le [] = omega arith
noted-le (e ∷ es) = omega (arith, noted_one-le e, noted-le es)

-- the entries other than `Ran`
abbrev kept_by : ℕ → Entry → List Entry → List Entry
kept_by zero e es = es
kept_by (suc n) e es = e ∷ es

abbrev others : List Entry → List Entry
others [] = []
others (e ∷ es) = kept_by (noted_one e) e (others es)

kept_one : (n : ℕ) (e : Entry) (es : List Entry) → n ≡ 1 → kept_by n e es ≡ e ∷ es
kept_one zero e es is = absurd (omega arith)
kept_one (suc n) e es is = refl

others-all : (es : List Entry) → noted es ≡ length es → others es ≡ es
others-all [] all = refl
others-all (e ∷ es) all =
    let one : noted_one e ≡ 1 = omega (arith, noted_one-le e, noted-le es) in
    kept_one (noted_one e) e (others es) one ∙ ap (λ fs. e ∷ fs) (others-all es (omega (arith, noted_one-le e, noted-le es)))

kept-append : (n : ℕ) (e : Entry) (es fs : List Entry) → kept_by n e (es ++ fs) ≡ kept_by n e es ++ fs
kept-append zero e es fs = refl
kept-append (suc n) e es fs = refl

others-append : (es fs : List Entry) → others (es ++ fs) ≡ others es ++ others fs
others-append [] fs = refl
others-append (e ∷ es) fs = ap (kept_by (noted_one e) e) (others-append es fs) ∙ kept-append (noted_one e) e (others es) (others fs)

others-merged : (ms : List Mark) (es : List Entry) → notes_in ms ≡ length es → noted es ≡ length es → others (merged ms es) ≡ es
others-merged [] [] is all = refl
others-merged [] (e ∷ es) is all = absurd (omega arith)
others-merged (RunMark h n ∷ ms) es is all = others-merged ms es is all
others-merged (Note ∷ ms) [] is all = absurd (omega arith)
others-merged (Note ∷ ms) (e ∷ es) is all =
    let one : noted_one e ≡ 1 = omega (arith, noted_one-le e, noted-le es) in
    kept_one (noted_one e) e (others (merged ms es)) one ∙ ap (λ fs. e ∷ fs) (others-merged ms es (omega arith) (omega (arith, noted_one-le e, noted-le es)))

others-pending : (p : Option Run) → others (pending_entries p) ≡ []
others-pending None = refl
others-pending (Some r) = refl

-- the noted entries are all that are no `Ran`
others-written : (ms : List Mark) (es : List Entry) (p : Option Run) → notes_in ms ≡ length es → noted es ≡ length es → others (merged ms es ++ pending_entries p) ≡ es
others-written ms es p is all =
    others-append (merged ms es) (pending_entries p) ∙ (ap (λ fs. others (merged ms es) ++ fs) (others-pending p) ∙ (append-nil (others (merged ms es)) ∙ others-merged ms es is all))

length-kept : (n : ℕ) (e : Entry) (es : List Entry) → n ≤ 1 → length (kept_by n e es) ≡ n + length es
length-kept zero e es le = omega arith
length-kept (suc n) e es le = omega arith

length-others : (es : List Entry) → length (others es) ≡ noted es
length-others [] = refl
length-others (e ∷ es) = length-kept (noted_one e) e (others es) (noted_one-le e) ∙ ap (λ n. noted_one e + n) (length-others es)

pub noted-written : (ms : List Mark) (es : List Entry) (p : Option Run) → notes_in ms ≡ length es → noted es ≡ length es → noted (merged ms es ++ pending_entries p) ≡ length es
noted-written ms es p is all = sym (length-others (merged ms es ++ pending_entries p)) ∙ ap (λ (fs : List Entry). length fs) (others-written ms es p is all)

length-drop : (k : ℕ) (es : List Entry) → length (drop k es) ≡ length es - k
length-drop zero es = omega arith
length-drop (suc k) [] = omega arith
length-drop (suc k) (e ∷ es) = length-drop k es ∙ omega arith

-- so many at the end, none of which is a `Ran`, are as many at the end of all that are none
last_others : (es : List Entry) (n : ℕ) → n ≤ length es → noted (last_entries n es) ≡ n → drop (length (others es) - n) (others es) ≡ last_entries n es
last_others es n few all =
    let k = length es - n in
    let front = take k es in
    let back = drop k es in
    let whole : others es ≡ others front ++ back =
    sym (ap others (take-append-drop k es)) ∙ (others-append front back ∙ ap (λ fs. others front ++ fs) (others-all back (omega (arith, all, length-drop k es)))) in
    let long : length (others es) - n ≡ length (others front) =
    omega (arith, ap (λ (fs : List Entry). length fs) whole, length-append (others front) back, length-drop k es) in
    ap (λ i. drop i (others es)) long ∙ (ap (drop (length (others front))) whole ∙ drop-append_seam (others front) back)

pub last_written : (ms : List Mark) (es : List Entry) (p : Option Run) (n : ℕ) → notes_in ms ≡ length es → noted es ≡ length es → n ≤ length (merged ms es ++ pending_entries p)
    → noted (last_entries n (merged ms es ++ pending_entries p)) ≡ n → drop (length es - n) es ≡ last_entries n (merged ms es ++ pending_entries p)
last_written ms es p n is all few noted =
    let same = others-written ms es p is all in
    ap (λ (fs : List Entry). drop (length fs - n) fs) (sym same) ∙ last_others (merged ms es ++ pending_entries p) n few noted

noted-drop : (k : ℕ) (es : List Entry) → noted (drop k es) ≤ noted es
noted-drop zero es = omega arith
noted-drop (suc k) [] = omega arith
noted-drop (suc k) (e ∷ es) = omega (arith, noted-drop k es)

-- so there are as many noted entries
pub few_written : (ms : List Mark) (es : List Entry) (p : Option Run) (n : ℕ) → notes_in ms ≡ length es → noted es ≡ length es
    → noted (last_entries n (merged ms es ++ pending_entries p)) ≡ n → n ≤ length es
few_written ms es p n is all noted =
    let js = merged ms es ++ pending_entries p in
    omega (arith, noted, noted-drop (length js - n) js, noted-written ms es p is all)

own_run : (h m : ℕ) → ran_count (Ran h m) h ≡ Some m
own_run h m = grind arith

other_run : (k h m : ℕ) → k ≢ h → ran_count (Ran k m) h ≡ None
other_run k h m apart = grind arith

-- the run that is apart is lengthened
pub lengthened-same : (js : List Entry) (h m n : ℕ) → 0 < n → lengthened_by n (js ++ Ran h m ∷ []) h ≡ js ++ Ran h (m + n) ∷ []
lengthened-same js h m n some = again_by n (js ++ Ran h m ∷ []) js (Ran h m) h m some refl (own_run h m)

-- a run of another hart behind it
pub lengthened-other : (js : List Entry) (k h m n : ℕ) → 0 < n → k ≢ h → lengthened_by n (js ++ Ran k m ∷ []) h ≡ (js ++ Ran k m ∷ []) ++ Ran h n ∷ []
lengthened-other js k h m n some apart = anew_by n (js ++ Ran k m ∷ []) js (Ran k m) h some refl (other_run k h m apart)

none_ran : (e : Entry) (h : ℕ) → noted_one e ≡ 1 → ran_count e h ≡ None
none_ran (Ran k m) h is = absurd (omega arith)
none_ran (Counted k) h is = refl
none_ran (Stopped k why) h is = refl
none_ran (Left k code) h is = refl
none_ran (Did line) h is = refl
none_ran (Poked p) h is = refl

-- a journal without a last `Ran`, by its last entry
record Quiet (js : List Entry) : Type 0 where
  front : List Entry
  last : Entry
  is : js ≡ front ++ last ∷ []
  one : noted_one last ≡ 1

quiet_end : (e : Entry) (js : List Entry) → last_noted_one (e ∷ js) ≡ 1 → Quiet (e ∷ js)
quiet_end e [] one = record { front = []; last = e; is = refl; one = one }
quiet_end e (f ∷ js) one =
    let q = quiet_end f js one in
    record { front = e ∷ q.front; last = q.last; is = ap (λ fs. e ∷ fs) q.is; one = q.one }

-- a run behind another entry, or the first one
pub lengthened-quiet : (js : List Entry) (h n : ℕ) → 0 < n → last_noted_one js ≡ 1 → lengthened_by n js h ≡ js ++ Ran h n ∷ []
lengthened-quiet [] h n some quiet = begins_by n [] h some refl
lengthened-quiet (e ∷ js) h n some quiet =
    let q = quiet_end e js quiet in
    anew_by n (e ∷ js) q.front q.last h some q.is (none_ran q.last h q.one) ∙ ap (λ (fs : List Entry). fs ++ Ran h n ∷ []) (sym q.is)
