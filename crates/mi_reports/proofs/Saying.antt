-- What one more entry says.
use Rattle.std.proofs.Common.{◌≡◌, ℕ, ◌+◌, Bool, true, false, cond, List, [], ◌∷◌, ◌++◌, refl, sym, ap, ◌∙◌, append_assoc, arith, add-one, subst, inl, inr}
use Rattle.std.specs.Prelude.{◌==◌, Option, Some, None, option_and_then, unwrap_or}
use Rattle.std.specs.Option.{option_map}
use mathlib.Core.List.{append-nil}
use Rattle.std.proofs.lemmas.Bool.Decides.{nat_tests}
use Rattle.dbg_model.specs.declared.entry.Entry.{Entry}
use Rattle.dbg_model.specs.declared.entry.Entry.TheVariants.{Ran}
use Rattle.dbg_model.specs.declared.opening.Opening.{Opening}
use Rattle.dbg_model.specs.State.{State}
use Rattle.dbg_model.specs.Lawful.{one_out}
use Rattle.dbg_model.specs.Journals.{Place, come, ran_hart, replay_from, replay, first_place, Leaves, lengthened, one_more, one_more_by}
use Rattle.dbg_model.proofs.Options.{same_some}
use Rattle.dbg_model.proofs.Adding.{last_view, lengthened-append, CameBy, came_by, at_last, enter_ran}
use Rattle.dbg_model.specs.Shown.{written}
use Rattle.mi_reports.specs.Text.{opening_lines, stream_lines}
use Rattle.mi_reports.specs.Lines.{lines_of}
use Rattle.mi_reports.specs.Said.{said_lines, lines_from, entry_lines, ran_lines, wrote_lines}

nothing_after : {A B : Type 0} (r : Option A) → unwrap_or (option_map (λ (x : A). let y : List B = [] in y) r) [] ≡ []
nothing_after None = refl
nothing_after (Some x) = refl

more_said : (o : Opening) (xs : List Entry) (e : Entry) (q : Place) (r : Option Place)
    → option_and_then (λ p. replay_from o p xs) r ≡ Some q
    → ((p : Place) → replay_from o p xs ≡ Some q → lines_from o p (xs ++ e ∷ []) ≡ lines_from o p xs ++ entry_lines o q.state e)
    → unwrap_or (option_map (λ p. lines_from o p (xs ++ e ∷ [])) r) [] ≡ unwrap_or (option_map (λ p. lines_from o p xs) r) [] ++ entry_lines o q.state e
more_said o xs e q None h each = cc
more_said o xs e q (Some p) h each = each p h

lines_from-append : (o : Opening) (p : Place) (xs : List Entry) (e : Entry) (q : Place) → replay_from o p xs ≡ Some q → lines_from o p (xs ++ e ∷ []) ≡ lines_from o p xs ++ entry_lines o q.state e
lines_from-append o p [] e q h =
    let same : p ≡ q = same_some p q h in
    ap (λ t. entry_lines o p.state e ++ t) (nothing_after (come o p e)) ∙ (append-nil (entry_lines o p.state e) ∙ ap (λ (r : Place). entry_lines o r.state e) same)
lines_from-append o p (x ∷ xs) e q h =
    ap (λ t. entry_lines o p.state x ++ t) (more_said o xs e q (come o p x) h (λ r k. lines_from-append o r xs e q k))
    ∙ sym (append_assoc (entry_lines o p.state x) (unwrap_or (option_map (λ r. lines_from o r xs) (come o p x)) []) (entry_lines o q.state e))

-- one more entry
said_next : (o : Opening) (j : List Entry) (e : Entry) (q : Place) → replay o j ≡ Some q → said_lines o (j ++ e ∷ []) ≡ said_lines o j ++ entry_lines o q.state e
unfolding said_lines replay
said_next o j e q l =
    ap (λ t. opening_lines o.settings.harts ++ t) (lines_from-append o (first_place o) j e q l)
    ∙ sym (append_assoc (opening_lines o.settings.harts) (lines_from o (first_place o) j) (entry_lines o q.state e))

pub said_added : (o : Opening) (j : List Entry) (s : State) (e : Entry) → Leaves o j s → said_lines o (j ++ e ∷ []) ≡ said_lines o j ++ entry_lines o s e
said_added o j s e l = said_next o j e (record { prev = l.prev; state = s }) l.replays

pub said_nothing : (o : Opening) → said_lines o [] ≡ opening_lines o.settings.harts
unfolding said_lines
said_nothing o = append-nil (opening_lines o.settings.harts)

-- the line of what an instruction wrote
written_lines : (h n : ℕ) (out : List ℕ) → lines_of (Ran h n) (written out) ≡ stream_lines out
written_lines h n [] = refl
written_lines h n (b ∷ bs) = refl

pub wrote_shows : (o : Opening) (h : ℕ) (s : State) → wrote_lines o h (Some s) ≡ stream_lines (one_out o h s)
wrote_shows o h s = written_lines h 1 (one_out o h s)

first_lines : (o : Opening) (h : ℕ) (s : State) → entry_lines o s (Ran h 1) ≡ stream_lines (one_out o h s)
first_lines o h s = wrote_shows o h s

-- a `Ran` behind an entry that is none of this hart
behind : (o : Opening) (front : List Entry) (e : Entry) (h : ℕ) (s : State) → CameBy o front e s → said_lines o (front ++ e ∷ Ran h 1 ∷ []) ≡ said_lines o (front ++ e ∷ []) ++ stream_lines (one_out o h s)
behind o front e h s by =
    ap (said_lines o) (sym (append_assoc front (e ∷ []) (Ran h 1 ∷ [])))
    ∙ (said_next o (front ++ e ∷ []) (Ran h 1) (record { prev = ran_hart e; state = s }) (at_last o front e s by) ∙ ap (λ t. said_lines o (front ++ e ∷ []) ++ t) (first_lines o h s))

-- the last entry is one instruction longer
longer : (o : Opening) (front : List Entry) (h n : ℕ) (s : State) → CameBy o front (Ran h n) s → said_lines o (front ++ Ran h (n + 1) ∷ []) ≡ said_lines o (front ++ Ran h n ∷ []) ++ stream_lines (one_out o h s)
longer o front h n s by =
    let p = by.before in
    let new = said_next o front (Ran h (n + 1)) p by.at in
    let old = said_next o front (Ran h n) p by.at in
    let r = (enter_ran o h n p.state s by.gives).1 in
    let more : ran_lines o h p.state (n + 1) ≡ ran_lines o h p.state n ++ stream_lines (one_out o h s) = rw add-one (ap (λ x. ran_lines o h p.state n ++ wrote_lines o h x) r ∙ ap (λ t. ran_lines o h p.state n ++ t) (wrote_shows o h s)) in
    new ∙ (ap (λ t. said_lines o front ++ t) more ∙ (sym (append_assoc (said_lines o front) (ran_lines o h p.state n) (stream_lines (one_out o h s))) ∙ ap (λ t. t ++ stream_lines (one_out o h s)) (sym old)))

last_ran : (o : Opening) (front : List Entry) (k n h : ℕ) (b : Bool) (s : State) → (k == h) ≡ b → CameBy o front (Ran k n) s
    → said_lines o (front ++ one_more_by (cond b (Some n) None) (Ran k n) h) ≡ said_lines o (front ++ Ran k n ∷ []) ++ stream_lines (one_out o h s)
last_ran o front k n h true s is by =
    let same : k ≡ h = grind (arith, nat_tests) in
    let P : ℕ → Type 0 = λ j. CameBy o front (Ran j n) s in
    longer o front h n s (subst P same by) ∙ ap (λ j. said_lines o (front ++ Ran j n ∷ []) ++ stream_lines (one_out o h s)) (sym same)
last_ran o front k n h false s is by = behind o front (Ran k n) h s by

last_entry : (o : Opening) (front : List Entry) (e : Entry) (h : ℕ) (s : State) → CameBy o front e s → said_lines o (front ++ one_more e h) ≡ said_lines o (front ++ e ∷ []) ++ stream_lines (one_out o h s)
last_entry o front (Ran k n) h s by = last_ran o front k n h (k == h) s refl by
last_entry o front e h s by = behind o front e h s by

-- one more instruction says what it wrote
pub said_lengthened : (o : Opening) (j : List Entry) (h : ℕ) (s : State) → Leaves o j s → said_lines o (lengthened j h) ≡ said_lines o j ++ stream_lines (one_out o h s)
said_lengthened o j h s l =
    let P : List Entry → Type 0 = λ k. Leaves o k s → said_lines o (lengthened k h) ≡ said_lines o k ++ stream_lines (one_out o h s) in
    elim (last_view j) [
      | inl none ↦ subst P (sym none) (λ l'. said_added o [] s (Ran h 1) l' ∙ ap (λ t. said_lines o [] ++ t) (first_lines o h s)) l
      | inr some ↦ subst P (sym some.2) (λ l'. ap (said_lines o) (lengthened-append some.0 some.1 h) ∙ last_entry o some.0 some.1 h s (came_by o some.0 some.1 s l')) l
    ]
