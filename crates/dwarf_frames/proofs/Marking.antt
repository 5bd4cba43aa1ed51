-- Marks, from one operation to the next.
use Rattle.std.proofs.Common.{◌≡◌, ◌<◌, ◌≤◌, ◌++◌, ◌-◌, ◌∷◌, [], ℕ, List, length, All, Ok, Err, arith, ◌∙◌}
use Rattle.std.proofs.lemmas.List.Elements.{All-get_or, All-push, All-weaker}
use Rattle.std.proofs.lemmas.List.Sorted.{IsNonDecreasingBy-push}
use Rattle.dwarf_frames.specs.Reading.{found}
use Rattle.dwarf_frames.specs.Operations.{operation_at}
use Rattle.dwarf_frames.specs.Table.{apply, moved}
use Rattle.dwarf_frames.specs.States.{AreAllWithin, seen}
use Rattle.dwarf_frames.specs.Starts.{Start}
use Rattle.dwarf_frames.specs.Entries.{Fde}
use Rattle.dwarf_frames.specs.Marks.{AreMarks, Fails, IsMark, fold_until, state_until}
use Rattle.dwarf_frames.specs.declared.fault.FrameFault.{FrameFault}
use Rattle.dwarf_frames.specs.declared.mark.Mark.{Mark}
use Rattle.dwarf_frames.specs.declared.operation.Operation.{Operation}
use Rattle.dwarf_frames.proofs.Fold.{gives_always, gives_end, gives_fault, gives_found, gives_next, gives_start}
use Rattle.dwarf_frames.proofs.Steps.{fold_until_above, fold_until_fails, fold_until_fault, fold_until_next}

pub mark_first : (s : Start) (d : Fde) (m : Mark) → m.at ≡ 0 → m.location ≡ d.initial_location → seen m.state ≡ s.state → AreAllWithin s.state → IsMark s d m
unfolding state_until
mark_first s d m a l e w =
    record {
      within = rw e w;
      good = λ pc above. rw (a, l, e) (gives_start (fold_until s.state.rules pc s.state d.initial_location) s.factors d.program);
    }

pub mark_copy : (s : Start) (d : Fde) (m n : Mark) → n.at ≡ m.at → n.location ≡ m.location → n.reached ≡ m.reached → seen n.state ≡ seen m.state → IsMark s d m → IsMark s d n
mark_copy s d m n a l r e k = record { within = rw e k.within; good = λ pc above. rw (a, l, e) (k.good pc (omega (arith, r))) }

pub mark_next : (s : Start) (d : Fde) (m n : Mark) (o : Operation) → m.at < length d.program → m.at < n.at → operation_at s.factors d.program m.at ≡ found o n.at
    → apply s.state.rules (seen m.state) o ≡ Ok (seen n.state) → n.location ≡ moved m.location o → m.reached ≤ n.reached → m.location ≤ n.reached → AreAllWithin (seen n.state) → IsMark s d m → IsMark s d n
mark_next s d m n o h later read applied l rises covers w k =
    record {
      within = w;
      good = λ pc above.
          gives_next (state_until s d pc) (fold_until s.state.rules pc (seen m.state) m.location) (fold_until s.state.rules pc (seen n.state) n.location) s.factors d.program m.at n.at o h later read
          (fold_until_next s.state.rules pc m.location n.location (seen m.state) (seen n.state) o (omega arith) l applied) (k.good pc (omega arith));
    }

pub fails_in_reading : (s : Start) (d : Fde) (m : Mark) (e : FrameFault) → m.at < length d.program → operation_at s.factors d.program m.at ≡ Err e → IsMark s d m → Fails s d m e
fails_in_reading s d m e h read k pc above here =
    gives_fault (state_until s d pc) (fold_until s.state.rules pc (seen m.state) m.location) s.factors d.program m.at e h read (k.good pc above)
    ∙ fold_until_fails s.state.rules pc m.location (seen m.state) e here

pub fails_in_applying : (s : Start) (d : Fde) (m : Mark) (next : ℕ) (o : Operation) (e : FrameFault) → m.at < length d.program → operation_at s.factors d.program m.at ≡ found o next
    → apply s.state.rules (seen m.state) o ≡ Err e → IsMark s d m → Fails s d m e
fails_in_applying s d m next o e h read applied k pc above here =
    gives_found (state_until s d pc) (Err e) (fold_until s.state.rules pc (seen m.state) m.location) s.factors d.program m.at next o h read
    (fold_until_fault s.state.rules pc m.location (seen m.state) o e here applied) (k.good pc above)

-- where the run stops
pub stops_at_end : (s : Start) (d : Fde) (m : Mark) (pc : ℕ) → m.reached ≤ pc → length d.program ≤ m.at → IsMark s d m → state_until s d pc ≡ Ok (seen m.state)
stops_at_end s d m pc above h k = gives_end (state_until s d pc) (fold_until s.state.rules pc (seen m.state) m.location) s.factors d.program m.at h (k.good pc above)

pub stops_above : (s : Start) (d : Fde) (m : Mark) (pc : ℕ) → m.reached ≤ pc → pc < m.location → IsMark s d m → state_until s d pc ≡ Ok (seen m.state)
stops_above s d m pc above h k =
    gives_always (state_until s d pc) (Ok (seen m.state)) (fold_until s.state.rules pc (seen m.state) m.location) s.factors d.program m.at (fold_until_above s.state.rules pc m.location (seen m.state) h) (k.good pc above)

-- marks below one that is reached
pub record MarksBelow (s : Start) (d : Fde) (reached : ℕ) (list : List Mark) : Type 0 where
  pub marks : AreMarks s d list
  pub below : All (λ m. m.reached ≤ reached) list

pub no_marks : (s : Start) (d : Fde) (reached : ℕ) (marks : List Mark) → marks ≡ [] → MarksBelow s d reached marks
no_marks s d reached marks e =
    rw e (record { marks = record { good = λ k m within. absurd (omega arith); ordered = λ i j m p q. absurd (omega arith) }; below = λ k m within. absurd (omega arith) })

pub higher_below : (s : Start) (d : Fde) (reached more : ℕ) (marks : List Mark) → reached ≤ more → MarksBelow s d reached marks → MarksBelow s d more marks
higher_below s d reached more marks h b = record { marks = b.marks; below = All-weaker (λ m. m.reached ≤ reached) (λ m. m.reached ≤ more) (λ m less. omega arith) marks b.below }

pub one_more : (s : Start) (d : Fde) (m : Mark) (marks : List Mark) → IsMark s d m → MarksBelow s d m.reached marks → MarksBelow s d m.reached (marks ++ m ∷ [])
one_more s d m marks k b =
    record {
      marks = record {
        good = All-push (IsMark s d) marks m b.marks.good k;
        ordered = IsNonDecreasingBy-push (λ (n : Mark). n.reached) marks m b.marks.ordered (λ n some. All-get_or (λ (n : Mark). n.reached ≤ m.reached) marks (length marks - 1) n (omega arith) b.below);
      };
      below = All-push (λ (n : Mark). n.reached ≤ m.reached) marks m b.below (omega arith);
    }

-- the mark that a run has come to, added
pub marked_here : (s : Start) (d : Fde) (before now copy : Mark) (marks more : List Mark) → before.reached ≤ now.reached → copy.at ≡ now.at → copy.location ≡ now.location → copy.reached ≡ now.reached → seen copy.state ≡ seen now.state
    → more ≡ marks ++ copy ∷ [] → IsMark s d now → MarksBelow s d before.reached marks → MarksBelow s d now.reached more
marked_here s d before now copy marks more rises a l r e pushed k b =
    rw pushed
    (higher_below s d copy.reached now.reached (marks ++ copy ∷ []) (omega (arith, r))
    (one_more s d copy marks (mark_copy s d now copy a l r e k) (higher_below s d before.reached copy.reached marks (omega (arith, r)) b)))
