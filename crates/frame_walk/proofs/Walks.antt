-- The frames of a hart, one after the other.
use Rattle.std.proofs.Common.{◌≡◌, ℕ, ◌+◌, ◌<◌, ◌≤◌, zero, suc, List, [], ◌∷◌, ◌++◌, map, length, Option, None, Some, refl, sym, ◌∙◌, ap, subst, arith, append_assoc, add-one}
use Rattle.std.specs.Prelude.{Result, slice_get, option_and_then, is_some}
use Rattle.std.specs.Option.{option_map_or}
use Rattle.elf32_read.specs.Program.{Program}
use Rattle.dwarf_frames.specs.declared.rules.Rules.{Rules}
use Rattle.dwarf_frames.specs.declared.fault.FrameFault.{FrameFault}
use Rattle.dwarf_frames.specs.Rules.{rules_of}
use Rattle.frame_walk.specs.declared.context.Context.{Context}
use Rattle.frame_walk.specs.declared.frame.Frame.{Frame}
use Rattle.frame_walk.specs.Caller.{caller_by, cfa_by}
use Rattle.frame_walk.specs.Frames.{Frames, caller_of, contexts_from, frame_of, frames_of, innermost, own_caller, own_cfa}

-- the walk goes on
pub goes_on : (section : List ℕ) (image : Program) (bytes : ℕ → Option ℕ) (more rest : ℕ) (frame outer : Context) (items : List Frame)
    → more ≡ rest + 1 → caller_of section image bytes frame ≡ Some outer
    → (items ++ frame_of section frame ∷ []) ++ map (frame_of section) (contexts_from section image bytes rest outer) ≡ items ++ map (frame_of section) (contexts_from section image bytes more frame)
unfolding contexts_from
goes_on section image bytes more rest frame outer items m e = rw (m, add-one, e) (append_assoc items (frame_of section frame ∷ []) _)

-- the walk ends since a frame has no caller
pub ends : (section : List ℕ) (image : Program) (bytes : ℕ → Option ℕ) (more rest : ℕ) (frame : Context) (items : List Frame)
    → more ≡ rest + 1 → caller_of section image bytes frame ≡ None
    → items ++ frame_of section frame ∷ [] ≡ items ++ map (frame_of section) (contexts_from section image bytes more frame)
unfolding contexts_from
ends section image bytes more rest frame items m e = rw (m, add-one, e) refl

-- the walk ends since no more frames are taken
pub is_full : (section : List ℕ) (image : Program) (bytes : ℕ → Option ℕ) (more : ℕ) (frame : Context) (items : List Frame) → more ≡ 0
    → items ++ frame_of section frame ∷ [] ≡ items ++ map (frame_of section) (contexts_from section image bytes more frame)
unfolding contexts_from
is_full section image bytes more frame items m = rw m refl

head : (section : List ℕ) (image : Program) (bytes : ℕ → Option ℕ) (more : ℕ) (frame : Context)
    → slice_get (contexts_from section image bytes more frame) 0 ≡ Some frame
unfolding contexts_from
head section image bytes zero frame = refl
head section image bytes (suc more) frame = refl

head_after : (section : List ℕ) (image : Program) (bytes : ℕ → Option ℕ) (more : ℕ) (outer : Option Context)
    → slice_get (option_map_or (contexts_from section image bytes more) outer []) 0 ≡ outer
head_after section image bytes more None = refl
head_after section image bytes more (Some outer) = head section image bytes more outer

next_after : (section : List ℕ) (image : Program) (bytes : ℕ → Option ℕ) (more : ℕ) (outer : Option Context) (k : ℕ)
    → ((frame : Context) → slice_get (contexts_from section image bytes more frame) (suc k) ≡ option_and_then (caller_of section image bytes) (slice_get (contexts_from section image bytes more frame) k))
    → slice_get (option_map_or (contexts_from section image bytes more) outer []) (suc k)
    ≡ option_and_then (caller_of section image bytes) (slice_get (option_map_or (contexts_from section image bytes more) outer []) k)
next_after section image bytes more None k next = refl
next_after section image bytes more (Some outer) k next = next outer

next_of : (section : List ℕ) (image : Program) (bytes : ℕ → Option ℕ) (more : ℕ) (frame : Context) (k : ℕ) → k < more
    → slice_get (contexts_from section image bytes more frame) (suc k) ≡ option_and_then (caller_of section image bytes) (slice_get (contexts_from section image bytes more frame) k)
unfolding contexts_from
next_of section image bytes zero frame k h = absurd (omega arith)
next_of section image bytes (suc more) frame zero h = head_after section image bytes more (caller_of section image bytes frame)
next_of section image bytes (suc more) frame (suc k) h =
    next_after section image bytes more (caller_of section image bytes frame) k (λ outer. next_of section image bytes more outer k (omega arith))

next : (section : List ℕ) (image : Program) (bytes : ℕ → Option ℕ) (more : ℕ) (frame : Context) (k : ℕ) → k < more
    → slice_get (contexts_from section image bytes more frame) (k + 1) ≡ option_and_then (caller_of section image bytes) (slice_get (contexts_from section image bytes more frame) k)
next section image bytes more frame k h = rw add-one (next_of section image bytes more frame k h)

few_after : (section : List ℕ) (image : Program) (bytes : ℕ → Option ℕ) (more : ℕ) (outer : Option Context)
    → ((frame : Context) → length (contexts_from section image bytes more frame) ≤ more + 1)
    → length (option_map_or (contexts_from section image bytes more) outer []) ≤ more + 1
few_after section image bytes more None few = omega arith
few_after section image bytes more (Some outer) few = few outer

few : (section : List ℕ) (image : Program) (bytes : ℕ → Option ℕ) (more : ℕ) (frame : Context)
    → length (contexts_from section image bytes more frame) ≤ more + 1
unfolding contexts_from
few section image bytes zero frame = omega arith
few section image bytes (suc more) frame =
    let rest = few_after section image bytes more (caller_of section image bytes frame) (few section image bytes more) in omega arith

-- `frames_of` are the frames of a hart
are_frames : (section : List ℕ) (image : Program) (registers : ℕ → ℕ) (bytes : ℕ → Option ℕ) → Frames section image registers bytes (frames_of section image registers bytes)
unfolding frames_of
are_frames section image registers bytes = record {
  contexts = contexts_from section image bytes 63 (innermost registers);
  told = refl;
  first = head section image bytes 63 (innermost registers);
  next = next section image bytes 63 (innermost registers);
  few = few section image bytes 63 (innermost registers);
}

second_after : (section : List ℕ) (image : Program) (bytes : ℕ → Option ℕ) (more : ℕ) (outer : Option Context)
    → is_some outer ≡ is_some (slice_get (map (frame_of section) (option_map_or (contexts_from section image bytes more) outer [])) 0)
unfolding contexts_from
second_after section image bytes more None = refl
second_after section image bytes zero (Some outer) = refl
second_after section image bytes (suc more) (Some outer) = refl

second : (section : List ℕ) (image : Program) (bytes : ℕ → Option ℕ) (more rest : ℕ) (frame : Context) → more ≡ suc rest
    → is_some (caller_of section image bytes frame) ≡ is_some (slice_get (map (frame_of section) (contexts_from section image bytes more frame)) 1)
unfolding contexts_from
second section image bytes more rest frame e = rw e (second_after section image bytes rest (caller_of section image bytes frame))

-- there is a second frame exactly where the first one has a caller
is_second : (section : List ℕ) (image : Program) (registers : ℕ → ℕ) (bytes : ℕ → Option ℕ)
    → is_some (caller_of section image bytes (innermost registers)) ≡ is_some (slice_get (frames_of section image registers bytes) 1)
unfolding frames_of
is_second section image registers bytes = second section image bytes 63 62 (innermost registers) refl

-- what is told of a frame, by what covers it
pub frame_told : (section : List ℕ) (frame : Context) (found : Result (Option Rules) FrameFault) (told : Frame) → found ≡ rules_of section frame.lookup
    → told ≡ record { pc = frame.pc; lookup = frame.lookup; cfa = cfa_by frame.registers found } → told ≡ frame_of section frame
unfolding frame_of
frame_told section frame found told covered e = rw (← covered) e

-- the caller of a frame, by what covers it
pub caller_found : (section : List ℕ) (image : Program) (bytes : ℕ → Option ℕ) (frame : Context) (found : Result (Option Rules) FrameFault) (caller : Option Context)
    → found ≡ rules_of section frame.lookup → caller ≡ caller_by image bytes frame found → caller ≡ caller_of section image bytes frame
unfolding caller_of
caller_found section image bytes frame found caller covered e = rw (← covered) e

-- the innermost frame has a caller exactly where there is a second frame
pub same_second : (section : List ℕ) (image : Program) (registers : ℕ → ℕ) (bytes : ℕ → Option ℕ) (frame : Context) (found : Result (Option Rules) FrameFault) (caller : Option Context)
    → frame ≡ innermost registers → found ≡ rules_of section frame.lookup → caller ≡ caller_by image bytes frame found
    → is_some caller ≡ is_some (slice_get (frames_of section image registers bytes) 1)
same_second section image registers bytes frame found caller own covered e =
    ap is_some (caller_found section image bytes frame found caller covered e ∙ ap (caller_of section image bytes) own) ∙ is_second section image registers bytes

own_called : (section : List ℕ) (image : Program) (registers : ℕ → ℕ) (bytes : ℕ → Option ℕ) (outer : Context) (cfa : ℕ)
    → caller_of section image bytes (innermost registers) ≡ Some outer → own_cfa section registers ≡ Some cfa
    → Some (record { cfa = cfa; return_address = outer.pc }) ≡ own_caller section image registers bytes
unfolding own_caller
own_called section image registers bytes outer cfa e f = rw (e, f) refl

own_cfa_is : (section : List ℕ) (registers : ℕ → ℕ) (frame : Context) (found : Result (Option Rules) FrameFault)
    → frame ≡ innermost registers → found ≡ rules_of section frame.lookup → own_cfa section registers ≡ cfa_by frame.registers found
unfolding frame_of
own_cfa_is section registers frame found own covered = rw (covered, own) refl

-- where the innermost frame goes on
pub goes_to : (section : List ℕ) (image : Program) (registers : ℕ → ℕ) (bytes : ℕ → Option ℕ) (frame outer : Context) (found : Result (Option Rules) FrameFault) (caller : Option Context) (cfa : ℕ)
    → frame ≡ innermost registers → found ≡ rules_of section frame.lookup → caller ≡ caller_by image bytes frame found → caller ≡ Some outer
    → cfa_by frame.registers found ≡ Some cfa → Some (record { cfa = cfa; return_address = outer.pc }) ≡ own_caller section image registers bytes
goes_to section image registers bytes frame outer found caller cfa own covered e is f =
    own_called section image registers bytes outer cfa (sym (caller_found section image bytes frame found caller covered e ∙ ap (caller_of section image bytes) own) ∙ is)
    (own_cfa_is section registers frame found own covered ∙ f)

-- before the first step
pub begins : (section : List ℕ) (image : Program) (registers : ℕ → ℕ) (bytes : ℕ → Option ℕ) (frame : Context) (items : List Frame)
    → frame ≡ innermost registers → length items ≡ 0 → items ++ map (frame_of section) (contexts_from section image bytes 63 frame) ≡ frames_of section image registers bytes
unfolding frames_of
begins section image registers bytes frame [] own empty = ap (λ (x : Context). map (frame_of section) (contexts_from section image bytes 63 x)) own
begins section image registers bytes frame (x ∷ xs) own empty = absurd (omega arith)

-- the walk's end
pub ended : (section : List ℕ) (image : Program) (registers : ℕ → ℕ) (bytes : ℕ → Option ℕ) (items : List Frame)
    → items ≡ frames_of section image registers bytes → Frames section image registers bytes items
ended section image registers bytes items e = let P : List Frame → Type 0 = Frames section image registers bytes in subst P (sym e) (are_frames section image registers bytes)
