-- The frames of a hart (DWARF 5, section 6.4; GDB manual, "Stack frames").
use Rattle.std.specs.Prelude.{◌≡◌, ℕ, ◌+◌, ◌<◌, ◌≤◌, zero, suc, List, [], ◌∷◌, length, map, slice_get, Option, None, Some, option_and_then}
use Rattle.std.specs.Option.{option_map, option_map_or}
use Rattle.std.specs.List.{range_with_len}
use Rattle.elf32_read.specs.Program.{Program}
use Rattle.dwarf_frames.specs.Rules.{rules_of}
use Rattle.frame_walk.specs.declared.context.Context.{Context}
use Rattle.frame_walk.specs.declared.frame.Frame.{Frame}
use Rattle.frame_walk.specs.declared.frame.Caller.{Caller}
use Rattle.frame_walk.specs.Caller.{cfa_by, caller_by}

-- x0 to x31
unfoldable pub integer_registers : (ℕ → ℕ) → List ℕ
integer_registers registers = map registers (range_with_len 0 32)

-- what the hart is in: its own registers, looked up at its pc
abbrev pub innermost : (ℕ → ℕ) → Context
innermost registers = record {
  pc = registers 32;
  lookup = registers 32;
  registers = integer_registers registers;
  inner_cfa = None;
}

-- what is told of a frame
unfoldable pub frame_of : List ℕ → Context → Frame
frame_of section frame = record {
  pc = frame.pc;
  lookup = frame.lookup;
  cfa = cfa_by frame.registers (rules_of section frame.lookup);
}

-- the frame that called a frame
unfoldable pub caller_of : List ℕ → Program → (ℕ → Option ℕ) → Context → Option Context
caller_of section image bytes frame = caller_by image bytes frame (rules_of section frame.lookup)

-- The frames of a hart: the first is the hart's own, and each other one called the one before it. Frame k + 1 is there exactly where
-- k is below 63 and frame k has a caller.
pub record Frames (section : List ℕ) (image : Program) (registers : ℕ → ℕ) (bytes : ℕ → Option ℕ) (frames : List Frame) : Type 0 where
  pub contexts : List Context
  pub told : frames ≡ map (frame_of section) contexts
  pub first : slice_get contexts 0 ≡ Some (innermost registers)
  pub next : (k : ℕ) → k < 63 → slice_get contexts (k + 1) ≡ option_and_then (caller_of section image bytes) (slice_get contexts k)
  pub few : length contexts ≤ 64

-- a frame and those above it, of which there are at most as many as given
unfoldable pub contexts_from : List ℕ → Program → (ℕ → Option ℕ) → ℕ → Context → List Context
contexts_from section image bytes zero frame = frame ∷ []
contexts_from section image bytes (suc more) frame =
    frame ∷ option_map_or (contexts_from section image bytes more) (caller_of section image bytes frame) []

-- the one list of frames of a hart
unfoldable pub frames_of : List ℕ → Program → (ℕ → ℕ) → (ℕ → Option ℕ) → List Frame
frames_of section image registers bytes = map (frame_of section) (contexts_from section image bytes 63 (innermost registers))

-- the CFA of a hart's own frame
abbrev pub own_cfa : List ℕ → (ℕ → ℕ) → Option ℕ
own_cfa section registers = (frame_of section (innermost registers)).cfa

-- the CFA of a hart's own frame and the address that it returns to, where it has a caller
unfoldable pub own_caller : List ℕ → Program → (ℕ → ℕ) → (ℕ → Option ℕ) → Option Caller
own_caller section image registers bytes =
    option_and_then (λ c. option_map (λ cfa. record { cfa = cfa; return_address = c.pc }) (own_cfa section registers)) (caller_of section image bytes (innermost registers))
