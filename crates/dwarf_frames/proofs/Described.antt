-- The rules at a place, by what the CIE gives.
use Rattle.std.proofs.Common.{◌≡◌, ℕ, List, [], Option, Some, Result, Ok, Err, refl, sym, ◌∙◌, ap}
use Rattle.dwarf_frames.specs.Reading.{◌>>=◌}
use Rattle.dwarf_frames.specs.Entries.{Cie, Fde, covering, entries, fde_at}
use Rattle.dwarf_frames.specs.Index.{fde_told}
use Rattle.dwarf_frames.specs.Marks.{fold_until, rules_until, state_until}
use Rattle.dwarf_frames.specs.Operations.{operations}
use Rattle.dwarf_frames.specs.Rules.{described, named_cie, rules_by, rules_of}
use Rattle.dwarf_frames.specs.Starts.{Start, start_at, start_of}
use Rattle.dwarf_frames.specs.Table.{State, first_rules, fold_operations}
use Rattle.dwarf_frames.specs.declared.fault.FrameFault.{FrameFault}
use Rattle.dwarf_frames.specs.declared.rules.Rules.{Rules}

-- the rules at pc of an FDE, by what its CIE gives
abbrev pub rules_behind : Result Start FrameFault → Fde → ℕ → Result (Option Rules) FrameFault
rules_behind start d pc = do
  s ← start
  rules ← rules_until s d pc
  Ok (Some rules)

by_cie : (c : Cie) (d : Fde) (pc : ℕ) → (rules_by c d pc >>= (λ rules. Ok (Some rules))) ≡ rules_behind (start_of c) d pc
unfolding rules_by start_of state_until
by_cie c d pc = by_state (fold_operations (first_rules c.return_column) (record { rules = first_rules c.return_column; remembered = [] }) (operations c.factors c.program))
  where
    by_state : (r : Result State FrameFault)
        → ((r >>= (λ (s : State). fold_until s.rules pc s d.initial_location (operations c.factors d.program) >>= (λ (t : State). Ok t.rules))) >>= (λ (rules : Rules). Ok (Some rules)))
        ≡ rules_behind (r >>= (λ (s : State). Ok (record { factors = c.factors; state = s }))) d pc
    by_state (Err e) = refl
    by_state (Ok s) = refl

-- by what is told of the FDE
pub rules_told : (kept shown : List ℕ) (pc : ℕ) (place : Result (Option ℕ) FrameFault) (d : Result (Option Fde) FrameFault) → kept ≡ shown
    → fde_told kept place ≡ covering pc (entries kept) → fde_told kept place ≡ d → rules_of shown pc ≡ (d >>= described kept pc)
unfolding rules_of
rules_told kept shown pc place d k t f = ap (λ (bytes : List ℕ). rules_of bytes pc) (sym k) ∙ ap (λ (r : Result (Option Fde) FrameFault). r >>= described kept pc) (sym t ∙ f)

pub described_by : (section : List ℕ) (pc : ℕ) (d : Fde) → described section pc (Some d) ≡ rules_behind (start_at section d.cie_pointer) d pc
unfolding start_at
described_by section pc d = by_name (named_cie section d.cie_pointer)
  where
    by_name : (r : Result Cie FrameFault)
        → (r >>= (λ (c : Cie). rules_by c d pc >>= (λ (rules : Rules). Ok (Some rules)))) ≡ rules_behind (r >>= start_of) d pc
    by_name (Err e) = refl
    by_name (Ok c) = by_cie c d pc

pub rules_at_fde : (kept shown : List ℕ) (pc place : ℕ) (told : Option ℕ) (d : Fde) (start : Result Start FrameFault) → kept ≡ shown
    → fde_told kept (Ok told) ≡ covering pc (entries kept) → told ≡ Some place → fde_at kept place ≡ Ok (Some d) → start_at kept d.cie_pointer ≡ start
    → rules_of shown pc ≡ rules_behind start d pc
rules_at_fde kept shown pc place told d start k t o f s =
    rules_told kept shown pc (Ok told) (Ok (Some d)) k t (ap (λ (p : Option ℕ). fde_told kept (Ok p)) o ∙ f) ∙ described_by kept pc d ∙ ap (λ (r : Result Start FrameFault). rules_behind r d pc) s

pub rules_from_fde : (kept shown : List ℕ) (pc place : ℕ) (told : Option ℕ) (d : Fde) (s : Start) (rules : Result Rules FrameFault) → kept ≡ shown
    → fde_told kept (Ok told) ≡ covering pc (entries kept) → told ≡ Some place → fde_at kept place ≡ Ok (Some d) → start_at kept d.cie_pointer ≡ Ok s → rules ≡ rules_until s d pc
    → rules_of shown pc ≡ (rules >>= (λ (r : Rules). Ok (Some r)))
rules_from_fde kept shown pc place told d s rules k t o f st u =
    rules_at_fde kept shown pc place told d (Ok s) k t o f st ∙ ap (λ (r : Result Rules FrameFault). r >>= (λ (r : Rules). Ok (Some r))) (sym u)
