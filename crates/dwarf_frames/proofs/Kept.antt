-- What is kept of the entries that a walk has passed.
use Rattle.std.proofs.Common.{◌≡◌, ℕ, List, [], ◌++◌, Option, None, Some, Result, Ok, Err, refl, sym, append_assoc}
use Rattle.std.specs.Option.{option_map}
use Rattle.address_tables.specs.declared.entry.AddressRange.{AddressRange}
use Rattle.dwarf_frames.specs.Entries as entries
use Rattle.dwarf_frames.specs.Entries.{Entries, Then, fde_of}
use Rattle.dwarf_frames.specs.Gives.{GivesFde, seen_fde}
use Rattle.dwarf_frames.specs.Index.{cie_list, cie_places, fde_list, fde_ranges, first_fault}
use Rattle.dwarf_frames.specs.declared.entry.Fde.{Fde}
use Rattle.dwarf_frames.specs.declared.fault.FrameFault.{FrameFault}
use Rattle.dwarf_frames.proofs.Walk.{Reaches, reaches_start}

pub list_start : {X : Type 0} (list : Entries → List X) (items : List X) (section : List ℕ) → items ≡ [] → Reaches (list (entries.entries section)) (λ rest. items ++ list rest) section 0
list_start list items section e = rw e (reaches_start list section)

pub cies_here : (items more : List ℕ) (at : ℕ) (body : List ℕ) → more ≡ items ++ cie_list at body → (rest : Entries) → items ++ cie_places (Then at body rest) ≡ more ++ cie_places rest
cies_here items more at body e rest = rw e (sym (append_assoc items (cie_list at body) (cie_places rest)))

pub is_read : (fde : Option Fde) (read : Result (Option entries.Fde) FrameFault) → GivesFde (Ok fde) read → read ≡ Ok (option_map seen_fde fde)
is_read None read h = h
is_read (Some fde) read h = h

pub fdes_here : (items more : List (AddressRange ℕ)) (at : ℕ) (body : List ℕ) (fde : Option entries.Fde) → fde_of body ≡ Ok fde → more ≡ items ++ fde_list at fde
    → (rest : Entries) → items ++ fde_ranges (Then at body rest) ≡ more ++ fde_ranges rest
fdes_here items more at body fde f e rest = rw (f, e) (sym (append_assoc items (fde_list at fde) (fde_ranges rest)))

pub no_fault_here : (at : ℕ) (body : List ℕ) (fde : Option entries.Fde) → fde_of body ≡ Ok fde → (rest : Entries) → first_fault (Then at body rest) ≡ first_fault rest
no_fault_here at body fde f rest = rw f refl

pub fault_here : (at : ℕ) (body : List ℕ) (fault : FrameFault) → fde_of body ≡ Err fault → (rest : Entries) → first_fault (Then at body rest) ≡ Some fault
fault_here at body fault f rest = rw f refl
