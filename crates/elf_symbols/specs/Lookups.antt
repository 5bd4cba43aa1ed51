-- The tables of the look-ups: the entries by name, and the functions by address, each in order.
use Rattle.std.specs.Prelude.{◌≡◌, ℕ, ◌<◌, ◌≤◌, ◌==◌, Bool, true, List, ◌∷◌, length, filter, Option, None, Some, is_some, if◌then◌else◌}
use Rattle.std.specs.Ordering.{nat_cmp}
use Rattle.std.specs.Cmp.Lexicographic.{slice_cmp}
use Rattle.std.specs.BTreeMap as tree
use Rattle.std.specs.BTreeMap.{BTreeMap}
use Rattle.std.specs.Global.{Vec}
use Rattle.elf_symbols.specs.Names.{best, better}
use Rattle.elf_symbols.specs.Entries.{entry_named, entry_preferred, entry_nearer}
use Rattle.elf_symbols.specs.declared.entry.SymbolEntry.{SymbolEntry}

-- what a table has at a name
abbrev pub at_name : BTreeMap (Vec ℕ) SymbolEntry → List ℕ → Option SymbolEntry
at_name table name = tree.get_by (λ k. slice_cmp nat_cmp name k.items) table

-- what a table has at an address
abbrev pub at_address : BTreeMap ℕ SymbolEntry → ℕ → Option SymbolEntry
at_address table addr = tree.get nat_cmp table addr

abbrev pub begins_at : ℕ → SymbolEntry → Bool
begins_at addr e = e.address == addr

-- a name of more than 40 bytes, or none
abbrev pub IsLong : Option (List ℕ) → Type 0
IsLong None = Unit {0}
IsLong (Some name) = 40 < length name

-- each name of 1 to 40 bytes has the preferred one of its entries
abbrev pub IsNameTable : List ℕ → List SymbolEntry → BTreeMap (Vec ℕ) SymbolEntry → Type 0
IsNameTable strings symbols table =
    (b : ℕ) (bs : List ℕ) → length (b ∷ bs) ≤ 40 → at_name table (b ∷ bs) ≡ best entry_preferred (filter (entry_named strings (b ∷ bs)) symbols)

-- each address has the nearest one of the functions that begin there
abbrev pub IsAddressTable : List ℕ → List SymbolEntry → BTreeMap ℕ SymbolEntry → Type 0
IsAddressTable strings functions table =
    (addr : ℕ) → at_address table addr ≡ best (entry_nearer strings) (filter (begins_at addr) functions)

-- an entry more, in a table of names
abbrev pub AddsName : List ℕ → SymbolEntry → BTreeMap (Vec ℕ) SymbolEntry → BTreeMap (Vec ℕ) SymbolEntry → Type 0
AddsName strings e old new =
    (b : ℕ) (bs : List ℕ) → length (b ∷ bs) ≤ 40 → at_name new (b ∷ bs) ≡ (if entry_named strings (b ∷ bs) e then better entry_preferred (at_name old (b ∷ bs)) e else at_name old (b ∷ bs))

-- a function more, in a table of addresses
abbrev pub AddsAddress : List ℕ → SymbolEntry → BTreeMap ℕ SymbolEntry → BTreeMap ℕ SymbolEntry → Type 0
AddsAddress strings e old new =
    (addr : ℕ) → at_address new addr ≡ (if begins_at addr e then better (entry_nearer strings) (at_address old addr) e else at_address old addr)

-- the greatest address of a table that isn't above another has this entry
pub record IsGreatest (table : BTreeMap ℕ SymbolEntry) (addr key : ℕ) (e : SymbolEntry) : Type 0 where
  pub within : key ≤ addr
  pub found : at_address table key ≡ Some e
  pub others : (q : ℕ) → q ≤ addr → is_some (at_address table q) ≡ true → q ≤ key

-- what is found at the greatest address that isn't above another
abbrev pub FindsBefore : BTreeMap ℕ SymbolEntry → ℕ → Option SymbolEntry → Type 0
FindsBefore table addr None = (q : ℕ) → q ≤ addr → at_address table q ≡ None
FindsBefore table addr (Some e) = (key : ℕ) × IsGreatest table addr key e
