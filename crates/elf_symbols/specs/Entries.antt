-- The entries of a symbol table (gABI, Symbol Table).
use Rattle.std.specs.Prelude.{ℕ, ◌+◌, ◌/◌, ◌%◌, ◌==◌, nat_le, ◌&&◌, not, Bool, false, List, [], ◌∷◌, length, map, filter, find, Option, None, Some, unwrap_or, slice_get, slice_index, option_and_then, if◌then◌else◌}
use Rattle.std.specs.Option.{option_map_or}
use Rattle.elf32_read.specs.Fields.{u16_at, u32_at, name_at, entries}
use Rattle.elf32_read.specs.Program.{Program, Section, in_text}
use Rattle.std.specs.Str.{bytes_eq}
use Rattle.elf_symbols.specs.Names.{Symbol, Names, is_preferred, is_nearer}
use Rattle.elf_symbols.specs.declared.entry.SymbolEntry.{SymbolEntry}

abbrev pub symbol_entry : List ℕ → ℕ → SymbolEntry
symbol_entry bytes at =
    record {
      name = u32_at bytes at;
      address = u32_at bytes (at + 4);
      size = u32_at bytes (at + 8);
      kind = slice_index bytes (at + 12) % 16;
      section = u16_at bytes (at + 14);
    }

-- SHT_SYMTAB
abbrev pub is_symbol_table : Section → Bool
is_symbol_table s = s.kind == 2

-- the first symbol table
abbrev pub symbol_table : Program → Option Section
symbol_table p = find is_symbol_table p.sections

-- what stands in a string table (SHT_STRTAB), and nothing in place of another section
abbrev pub strings_of : Section → List ℕ
strings_of s = if s.kind == 3 then s.bytes else []

-- the strings of the symbol table
abbrev pub symbol_names : Program → List ℕ
symbol_names p = option_map_or strings_of (option_and_then (λ s. slice_get p.sections s.link) (symbol_table p)) []

-- the whole entries of the symbol table
abbrev pub symbol_bytes : Program → List ℕ
symbol_bytes p = option_map_or (λ s. s.bytes) (symbol_table p) []

abbrev pub all_entries : List ℕ → List SymbolEntry
all_entries bytes = entries (symbol_entry bytes) 0 16 (length bytes / 16)

-- neither empty nor a mapping symbol of the psABI, which begins with `$`
abbrev pub is_proper : Option (List ℕ) → Bool
is_proper None = false
is_proper (Some []) = false
is_proper (Some (b ∷ bs)) = not (b == 36)

-- STT_NOTYPE, STT_OBJECT or STT_FUNC of a section, with a proper name
abbrev pub is_counted : List ℕ → SymbolEntry → Bool
is_counted strings e = (nat_le e.kind 2 && not (e.section == 0)) && is_proper (name_at strings e.name)

abbrev pub symbol_of : List ℕ → SymbolEntry → Symbol
symbol_of strings e =
    record { name = unwrap_or (name_at strings e.name) []; address = e.address; size = e.size; is_function = e.kind == 2 }

abbrev pub counted : Program → List SymbolEntry
counted p = filter (is_counted (symbol_names p)) (all_entries (symbol_bytes p))

abbrev pub is_code : Program → SymbolEntry → Bool
is_code p e = (e.kind == 2) && in_text p e.address

-- symbols and functions by their entries
abbrev pub names_by : List ℕ → List SymbolEntry → List SymbolEntry → Names
names_by strings symbols functions =
    record { symbols = map (symbol_of strings) symbols; functions = map (symbol_of strings) functions }

-- the symbols of a program
abbrev pub names_of : Program → Names
names_of p = names_by (symbol_names p) (counted p) (filter (is_code p) (counted p))

-- the orders of symbols and their names' test, over entries
abbrev pub entry_preferred : SymbolEntry → SymbolEntry → Bool
entry_preferred a b = is_preferred (symbol_of [] a) (symbol_of [] b)

abbrev pub entry_nearer : List ℕ → SymbolEntry → SymbolEntry → Bool
entry_nearer strings a b = is_nearer (symbol_of strings a) (symbol_of strings b)

abbrev pub entry_named : List ℕ → List ℕ → SymbolEntry → Bool
entry_named strings name e = option_map_or (bytes_eq name) (name_at strings e.name) false

abbrev pub begins_by : ℕ → SymbolEntry → Bool
begins_by addr e = nat_le e.address addr
