-- The first symbol table of the sections.
use Rattle.std.proofs.Common.{◌≡◌, ℕ, zero, suc, Bool, true, false, List, [], ◌∷◌, drop, find, Option, None, Some, refl, sym, ◌∙◌, ap}
use Rattle.std.specs.Prelude.{◌==◌, slice_get, option_and_then}
use Rattle.std.specs.Option.{option_map, option_map_or}
use Rattle.elf32_read.specs.Program.{Section, Program}
use Rattle.elf32_read.specs.Views.{unnamed}
use Rattle.elf_symbols.specs.Entries.{is_symbol_table, symbol_table, symbol_bytes, symbol_names, strings_of}

same_kind : (x s : Section) (b : Bool) → Some (unnamed x) ≡ Some s → (s.kind == 2) ≡ b → (x.kind == 2) ≡ b
same_kind x s b e t = let inner : unnamed x ≡ s = cc in ap (λ (z : Section). z.kind == 2) inner ∙ t

at_drop : (xs : List Section) (k : ℕ) (s : Section) → option_map unnamed (slice_get xs k) ≡ Some s → (s.kind == 2) ≡ true
    → option_map unnamed (find is_symbol_table (drop k xs)) ≡ Some s
at_drop [] k s e t = cc
at_drop (x ∷ xs) zero s e t = rw (same_kind x s true e t) e
at_drop (x ∷ xs) (suc k) s e t = at_drop xs k s e t

-- the table is found at its place
pub table_found : (xs : List Section) (k : ℕ) (s : Section) → find is_symbol_table xs ≡ find is_symbol_table (drop k xs)
    → option_map unnamed (slice_get xs k) ≡ Some s → (s.kind == 2) ≡ true → Some s ≡ option_map unnamed (find is_symbol_table xs)
table_found xs k s i e t = sym (at_drop xs k s e t) ∙ ap (option_map unnamed) (sym i)

past_drop : (xs : List Section) (k : ℕ) (s : Section) → option_map unnamed (slice_get xs k) ≡ Some s → (s.kind == 2) ≡ false
    → find is_symbol_table (drop k xs) ≡ find is_symbol_table (drop (suc k) xs)
past_drop [] k s e t = cc
past_drop (x ∷ xs) zero s e t = rw (same_kind x s false e t) refl
past_drop (x ∷ xs) (suc k) s e t = past_drop xs k s e t

-- another section is passed over
pub table_past : (xs : List Section) (k j : ℕ) (s : Section) → j ≡ suc k → find is_symbol_table xs ≡ find is_symbol_table (drop k xs)
    → option_map unnamed (slice_get xs k) ≡ Some s → (s.kind == 2) ≡ false → find is_symbol_table xs ≡ find is_symbol_table (drop j xs)
table_past xs k j s next i e t = rw next (i ∙ past_drop xs k s e t)

some_table : (o : Option Section) (s : Section) → Some s ≡ option_map unnamed o → option_map_or (λ (z : Section). z.bytes) o [] ≡ s.bytes
some_table None s e = cc
some_table (Some x) s e = let inner : s ≡ unnamed x = cc in ap (λ (z : Section). z.bytes) (sym inner)

no_table : (o : Option Section) → None ≡ option_map unnamed o → o ≡ None
no_table None e = refl
no_table (Some x) e = cc

pub bytes_found : (p : Program) (s : Section) → Some s ≡ option_map unnamed (symbol_table p) → s.bytes ≡ symbol_bytes p
bytes_found p s e = sym (some_table (symbol_table p) s e)

pub no_bytes : (p : Program) → None ≡ option_map unnamed (symbol_table p) → [] ≡ symbol_bytes p
no_bytes p e = sym (ap (λ (o : Option Section). option_map_or (λ (z : Section). z.bytes) o []) (no_table (symbol_table p) e))

linked : (xs : List Section) (o : Option Section) (s : Section) → Some s ≡ option_map unnamed o
    → option_and_then (λ (z : Section). slice_get xs z.link) o ≡ slice_get xs s.link
linked xs None s e = cc
linked xs (Some x) s e = let inner : s ≡ unnamed x = cc in ap (λ (z : Section). slice_get xs z.link) (sym inner)

pub names_found : (p : Program) (s : Section) → Some s ≡ option_map unnamed (symbol_table p)
    → option_map_or strings_of (slice_get p.sections s.link) [] ≡ symbol_names p
names_found p s e = ap (λ (o : Option Section). option_map_or strings_of o []) (sym (linked p.sections (symbol_table p) s e))

pub no_names : (p : Program) → None ≡ option_map unnamed (symbol_table p) → [] ≡ symbol_names p
no_names p e =
    sym (ap (λ (o : Option Section). option_map_or strings_of (option_and_then (λ (z : Section). slice_get p.sections z.link) o) []) (no_table (symbol_table p) e))
