-- The functions of one entry more, and those of a unit that was read.
use Rattle.debug_info.proofs.Words.{◌≡◌, ℕ, ◌+◌, ◌-◌, ◌<◌, ◌≤◌, ◌^◌, List, [], ◌∷◌, ◌++◌, length, Option, None, Some, Result, Ok, Err, refl, ap, ◌∙◌, sym, arith, IfSome, flat_map-append, AddressRange, entries_or_none, fault_at}
use Rattle.debug_info.proofs.Words.{faults_at, entries_from, entry_at, entry_list, level_behind, function_list, functions_in, functions_read, found, Entry, InfoFault, UnitFault}
use Rattle.debug_info.proofs.Specified.{Reading, reading_end, reading_fault, reading_next, reading_start}

-- the functions of the entries that were read
pub record Listed (whole : Result (List Entry) InfoFault) (abbrevs strs info : List ℕ) (table unit : ℕ) (listed : List (AddressRange ℕ)) (level at : ℕ) : Type 0 where
  pub entries : List Entry
  pub reading : Reading whole abbrevs strs info table unit entries level at
  pub functions : listed ≡ functions_in unit entries

pub listed_start : (abbrevs strs info : List ℕ) (table unit at : ℕ) (functions : List (AddressRange ℕ)) → at ≤ length info → functions ≡ []
    → Listed (entries_from (length info + 1) abbrevs strs info table unit 0 at) abbrevs strs info table unit functions 0 at
listed_start abbrevs strs info table unit at functions h none = record { entries = []; reading = reading_start abbrevs strs info table unit at h; functions = none }

pub listed_fault : (whole : Result (List Entry) InfoFault) (abbrevs strs info : List ℕ) (table unit : ℕ) (functions : List (AddressRange ℕ)) (level at : ℕ) (e : InfoFault)
    → at < length info → entry_at abbrevs strs info table unit level at ≡ Err e → Listed whole abbrevs strs info table unit functions level at → functions_read unit whole ≡ Err e
listed_fault whole abbrevs strs info table unit functions level at e h read c = ap (functions_read unit) (reading_fault whole abbrevs strs info table unit c.entries level at e h read c.reading)

pub listed_next : (whole : Result (List Entry) InfoFault) (abbrevs strs info : List ℕ) (table unit : ℕ) (functions pushed : List (AddressRange ℕ)) (level at behind next : ℕ) (entry : Option Entry)
    → at < length info → entry_at abbrevs strs info table unit level at ≡ found entry next → at < next → next ≤ length info → behind ≡ level_behind level entry → pushed ≡ functions ++ functions_in unit (entry_list entry)
    → Listed whole abbrevs strs info table unit functions level at → Listed whole abbrevs strs info table unit pushed behind next
listed_next whole abbrevs strs info table unit functions pushed level at behind next entry h read later within deep push c = record {
  entries = c.entries ++ entry_list entry;
  reading = reading_next whole abbrevs strs info table unit c.entries (c.entries ++ entry_list entry) level at behind next entry h read later within deep refl c.reading;
  functions = push ∙ ap (λ (fs : List (AddressRange ℕ)). fs ++ functions_in unit (entry_list entry)) c.functions ∙ sym (flat_map-append (function_list unit) c.entries (entry_list entry));
}

pub listed_end : (whole : Result (List Entry) InfoFault) (abbrevs strs info : List ℕ) (table unit : ℕ) (functions : List (AddressRange ℕ)) (level at : ℕ) → length info ≤ at
    → Listed whole abbrevs strs info table unit functions level at → functions_read unit whole ≡ Ok functions
listed_end whole abbrevs strs info table unit functions level at h c =
    ap (functions_read unit) (reading_end whole abbrevs strs info table unit c.entries level at h c.reading) ∙ ap (λ (fs : List (AddressRange ℕ)). Ok fs) (sym c.functions)

-- the place of an entry has 32 bits
pub is_short : (entry : Option Entry) (unit at : ℕ) → IfSome entry (λ e. e.offset ≡ at - unit) → unit ≤ at → at < 2 ^ 32 → IfSome entry (λ e. unit + e.offset < 2 ^ 32)
is_short None unit at is h k = tt
is_short (Some e) unit at is h k = (let place : unit + e.offset ≡ at = omega arith in omega arith)

-- what is kept of a unit that was read
pub given_functions : (at : ℕ) (read : Result (List Entry) InfoFault) (functions : List (AddressRange ℕ)) → functions_read at read ≡ Ok functions
    → ◌≡◌ {A = List (AddressRange ℕ) × List UnitFault} (functions, []) (functions_in at (entries_or_none read), faults_at at read)
given_functions at (Ok es) functions h = (let same : functions_in at es ≡ functions = cc in rw same refl)
given_functions at (Err e) functions h = absurd (cc)

pub given_fault : (at : ℕ) (read : Result (List Entry) InfoFault) (e : InfoFault) → functions_read at read ≡ Err e
    → ◌≡◌ {A = List (AddressRange ℕ) × List UnitFault} ([], fault_at at e ∷ []) (functions_in at (entries_or_none read), faults_at at read)
given_fault at (Ok es) e h = absurd (cc)
given_fault at (Err f) e h = (let same : f ≡ e = cc in rw same refl)
