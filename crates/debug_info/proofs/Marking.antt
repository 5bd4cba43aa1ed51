-- Marks of the entries that were read: each entry is read again as it was.
use Rattle.debug_info.proofs.Words.{◌≡◌, ◌<◌, ◌≤◌, ◌+◌, ◌-◌, ◌++◌, ℕ, Bool, false, List, [], ◌∷◌, length, map, Option, None, Some, Result, Err, refl, arith, sym, ◌∙◌, ap, IfSome, nat_lt, ◌==◌, ◌||◌, if◌then◌else◌, nat_tests, map-append}
use Rattle.debug_info.proofs.Words.{IsLevel, entries_from, entry_at, entry_list, level_behind, AreMarks, AreReread, entry_in, mark_of, reread, found, Entry, InfoFault, Mark}
use Rattle.debug_info.proofs.Specified.{Reading, reading_end, reading_fault, reading_next, reading_start}

read_again : (abbrevs strs info : List ℕ) (table unit level at next : ℕ) (e : Entry) → unit ≤ at → at ≤ length info → entry_at abbrevs strs info table unit level at ≡ found (Some e) next
    → e.level ≡ level + 1 → e.level ≤ 64 → e.offset ≡ at - unit → reread abbrevs strs info table unit (mark_of e) ≡ Some e
read_again abbrevs strs info table unit level at next e h within read is most place =
    let some : (e.level == 0) ≡ false = grind (arith, nat_tests) in
    let few : nat_lt 64 e.level ≡ false = grind (arith, nat_tests) in
    let here : unit + e.offset ≡ at = omega arith in
    let inside : nat_lt (length info) (unit + e.offset) ≡ false = grind (arith, nat_tests) in
    let below : e.level - 1 ≡ level = omega arith in
    let test : (((e.level == 0) || nat_lt 64 e.level) || nat_lt (length info) (unit + e.offset)) ≡ false = rw (some, few, inside) refl in
    ap (λ (b : Bool). if b then None else entry_in (entry_at abbrevs strs info table unit (e.level - 1) (unit + e.offset))) test
    ∙ ap (λ (n : ℕ). entry_in (entry_at abbrevs strs info table unit n (unit + e.offset))) below
    ∙ ap (λ (p : ℕ). entry_in (entry_at abbrevs strs info table unit level p)) here
    ∙ ap entry_in read

some_again : (abbrevs strs info : List ℕ) (table unit level at next : ℕ) (o : Option Entry) → unit ≤ at → at ≤ length info → entry_at abbrevs strs info table unit level at ≡ found o next
    → IfSome o (λ e. e.level ≡ level + 1) → IfSome o IsLevel → IfSome o (λ e. e.offset ≡ at - unit) → IfSome o (λ e. reread abbrevs strs info table unit (mark_of e) ≡ Some e)
some_again abbrevs strs info table unit level at next None h within read is deep place = tt
some_again abbrevs strs info table unit level at next (Some e) h within read is deep place = read_again abbrevs strs info table unit level at next e h within read is deep.most place

again_more : (abbrevs strs info : List ℕ) (table unit : ℕ) (es : List Entry) (o : Option Entry) → AreReread abbrevs strs info table unit es → IfSome o (λ e. reread abbrevs strs info table unit (mark_of e) ≡ Some e)
    → AreReread abbrevs strs info table unit (es ++ entry_list o)
again_more abbrevs strs info table unit [] None all is = tt
again_more abbrevs strs info table unit [] (Some e) all is = (is, tt)
again_more abbrevs strs info table unit (x ∷ es) o all is = (all.0, again_more abbrevs strs info table unit es o all.1 is)

-- the marks of the entries that were read
pub record Marked (whole : Result (List Entry) InfoFault) (abbrevs strs info : List ℕ) (table unit : ℕ) (marks : List Mark) (level at : ℕ) : Type 0 where
  pub entries : List Entry
  pub reading : Reading whole abbrevs strs info table unit entries level at
  pub kept : marks ≡ map mark_of entries
  pub again : AreReread abbrevs strs info table unit entries

pub marked_start : (abbrevs strs info : List ℕ) (table unit at : ℕ) (marks : List Mark) → at ≤ length info → marks ≡ []
    → Marked (entries_from (length info + 1) abbrevs strs info table unit 0 at) abbrevs strs info table unit marks 0 at
marked_start abbrevs strs info table unit at marks h none = record { entries = []; reading = reading_start abbrevs strs info table unit at h; kept = none; again = tt }

pub marked_fault : (whole : Result (List Entry) InfoFault) (abbrevs strs info : List ℕ) (table unit : ℕ) (marks : List Mark) (level at : ℕ) (e : InfoFault)
    → at < length info → entry_at abbrevs strs info table unit level at ≡ Err e → Marked whole abbrevs strs info table unit marks level at → whole ≡ Err e
marked_fault whole abbrevs strs info table unit marks level at e h read m = reading_fault whole abbrevs strs info table unit m.entries level at e h read m.reading

pub marked_next : (whole : Result (List Entry) InfoFault) (abbrevs strs info : List ℕ) (table unit : ℕ) (marks pushed : List Mark) (level at behind next : ℕ) (entry : Option Entry)
    → unit ≤ at → at < length info → entry_at abbrevs strs info table unit level at ≡ found entry next → at < next → next ≤ length info → behind ≡ level_behind level entry
    → IfSome entry (λ e. e.level ≡ level + 1) → IfSome entry IsLevel → IfSome entry (λ e. e.offset ≡ at - unit) → pushed ≡ marks ++ map mark_of (entry_list entry)
    → Marked whole abbrevs strs info table unit marks level at → Marked whole abbrevs strs info table unit pushed behind next
marked_next whole abbrevs strs info table unit marks pushed level at behind next entry h within read later end deep is levels place push m = record {
  entries = m.entries ++ entry_list entry;
  reading = reading_next whole abbrevs strs info table unit m.entries (m.entries ++ entry_list entry) level at behind next entry within read later end deep refl m.reading;
  kept = push ∙ ap (λ (ms : List Mark). ms ++ map mark_of (entry_list entry)) m.kept ∙ sym (map-append mark_of m.entries (entry_list entry));
  again = again_more abbrevs strs info table unit m.entries entry m.again (some_again abbrevs strs info table unit level at next entry h (omega arith) read is levels place);
}

pub marked_end : (whole : Result (List Entry) InfoFault) (abbrevs strs info : List ℕ) (table unit : ℕ) (marks kept : List Mark) (level at : ℕ) → length info ≤ at → kept ≡ marks
    → Marked whole abbrevs strs info table unit marks level at → AreMarks abbrevs strs info table unit kept whole
marked_end whole abbrevs strs info table unit marks kept level at h same m =
    record { entries = m.entries; read = reading_end whole abbrevs strs info table unit m.entries level at h m.reading; kept = same ∙ m.kept; again = m.again }
