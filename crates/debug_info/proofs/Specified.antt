-- The loop over entries, and one value more of an attribute.
use Rattle.debug_info.proofs.Words.{◌≡◌, ◌<◌, ◌≤◌, ◌+◌, ◌++◌, ℕ, zero, suc, Bool, true, false, List, [], ◌∷◌, length, Option, Some, Result, Ok, Err, refl, arith, sym, ◌∙◌, ap, append-nil, append_assoc, nat_le, ◌==◌, if◌then◌else◌}
use Rattle.debug_info.proofs.Words.{nat_tests, ◌>>=◌, found, attributes_of, first_of, or_named, with_value, entries_from, entry_at, entry_list, in_front, level_behind, with_others, Entry, InfoFault, Value}

first_more : (code : ℕ) (done : List (ℕ × Value)) (name : ℕ) (v : Value) → or_named code (first_of code done) name v ≡ first_of code (done ++ (name, v) ∷ [])
first_more code [] name v = refl
first_more code (d ∷ ds) name v =
    elim (d.0 == code) as (λ b. or_named code (if b then Some d.1 else first_of code ds) name v ≡ (if b then Some d.1 else first_of code (ds ++ (name, v) ∷ []))) [
      | true ↦ refl
      | false ↦ first_more code ds name v
    ]

pub with_more : (done : List (ℕ × Value)) (name : ℕ) (v : Value) → with_value (attributes_of done) name v ≡ attributes_of (done ++ (name, v) ∷ [])
with_more done name v =
    let a = first_more 0x02 done name v in
    let b = first_more 0x03 done name v in
    let c = first_more 0x0B done name v in
    let d = first_more 0x11 done name v in
    let e = first_more 0x12 done name v in
    let f = first_more 0x3E done name v in
    let g = first_more 0x40 done name v in
    let h = first_more 0x49 done name v in
    cc

-- the entries that were read stand in front of those that may still come
pub record Reading (whole : Result (List Entry) InfoFault) (abbrevs strs info : List ℕ) (table unit : ℕ) (entries : List Entry) (level at : ℕ) : Type 0 where
  pub steps : ℕ
  pub enough : length info < at + steps
  pub within : at ≤ length info
  pub same : whole ≡ in_front entries (entries_from steps abbrevs strs info table unit level at)

nothing_in_front : (others : Result (List Entry) InfoFault) → others ≡ in_front [] others
nothing_in_front (Ok es) = refl
nothing_in_front (Err e) = refl

pub reading_start : (abbrevs strs info : List ℕ) (table unit at : ℕ) → at ≤ length info
    → Reading (entries_from (length info + 1) abbrevs strs info table unit 0 at) abbrevs strs info table unit [] 0 at
reading_start abbrevs strs info table unit at h = record {
  steps = length info + 1;
  enough = omega arith;
  within = h;
  same = nothing_in_front (entries_from (length info + 1) abbrevs strs info table unit 0 at);
}

from_end : (steps : ℕ) (abbrevs strs info : List ℕ) (table unit level at : ℕ) → length info ≤ at → entries_from steps abbrevs strs info table unit level at ≡ Ok []
from_end zero abbrevs strs info table unit level at h = refl
from_end (suc steps) abbrevs strs info table unit level at h = let past : nat_le (length info) at ≡ true = grind (arith, nat_tests) in rw past refl

pub reading_end : (whole : Result (List Entry) InfoFault) (abbrevs strs info : List ℕ) (table unit : ℕ) (entries : List Entry) (level at : ℕ) → length info ≤ at
    → Reading whole abbrevs strs info table unit entries level at → whole ≡ Ok entries
reading_end whole abbrevs strs info table unit entries level at h r =
    r.same ∙ ap (in_front entries) (from_end r.steps abbrevs strs info table unit level at h) ∙ ap (λ (es : List Entry). Ok es) (append-nil entries)

record Step (whole : Result (List Entry) InfoFault) (abbrevs strs info : List ℕ) (table unit : ℕ) (entries : List Entry) (level at : ℕ) : Type 0 where
  more : ℕ
  enough : length info ≤ at + more
  same : whole ≡ in_front entries (entry_at abbrevs strs info table unit level at >>= with_others level (entries_from more abbrevs strs info table unit))

step_from : (whole : Result (List Entry) InfoFault) (abbrevs strs info : List ℕ) (table unit : ℕ) (entries : List Entry) (level at steps : ℕ) → at < length info → length info < at + steps
    → whole ≡ in_front entries (entries_from steps abbrevs strs info table unit level at) → Step whole abbrevs strs info table unit entries level at
step_from whole abbrevs strs info table unit entries level at zero h enough same = absurd (omega arith)
step_from whole abbrevs strs info table unit entries level at (suc steps) h enough same =
    let within : nat_le (length info) at ≡ false = grind (arith, nat_tests) in
    record {
      more = steps;
      enough = omega arith;
      same = same ∙ ap (λ (b : Bool). in_front entries (if b then Ok [] else (entry_at abbrevs strs info table unit level at >>= with_others level (entries_from steps abbrevs strs info table unit)))) within;
    }

step : (whole : Result (List Entry) InfoFault) (abbrevs strs info : List ℕ) (table unit : ℕ) (entries : List Entry) (level at : ℕ) → at < length info
    → Reading whole abbrevs strs info table unit entries level at → Step whole abbrevs strs info table unit entries level at
step whole abbrevs strs info table unit entries level at h r = step_from whole abbrevs strs info table unit entries level at r.steps h r.enough r.same

pub reading_fault : (whole : Result (List Entry) InfoFault) (abbrevs strs info : List ℕ) (table unit : ℕ) (entries : List Entry) (level at : ℕ) (e : InfoFault) → at < length info
    → entry_at abbrevs strs info table unit level at ≡ Err e → Reading whole abbrevs strs info table unit entries level at → whole ≡ Err e
reading_fault whole abbrevs strs info table unit entries level at e h read r =
    let s = step whole abbrevs strs info table unit entries level at h r in
    s.same ∙ ap (λ x. in_front entries (x >>= with_others level (entries_from s.more abbrevs strs info table unit))) read

further : (front : List Entry) (list : List Entry) (others : Result (List Entry) InfoFault) → in_front front (in_front list others) ≡ in_front (front ++ list) others
further front list (Ok es) = ap (λ (xs : List Entry). Ok xs) (sym (append_assoc front list es))
further front list (Err e) = refl

pub reading_next : (whole : Result (List Entry) InfoFault) (abbrevs strs info : List ℕ) (table unit : ℕ) (entries pushed : List Entry) (level at behind next : ℕ) (entry : Option Entry) → at < length info
    → entry_at abbrevs strs info table unit level at ≡ found entry next → at < next → next ≤ length info → behind ≡ level_behind level entry → pushed ≡ entries ++ entry_list entry
    → Reading whole abbrevs strs info table unit entries level at → Reading whole abbrevs strs info table unit pushed behind next
reading_next whole abbrevs strs info table unit entries pushed level at behind next entry h read later within deep is r =
    let s = step whole abbrevs strs info table unit entries level at h r in
    record {
      steps = s.more;
      enough = (let x = s.enough in omega arith);
      within = within;
      same = s.same
          ∙ ap (λ x. in_front entries (x >>= with_others level (entries_from s.more abbrevs strs info table unit))) read
          ∙ further entries (entry_list entry) (entries_from s.more abbrevs strs info table unit (level_behind level entry) next)
          ∙ ap (λ (xs : List Entry). in_front xs (entries_from s.more abbrevs strs info table unit (level_behind level entry) next)) (sym is)
          ∙ ap (λ (n : ℕ). in_front pushed (entries_from s.more abbrevs strs info table unit n next)) (sym deep);
    }
