-- The steps of the loops that read lists.
use Rattle.std.proofs.Common.{◌≡◌, ℕ, suc, ◌+◌, ◌-◌, ◌<◌, Bool, List, [], ◌∷◌, ◌++◌, length, refl, arith, ◌∙◌, ap, sym, append_assoc, subst, Option, Some}
use Rattle.std.proofs.lemmas.List.{length_push}
use Rattle.std.specs.Prelude.{Ok, Err}
use Rattle.line_rows.specs.Reading.{Reading}
use Rattle.leb_read.specs.Reading.{◌>>=◌, read_map}
use Rattle.line_headers.specs.Texts.{Texts}
use Rattle.line_headers.specs.Names.{names_at, entry_then}
use Rattle.line_headers.specs.Names as names
use Rattle.line_headers.specs.Entries.{entries_at, entry_at, field_at, fields_at}
use Rattle.line_headers.specs.declared.places.NamePlace.{NamePlace}
use Rattle.line_headers.specs.declared.places.NamePlace.TheVariants as place
use Rattle.line_headers.specs.declared.formats.Field.{Field}
use Rattle.line_headers.specs.Gives.{Finds, Gives}
use Rattle.line_rows.specs.declared.fault.LineFault.{LineFault}
use Rattle.line_rows.specs.declared.fault.LineError.{LineError}
use Rattle.line_rows.specs.declared.fault.LineError.TheVariants as error

-- what is read behind a list
abbrev pub behind : {A : Type 0} → List A → Reading (List A) → Reading (List A)
behind xs read = read_map (λ rest. xs ++ rest) read

pub behind_more : {A : Type 0} → (xs : List A) (x : A) (read : Reading (List A)) → behind xs (read_map (λ rest. x ∷ rest) read) ≡ behind (xs ++ x ∷ []) read
behind_more xs x (Ok r) = ap (λ rest. Ok (rest, r.1)) (sym (append_assoc xs (x ∷ []) r.0))
behind_more xs x (Err e) = refl

-- one of n fewer
left : (n k : ℕ) → k < n → n - k ≡ suc (n - (k + 1))
left n k h = omega arith

pub fields_more : (n k : ℕ) (bytes : List ℕ) (at : ℕ) → k < n
    → fields_at (n - k) bytes at ≡ (field_at bytes at >>= (λ field. read_map (λ fields. field.0 ∷ fields) (fields_at (n - (k + 1)) bytes field.1)))
fields_more n k bytes at h = ap (λ m. fields_at m bytes at) (left n k h)

pub entries_more : (texts : Texts) (fields : List Field) (n k : ℕ) (bytes : List ℕ) (at : ℕ) → k < n
    → entries_at texts fields (n - k) bytes at
    ≡ (entry_at texts fields place.Empty bytes at >>= (λ name. read_map (λ names. name.0 ∷ names) (entries_at texts fields (n - (k + 1)) bytes name.1)))
entries_more texts fields n k bytes at h = ap (λ m. entries_at texts fields m bytes at) (left n k h)

pub names_more : (is_file : Bool) (n k : ℕ) (bytes : List ℕ) (at : ℕ) → k < n
    → names_at is_file (n - k) bytes at
    ≡ (names.entry_at is_file bytes at >>= (λ entry. entry_then entry.0 entry.1 (names_at is_file (n - (k + 1)) bytes entry.1)))
names_more is_file n k bytes at h = ap (λ m. names_at is_file m bytes at) (left n k h)

-- a fault that is met behind a list
pub then_fault : {A B : Type 0} (xs : List A) (whole others : Reading (List A)) (one : Reading B) (next : B × ℕ → Reading (List A)) (e : LineFault)
    → whole ≡ behind xs others → others ≡ (one >>= next) → one ≡ Err e → whole ≡ Err e
then_fault {A} {B} xs whole others one next e p q r = p ∙ ap (behind xs) (q ∙ ap (λ (o : Reading B). o >>= next) r)

-- the same with want of memory
pub gives_err : {A B : Type 0} (xs : List A) (whole others : Reading (List A)) (one : Reading B) (next : B × ℕ → Reading (List A)) (e : LineError)
    → whole ≡ behind xs others → others ≡ (one >>= next) → Finds (Err e) one → Gives (Err e) whole
gives_err xs whole others one next (error.Fault f) p q r = then_fault xs whole others one next f p q r
gives_err xs whole others one next error.NoMemory p q r = tt

-- a value that is read behind a list
pub then_value : {A : Type 0} (xs : List A) (whole others : Reading (List A)) (one : Reading A) (more : ℕ → Reading (List A)) (value : A) (next : ℕ)
    → whole ≡ behind xs others → others ≡ (one >>= (λ v. read_map (λ ys. v.0 ∷ ys) (more v.1))) → one ≡ Ok (value, next)
    → whole ≡ behind (xs ++ value ∷ []) (more next)
then_value {A} xs whole others one more value next p q r =
    p ∙ ap (behind xs) (q ∙ ap (λ (o : Reading A). o >>= (λ v. read_map (λ ys. v.0 ∷ ys) (more v.1))) r) ∙ behind_more xs value (more next)

-- a name that is read behind the names of a table
pub then_name : (is_file : Bool) (n : ℕ) (bytes : List ℕ) (xs ys : List NamePlace) (at next : ℕ) (name : NamePlace) (entry : Option NamePlace) (whole : Reading (List NamePlace))
    → whole ≡ behind xs (names_at is_file (n - length xs) bytes at) → length xs < n → names.entry_at is_file bytes at ≡ Ok (entry, next) → entry ≡ Some name
    → ys ≡ xs ++ name ∷ [] → whole ≡ behind ys (names_at is_file (n - length ys) bytes next)
then_name is_file n bytes xs ys at next name entry whole same room read is pushed =
    let found : names.entry_at is_file bytes at ≡ Ok (Some name, next) = read ∙ ap (λ (o : Option NamePlace). Ok (o, next)) is in
    let further : whole ≡ behind (xs ++ name ∷ []) (names_at is_file (n - (length xs + 1)) bytes next) =
    same
    ∙ ap (behind xs) (names_more is_file n (length xs) bytes at room ∙ ap (λ (o : Reading (Option NamePlace)). o >>= (λ e. entry_then e.0 e.1 (names_at is_file (n - (length xs + 1)) bytes e.1))) found)
    ∙ behind_more xs name (names_at is_file (n - (length xs + 1)) bytes next) in
    let size : length xs + 1 ≡ length ys = sym (ap length pushed ∙ length_push xs name) in
    subst (λ (m : ℕ). whole ≡ behind ys (names_at is_file (n - m) bytes next)) size
    (subst (λ (zs : List NamePlace). whole ≡ behind zs (names_at is_file (n - (length xs + 1)) bytes next)) (sym pushed) further)
