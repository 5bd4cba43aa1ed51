-- The rules of the command, and the rows of uses.
use Rattle.std.proofs.Common.{◌≡◌, ℕ, Bool, true, false, true≢false, ◌&&◌, ◌||◌, List, [], ◌∷◌, ◌++◌, map, Option, Some, None, refl, sym, ap, ◌∙◌, codes, append-nil}
use Rattle.std.specs.Prelude.{if◌then◌else◌, cond}
use Rattle.std.specs.Str.{bytes_eq}
use Rattle.std.proofs.lemmas.Slice.Eq.{bytes_eq-Decides}
use Rattle.clap.specs.Walk.{Row, Rule, arg_by_id, arg_by_index, arg_by_long, arg_by_short, at_row, has_row, more_values, used, without}
use Rattle.clap.specs.Simple.{Shape, new_rule, new_shape}
use Rattle.clap.specs.Faults.{use_fault}
use Rattle.clap.specs.Kinds.{or_else}
use Rattle.clap.specs.declared.builder.ArgAction.TheVariants.{Set, SetTrue}
use Rattle.clap.specs.declared.builder.value_parser.ValueParser.TheVariants as vp
use Rattle.clap.specs.declared.builder.value_parser.Reading.TheVariants as reading
use Rattle.clap.specs.declared.parser.matches.ValueSource.TheVariants.{CommandLine}
use Rattle.clap.specs.declared.error.kind.ErrorKind.TheVariants as kind
use Rattle.dbg_words.specs.Command.{rvdbg}
use Rattle.dbg_words.specs.Uses.{Text, Use, file, log, set, is_given, is_name}

-- an argument that takes one value
abbrev pub one : Text → Option Text → Option ℕ → Rule
one id long index = record (new_rule id) {
  long = long;
  index = index;
  action = Some Set;
  parser = Some vp.String;
  range = Some (record { start_inclusive = 1; end_inclusive = 1 });
}

abbrev pub opt : Text → Rule
opt name = one name (Some name) None

abbrev pub file_one : Rule
file_one = one file None (Some 1)

abbrev pub flag_one : Rule
flag_one = record (new_rule log) {
  long = Some log;
  action = Some SetTrue;
  defaults = codes "false" ∷ [];
  missing = set ∷ [];
  parser = Some vp.Bool;
  range = Some (record { start_inclusive = 0; end_inclusive = 0 });
}

abbrev pub rules : List Text → List Rule
rules names = map opt names ++ flag_one ∷ file_one ∷ []

abbrev pub shape : List Text → Shape
shape names = record (new_shape (codes "rvdbg")) {
  rules = rules names;
  no_binary_name = true;
  disable_help_flag = true;
  disable_help_subcommand = true;
  is_built = true;
}

pub text_same : (s t : Text) → bytes_eq s t ≡ true → s ≡ t
text_same s t = (bytes_eq-Decides s t).0

pub text_own : (s : Text) → bytes_eq s s ≡ true
text_own s = (bytes_eq-Decides s s).1 refl

-- the option with this long name
abbrev pub long_rule : Text → Bool → Bool → Option Rule
long_rule name b c = if b then Some (opt name) else (if c then Some flag_one else None)

pub by_long : (names : List Text) (name : Text) → arg_by_long (rules names) name ≡ long_rule name (is_name names name) (bytes_eq log name)
by_long [] name = go (bytes_eq log name)
  where
    go : (b : Bool) → cond (b || false) (Some flag_one) None ≡ (if b then Some flag_one else None)
    go true = refl
    go false = refl
by_long (n ∷ ns) name = go (bytes_eq n name) refl (by_long ns name)
  where
    go : (b : Bool) → bytes_eq n name ≡ b → arg_by_long (rules ns) name ≡ long_rule name (is_name ns name) (bytes_eq log name)
        → cond (b || false) (Some (opt n)) (arg_by_long (rules ns) name) ≡ long_rule name (b || is_name ns name) (bytes_eq log name)
    go true e r = ap (λ t. Some (opt t)) (text_same n name e)
    go false e r = r

pub by_id : (names : List Text) (id : Text) → is_name names id ≡ true → arg_by_id (rules names) id ≡ Some (opt id)
by_id [] id h = absurd (true≢false (sym h))
by_id (n ∷ ns) id h = go (bytes_eq n id) refl h (by_id ns id)
  where
    go : (b : Bool) → bytes_eq n id ≡ b → (b || is_name ns id) ≡ true → (is_name ns id ≡ true → arg_by_id (rules ns) id ≡ Some (opt id)) → cond b (Some (opt n)) (arg_by_id (rules ns) id) ≡ Some (opt id)
    go true e k r = ap (λ t. Some (opt t)) (text_same n id e)
    go false e k r = r k

pub by_file : (names : List Text) → is_name names file ≡ false → arg_by_id (rules names) file ≡ Some file_one
by_file [] h = refl
by_file (n ∷ ns) h = go (bytes_eq n file) h (by_file ns)
  where
    go : (b : Bool) → (b || is_name ns file) ≡ false → (is_name ns file ≡ false → arg_by_id (rules ns) file ≡ Some file_one) → cond b (Some (opt n)) (arg_by_id (rules ns) file) ≡ Some file_one
    go true k r = absurd (true≢false k)
    go false k r = r k

pub by_short : (names : List Text) (x : ℕ) → arg_by_short (rules names) x ≡ None
by_short [] x = refl
by_short (n ∷ ns) x = by_short ns x

pub by_first : (names : List Text) → arg_by_index (rules names) 1 ≡ Some file_one
by_first [] = refl
by_first (n ∷ ns) = by_first ns

pub by_second : (names : List Text) → arg_by_index (rules names) 2 ≡ None
by_second [] = refl
by_second (n ∷ ns) = by_second ns

-- ---- rows

abbrev pub row : Use → Row
row u = record {
  id = u.0;
  values = u.1 ∷ [];
  count = None;
  source = Some CommandLine;
  reading = reading.AsWritten;
}

abbrev pub rows : List Use → List Row
rows us = map row us

pub has_row-rows : (id : Text) (us : List Use) → has_row id (rows us) ≡ is_given id us
has_row-rows id [] = refl
has_row-rows id (u ∷ us) = ap (λ b. bytes_eq u.0 id || b) (has_row-rows id us)

pub at_row-absent : (id : Text) (change : Row → List Row) (missing rs : List Row) → has_row id rs ≡ false → at_row id change missing rs ≡ rs ++ missing
at_row-absent id change missing [] h = refl
at_row-absent id change missing (r ∷ rs) h = go (bytes_eq r.id id) h (at_row-absent id change missing rs)
  where
    go : (b : Bool) → (b || has_row id rs) ≡ false → (has_row id rs ≡ false → at_row id change missing rs ≡ rs ++ missing) → (if b then change r ++ rs else r ∷ at_row id change missing rs) ≡ r ∷ (rs ++ missing)
    go true k again = absurd (true≢false k)
    go false k again = ap (λ l. r ∷ l) (again k)

rows-push : (us : List Use) (u : Use) → rows us ++ row u ∷ [] ≡ rows (us ++ u ∷ [])
rows-push [] u = refl
rows-push (x ∷ us) u = ap (λ l. row x ∷ l) (rows-push us u)

pub used-new : (id : Text) (long : Option Text) (index : Option ℕ) (v : Text) (us : List Use) → is_given id us ≡ false → used (one id long index) (v ∷ []) (rows us) ≡ rows (us ++ (id, v) ∷ [])
used-new id long index v us h =
    let absent : has_row id (rows us) ≡ false = has_row-rows id us ∙ h in
    let same : without id (rows us) ≡ rows us = at_row-absent id (λ _. []) [] (rows us) absent ∙ append-nil (rows us) in
    ap (at_row id (more_values CommandLine (v ∷ [])) (row (id, v) ∷ [])) same
    ∙ at_row-absent id (more_values CommandLine (v ∷ [])) (row (id, v) ∷ []) (rows us) absent
    ∙ rows-push us (id, v)

pub used-flag : (us : List Use) → is_given log us ≡ false → used flag_one [] (rows us) ≡ rows (us ++ (log, set) ∷ [])
used-flag us h = used-new log None None set us h

pub flag_fault-is : (us : List Use) → use_fault false flag_one [] (rows us) ≡ (if is_given log us then kind.ArgumentConflict ∷ [] else [])
flag_fault-is us = ap (λ b. or_else (if b && true then kind.ArgumentConflict ∷ [] else []) []) (has_row-rows log us) ∙ go (is_given log us)
  where
    go : (b : Bool) → or_else (if b && true then kind.ArgumentConflict ∷ [] else []) [] ≡ (if b then kind.ArgumentConflict ∷ [] else [])
    go true = refl
    go false = refl

pub use_fault-is : (id : Text) (long : Option Text) (index : Option ℕ) (v : Text) (us : List Use) → use_fault false (one id long index) (v ∷ []) (rows us) ≡ (if is_given id us then kind.ArgumentConflict ∷ [] else [])
use_fault-is id long index v us = ap (λ b. or_else (if b && true then kind.ArgumentConflict ∷ [] else []) []) (has_row-rows id us) ∙ go (is_given id us)
  where
    go : (b : Bool) → or_else (if b && true then kind.ArgumentConflict ∷ [] else []) [] ≡ (if b then kind.ArgumentConflict ∷ [] else [])
    go true = refl
    go false = refl
