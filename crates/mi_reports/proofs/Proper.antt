-- The fields of lines are proper, whatever they show.
use Rattle.std.specs.Prelude.{nat_lt, decimal}
use Rattle.std.proofs.Common.{◌≡◌, ℕ, ◌+◌, ◌-◌, ◌<◌, List, [], ◌∷◌, ◌++◌, Bool, true, ◌&&◌, cond, eqb, Option, Some, None, refl}
use Rattle.dbg_model.specs.declared.frame.ShownFrame.{ShownFrame}
use Rattle.dbg_model.specs.declared.frame.SourceLine.{SourceLine}
use Rattle.mi_values.specs.Tree.{Tree, text, items, item, no_item, fields_of}
use Rattle.mi_values.specs.FieldLists.{tuple_of, in_brackets}
use Rattle.mi_values.specs.Name.{is_name}
use Rattle.mi_values.specs.Testing.{are_bytes, is_proper, are_proper_fields}
use Rattle.mi_values.proofs.Testing.{both}
use Rattle.mi_reports.specs.declared.words.Key.{Key}
use Rattle.mi_reports.specs.declared.words.Key.TheVariants as key
use Rattle.mi_reports.specs.declared.words.Phrase.{Phrase}
use Rattle.mi_reports.specs.declared.words.Phrase.TheVariants as phrase
use Rattle.mi_reports.specs.Words.{key_text, says, says_some}
use Rattle.mi_reports.specs.Phrases.{phrase_text}
use Rattle.mi_text.specs.Numeral.{address_text, exit_code}
use Rattle.mi_reports.specs.Fits.{text_fits, source_fits, frame_fits, frames_fit}
use Rattle.mi_reports.specs.Frames.{source_fields, frame_rest, frame_fields, frame_field, stack_fields, stack_tree}
use Rattle.mi_reports.specs.Breakpoints.{disposition}
use Rattle.mi_reports.specs.Reasons.{signal_reason, hit_reason}
use Rattle.mi_reports.specs.Text as entries
use Rattle.mi_reports.proofs.Bytes.{decimal_bytes, address_bytes, exit_bytes}
use Rattle.mi_reports.proofs.Names.{key_name, phrase_bytes}

-- fields that may stand at this depth
pub record Good (fs : List (List ℕ × Tree)) (d : ℕ) : Type 0 where
  pub test : are_proper_fields (fields_of fs) d ≡ true

pub none_good : (d : ℕ) → Good [] d
none_good d = record { test = refl }

joined : (fs gs : List (List ℕ × Tree)) (d : ℕ) → are_proper_fields (fields_of fs) d ≡ true → are_proper_fields (fields_of gs) d ≡ true → are_proper_fields (fields_of (fs ++ gs)) d ≡ true
joined [] gs d h g = g
joined (f ∷ fs) gs d h g =
    let p = both (is_name f.0) (is_proper f.1 d && are_proper_fields (fields_of fs) d) h in
    let q = both (is_proper f.1 d) (are_proper_fields (fields_of fs) d) p.1 in
    rw (p.0, q.0, joined fs gs d q.1 g) refl

pub join : (fs gs : List (List ℕ × Tree)) (d : ℕ) → Good fs d → Good gs d → Good (fs ++ gs) d
join fs gs d h g = record { test = joined fs gs d h.test g.test }

pub value : (k : Key) (v : Tree) (fs : List (List ℕ × Tree)) (d : ℕ) → is_proper v d ≡ true → Good fs d → Good ((key_text k, v) ∷ fs) d
value k v fs d h g = record { test = rw (key_name k, h, g.test) refl }

pub says_good : (k : Key) (t : List ℕ) (fs : List (List ℕ × Tree)) (d : ℕ) → nat_lt 0 d ≡ true → are_bytes t ≡ true → Good fs d → Good (says k t ∷ fs) d
says_good k t fs d l h g = record { test = rw (key_name k, l, h, g.test) refl }

pub some_good : (k : Key) (t : Option (List ℕ)) (d : ℕ) → nat_lt 0 d ≡ true → text_fits t ≡ true → Good (says_some k t) d
some_good k None d l h = none_good d
some_good k (Some t) d l h = says_good k t [] d l h (none_good d)

pub tuple_good : (fs : List (List ℕ × Tree)) (d : ℕ) → nat_lt 0 d ≡ true → Good fs (d - 1) → is_proper (tuple_of fs) d ≡ true
unfolding tuple_of
tuple_good fs d l g = rw (l, g.test) refl

bracketed : (fs : List (List ℕ × Tree)) (d : ℕ) → nat_lt 0 d ≡ true → are_proper_fields (fields_of fs) (d - 1) ≡ true → is_proper (in_brackets fs) d ≡ true
unfolding in_brackets
bracketed [] d l g = rw l refl
bracketed (f ∷ fs) d l g = rw (l, g) refl

pub brackets_good : (fs : List (List ℕ × Tree)) (d : ℕ) → nat_lt 0 d ≡ true → Good fs (d - 1) → is_proper (in_brackets fs) d ≡ true
brackets_good fs d l g = bracketed fs d l g.test

empty_good : (d : ℕ) → nat_lt 0 d ≡ true → is_proper (items no_item) d ≡ true
empty_good d l = rw l refl

-- ---- frames

pub source_good : (s : Option SourceLine) (d : ℕ) → nat_lt 0 d ≡ true → source_fits s ≡ true → Good (source_fields s) d
source_good None d l h = none_good d
source_good (Some s) d l h = says_good key.File s.file _ d l h (says_good key.Line (decimal s.line) [] d l (decimal_bytes s.line) (none_good d))

rest_good : (f : ShownFrame) (d : ℕ) → nat_lt 0 d ≡ true → frame_fits f ≡ true → Good (frame_rest f) d
unfolding frame_rest frame_fits
rest_good f d l h =
    let p = both (text_fits f.function) (source_fits f.source) h in
    join (says_some key.Func f.function) ((key_text key.Args, items no_item) ∷ source_fields f.source) d (some_good key.Func f.function d l p.0)
    (value key.Args (items no_item) (source_fields f.source) d (empty_good d l) (source_good f.source d l p.1))

fields_good : (level : Option ℕ) (f : ShownFrame) (d : ℕ) → nat_lt 0 d ≡ true → frame_fits f ≡ true → Good (frame_fields level f) d
unfolding frame_fields
fields_good None f d l h = says_good key.Addr (address_text f.address) (frame_rest f) d l (address_bytes f.address) (rest_good f d l h)
fields_good (Some level) f d l h =
    says_good key.Level (decimal level) _ d l (decimal_bytes level) (says_good key.Addr (address_text f.address) (frame_rest f) d l (address_bytes f.address) (rest_good f d l h))

pub frame_good : (level : Option ℕ) (f : ShownFrame) (d : ℕ) → nat_lt 0 d ≡ true → nat_lt 0 (d - 1) ≡ true → frame_fits f ≡ true → Good (frame_field level f ∷ []) d
unfolding frame_field
frame_good level f d l m h = value key.Frame _ [] d (tuple_good (frame_fields level f) d l (fields_good level f (d - 1) m h)) (none_good d)

stack_good : (level : ℕ) (fs : List ShownFrame) (d : ℕ) → nat_lt 0 d ≡ true → nat_lt 0 (d - 1) ≡ true → frames_fit fs ≡ true → Good (stack_fields level fs) d
stack_good level [] d l m h = none_good d
stack_good level (f ∷ fs) d l m h =
    let p = both (frame_fits f) (frames_fit fs) h in
    join (frame_field (Some level) f ∷ []) (stack_fields (level + 1) fs) d (frame_good (Some level) f d l m p.0) (stack_good (level + 1) fs d l m p.1)

pub frames_good : (fs : List ShownFrame) → frames_fit fs ≡ true → Good ((key_text key.Stack, stack_tree fs) ∷ []) 16
frames_good fs h = value key.Stack (stack_tree fs) [] 16 (brackets_good (stack_fields 0 fs) 16 refl (stack_good 0 fs 15 refl refl h)) (none_good 16)

-- ---- stops and exits

thread_bytes : (h : ℕ) → are_bytes (decimal (h + 1)) ≡ true
thread_bytes h = decimal_bytes (h + 1)

one_good : (h : ℕ) → is_proper (items (item (text (decimal (h + 1))) no_item)) 16 ≡ true
one_good h = rw (thread_bytes h) refl

pub place_good : (h : ℕ) (f : ShownFrame) → frame_fits f ≡ true → Good (entries.place_fields h f) 16
unfolding entries.place_fields
place_good h f fit =
    join (frame_field None f ∷ []) _ 16 (frame_good None f 16 refl refl fit) (says_good key.ThreadId (decimal (h + 1)) _ 16 refl (thread_bytes h) (value key.StoppedThreads _ [] 16 (one_good h) (none_good 16)))

pub signal_good : (name meaning : Phrase) → Good (signal_reason name meaning) 16
signal_good name meaning =
    says_good key.Reason (phrase_text phrase.SignalReceived) _ 16 refl (phrase_bytes phrase.SignalReceived)
    (says_good key.SignalName (phrase_text name) _ 16 refl (phrase_bytes name) (says_good key.SignalMeaning (phrase_text meaning) [] 16 refl (phrase_bytes meaning) (none_good 16)))

pub end_good : (reason : Phrase) → Good (says key.Reason (phrase_text reason) ∷ []) 16
end_good reason = says_good key.Reason (phrase_text reason) [] 16 refl (phrase_bytes reason) (none_good 16)

pub hit_good : (temporary : Bool) (number : ℕ) → Good (hit_reason temporary number) 16
hit_good temporary number =
    says_good key.Reason (phrase_text phrase.BreakpointHit) _ 16 refl (phrase_bytes phrase.BreakpointHit)
    (says_good key.Disp (phrase_text (disposition temporary)) _ 16 refl (phrase_bytes (disposition temporary)) (says_good key.BkptNumber (decimal number) [] 16 refl (decimal_bytes number) (none_good 16)))

pub thread_good : (h : ℕ) → Good (entries.thread_fields h) 16
unfolding entries.thread_fields
thread_good h = says_good key.Id (decimal (h + 1)) _ 16 refl (thread_bytes h) (says_good key.GroupId (phrase_text phrase.Group) [] 16 refl (phrase_bytes phrase.Group) (none_good 16))

pub pick : (b : Bool) (x y : List (List ℕ × Tree)) (d : ℕ) → Good x d → Good y d → Good (cond b x y) d
pick true x y d h g = h
pick Bool.false x y d h g = g

pub exit_good : (code : ℕ) → code < 256 → Good (entries.exit_fields code) 16
unfolding entries.exit_fields
exit_good code small =
    pick (eqb code 0) _ _ 16 (says_good key.Reason (phrase_text phrase.ExitedNormally) [] 16 refl (phrase_bytes phrase.ExitedNormally) (none_good 16))
    (says_good key.Reason (phrase_text phrase.Exited) _ 16 refl (phrase_bytes phrase.Exited) (says_good key.ExitCode (exit_code code) [] 16 refl (exit_bytes code small) (none_good 16)))
