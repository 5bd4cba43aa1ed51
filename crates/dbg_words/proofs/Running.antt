-- The uses, gathered from the first word on.
use Rattle.std.proofs.Common.{◌≡◌, Bool, true, false, not, ◌&&◌, List, [], ◌∷◌, ◌++◌, map, Option, Some, None, refl, sym, ap, ◌∙◌, append_assoc, append-nil}
use Rattle.std.specs.Prelude.{option_and_then, if◌then◌else◌}
use Rattle.dbg_words.specs.Uses.{Text, Use, Word, ends, takes, flag, has, unknown, plain, file, log, set, word_of, read, after, with_word, with_value, is_given, are_new, uses_of}

-- one use more, where the name is new
abbrev pub add : List Use → Use → (List Use → Option (List Use)) → Option (List Use)
add us u k = if is_given u.0 us then None else k (us ++ u ∷ [])

abbrev pub run_files : List Use → List Text → Option (List Use)
run_files us [] = Some us
run_files us (w ∷ ws) = add us (file, w) (λ now. run_files now ws)

abbrev pub run_word : Word → Text → List Use → Option (List Use) → (List Use → Option (List Use)) → (Text → Option (List Use)) → Option (List Use)
run_word ends w us files next wait = files
run_word (takes name) w us files next wait = wait name
run_word flag w us files next wait = add us (log, set) next
run_word (has name value) w us files next wait = add us (name, value) next
run_word unknown w us files next wait = None
run_word plain w us files next wait = add us (file, w) next

abbrev pub run_value : Word → Option (List Use) → Option (List Use)
run_value plain next = next
run_value _ next = None

unfoldable pub run : List Text → List Use → Option Text → List Text → Option (List Use)
run names us None [] = Some us
run names us (Some name) [] = None
run names us None (w ∷ ws) = run_word (word_of names w) w us (run_files us ws) (λ now. run names now None ws) (λ name. run names us (Some name) ws)
run names us (Some name) (w ∷ ws) = run_value (word_of names w) (add us (name, w) (λ now. run names now None ws))

abbrev joined : List Use → Option (List Use) → Option (List Use)
joined us o = option_and_then (λ items. if are_new us items then Some (us ++ items) else None) o

abbrev nothing : Option (List Use)
nothing = None

either_none : (b : Bool) → nothing ≡ (if b then nothing else nothing)
either_none true = refl
either_none false = refl

joined-after : (us : List Use) (u : Use) (o : Option (List Use)) → joined us (after u o) ≡ add us u (λ now. joined now o)
joined-after us u None = either_none (is_given u.0 us)
joined-after us u (Some items) = go (is_given u.0 us)
  where
    again : (c : Bool) → (if c then Some (us ++ u ∷ items) else nothing) ≡ (if c then Some ((us ++ u ∷ []) ++ items) else nothing)
    again true = ap Some (sym (append_assoc us (u ∷ []) items))
    again false = refl

    go : (b : Bool) → (if (not b && are_new (us ++ u ∷ []) items) then Some (us ++ u ∷ items) else nothing) ≡ (if b then nothing else (if are_new (us ++ u ∷ []) items then Some ((us ++ u ∷ []) ++ items) else None))
    go true = refl
    go false = again (are_new (us ++ u ∷ []) items)

add-same : (us : List Use) (u : Use) (j k : List Use → Option (List Use)) → ((now : List Use) → j now ≡ k now) → add us u j ≡ add us u k
add-same us u j k same = ap (λ (o : Option (List Use)). if is_given u.0 us then None else o) (same (us ++ u ∷ []))

files-joined : (us : List Use) (ws : List Text) → run_files us ws ≡ joined us (Some (map (λ f. (file, f)) ws))
files-joined us [] = ap Some (sym (append-nil us))
files-joined us (w ∷ ws) =
    add-same us (file, w) (λ now. run_files now ws) (λ now. joined now (Some (map (λ f. (file, f)) ws))) (λ now. files-joined now ws)
    ∙ sym (joined-after us (file, w) (Some (map (λ f. (file, f)) ws)))

joined-add : (us : List Use) (u : Use) (next : List Use → Option (List Use)) (o : Option (List Use)) → ((now : List Use) → next now ≡ joined now o) → add us u next ≡ joined us (after u o)
joined-add us u next o same = add-same us u next (λ now. joined now o) same ∙ sym (joined-after us u o)

joined-word : (x : Word) (w : Text) (us : List Use) (ws : List Text) (next : List Use → Option (List Use)) (o : Option (List Use))
    (wait wait_o : Text → Option (List Use)) → ((now : List Use) → next now ≡ joined now o) → ((name : Text) → wait name ≡ joined us (wait_o name))
    → run_word x w us (run_files us ws) next wait ≡ joined us (with_word x w ws o wait_o)
joined-word ends w us ws next o wait wait_o same waits = files-joined us ws
joined-word (takes name) w us ws next o wait wait_o same waits = waits name
joined-word flag w us ws next o wait wait_o same waits = joined-add us (log, set) next o same
joined-word (has name value) w us ws next o wait wait_o same waits = joined-add us (name, value) next o same
joined-word unknown w us ws next o wait wait_o same waits = refl
joined-word plain w us ws next o wait wait_o same waits = joined-add us (file, w) next o same

joined-value : (x : Word) (us : List Use) (u : Use) (next : List Use → Option (List Use)) (o : Option (List Use)) → ((now : List Use) → next now ≡ joined now o) → run_value x (add us u next) ≡ joined us (with_value x u o)
joined-value ends us u next o same = refl
joined-value (takes n) us u next o same = refl
joined-value flag us u next o same = refl
joined-value (has n value) us u next o same = refl
joined-value unknown us u next o same = refl
joined-value plain us u next o same = joined-add us u next o same

pub run-joined : (names : List Text) (us : List Use) (wait : Option Text) (ws : List Text) → run names us wait ws ≡ joined us (read names wait ws)
unfolding run read
run-joined names us None [] = ap Some (sym (append-nil us))
run-joined names us (Some name) [] = refl
run-joined names us None (w ∷ ws) =
    joined-word (word_of names w) w us ws (λ now. run names now None ws) (read names None ws) (λ name. run names us (Some name) ws) (λ name. read names (Some name) ws)
    (λ now. run-joined names now None ws) (λ name. run-joined names us (Some name) ws)
run-joined names us (Some name) (w ∷ ws) =
    joined-value (word_of names w) us (name, w) (λ now. run names now None ws) (read names None ws) (λ now. run-joined names now None ws)

pub run-uses : (names : List Text) (words : List Text) → run names [] None words ≡ uses_of names words
run-uses names words = run-joined names [] None words ∙ go (read names None words)
  where
    go : (o : Option (List Use)) → joined [] o ≡ option_and_then (λ us. if are_new [] us then Some us else None) o
    go None = refl
    go (Some us) = refl
