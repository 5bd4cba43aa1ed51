-- The token and the operation of a command.
use Rattle.std.proofs.Common.{◌≡◌, ℕ, suc, zero, ◌-◌, ◌≤◌, List, [], ◌∷◌, ◌++◌, length, take, drop, Bool, true, false, not, eqb, min, Some, None, Result, Ok, Err, refl, sym, ap, subst, ◌∙◌, arith, ◌⊎◌, inl, inr}
use Rattle.std.specs.Prelude.{Option, take_while}
use Rattle.std.specs.List.{list_all, prefix_len}
use Rattle.std.proofs.lemmas.Bool.{cases_eq, ne_eqb, eqb-true, le-leb}
use Rattle.std.proofs.lemmas.List.{take-append-drop, length-take}
use Rattle.mi_text.specs.Digits.{is_digit}
use Rattle.mi_text.specs.Token.{is_token}
use Rattle.mi_text.specs.declared.fault.ReadFault.{ReadFault}
use Rattle.mi_text.specs.declared.fault.ReadFault.TheVariants as reading
use Rattle.mi_input.specs.declared.parts.Parts.{Parts}
use Rattle.mi_input.specs.declared.parts.InputFault.{InputFault}
use Rattle.mi_input.specs.declared.parts.InputFault.TheVariants as faults
use Rattle.mi_input.specs.Parts.{is_blank, is_parted, after_blanks, begins, token_of, behind_token, is_operation, is_operation_byte, WordView, IsWords, IsCommand, HasOperation, HasParts, PartsView, is_cli}
use Rattle.mi_input.specs.Split.{ReadsWords, IsOperation, ReadsCommand, HasNoParts, Splits, GivesParts, parts_view}
use Rattle.mi_input.specs.Faults.{fault_of}
use Rattle.mi_input.proofs.Words.{both, Stops, one_run, run_passes, run_stops, run_length, cut_back, kind_shorter, one_word}

all_front : (p : ℕ → Bool) (xs : List ℕ) (m n : ℕ) → m ≤ n → list_all p (take n xs) ≡ true → list_all p (take m xs) ≡ true
all_front p [] zero n le h = refl
all_front p [] (suc m) n le h = refl
all_front p (x ∷ xs) zero n le h = refl
all_front p (x ∷ xs) (suc m) zero le h = absurd (omega arith)
all_front p (x ∷ xs) (suc m) (suc n) le h =
    let g = both (p x) (list_all p (take n xs)) h in rw (g.0) (all_front p xs m n (omega arith) g.1)

pub token_cut : (bytes : List ℕ) (n m : ℕ) → n ≡ length (take_while is_digit bytes) → m ≡ min n 18 → is_token (take m bytes) ≡ true
token_cut bytes n m counted least =
    let n_is = run_length is_digit bytes n counted in
    let le : m ≤ prefix_len is_digit bytes = omega arith in
    let short : length (take m bytes) ≤ 18 = omega (arith, length-take m bytes) in
    rw (le-leb (length (take m bytes)) 18 short) (all_front is_digit bytes m (prefix_len is_digit bytes) le (run_passes is_digit bytes))

-- ---- the operation

blank_cases : (b : ℕ) → is_blank b ≡ true → (b ≡ 32) ⊎ (b ≡ 9)
blank_cases b h = elim (cases_eq b 32) [ inl e ↦ inl e | inr n ↦ inr (eqb-true b 9 (rw (ne_eqb b 32 n) at h)) ]

no_operation_byte : (b : ℕ) → is_blank b ≡ true → is_operation_byte b ≡ false
no_operation_byte b h = elim (blank_cases b h) [ inl e ↦ rw e refl | inr e ↦ rw e refl ]

pub parted_ends : (rest : List ℕ) → is_parted rest ≡ true → Stops is_operation_byte rest
unfolding Stops
parted_ends rest h = λ b x e. no_operation_byte b (sym (ap is_parted e) ∙ h)

pub operation_bytes : (op : List ℕ) → is_operation op ≡ true → list_all is_operation_byte op ≡ true
operation_bytes [] h = absurd cc
operation_bytes (b ∷ bs) h = h

-- the operation is the whole run
one_operation : (bytes operation rest : List ℕ) (n : ℕ) → n ≡ length (take_while is_operation_byte bytes) → bytes ≡ operation ++ rest
    → is_operation operation ≡ true → is_parted rest ≡ true → (take n bytes ≡ operation) × (drop n bytes ≡ rest)
one_operation bytes operation rest n counted e named parted =
    let n_is = run_length is_operation_byte bytes n counted in
    let P : ℕ → Type 0 = λ k. (take k bytes ≡ operation) × (drop k bytes ≡ rest) in
    let k = prefix_len is_operation_byte bytes in
    subst P (sym n_is) (one_run is_operation_byte (take k bytes) operation (drop k bytes) rest (run_passes is_operation_byte bytes)
    (operation_bytes operation named) (run_stops is_operation_byte bytes) (parted_ends rest parted) (take-append-drop k bytes ∙ e))

pub not_parted : (bytes : List ℕ) (n : ℕ) → n ≡ length (take_while is_operation_byte bytes) → false ≡ is_parted (take (length bytes - n) (drop n bytes)) → (operation : List ℕ) (words : List WordView) → IsOperation bytes operation words → ⊥
not_parted bytes n counted fails operation words is =
    let p = one_operation bytes operation is.rest n counted is.spelled is.named is.parted in
    let parted : is_parted (take (length bytes - n) (drop n bytes)) ≡ true = ap is_parted (cut_back bytes n ∙ p.1) ∙ is.parted in absurd cc

pub command_fails : (bytes : List ℕ) (n : ℕ) (f : ReadFault) → n ≡ length (take_while is_operation_byte bytes) → ReadsWords (take (length bytes - n) (drop n bytes)) (Err f) → ReadsCommand bytes (Err f)
command_fails bytes n reading.NoMemory counted h = tt
command_fails bytes n reading.Text counted h = λ operation words is.
    let p = one_operation bytes operation is.rest n counted is.spelled is.named is.parted in
    h words (subst (λ (l : List ℕ). IsWords l words) (sym (cut_back bytes n ∙ p.1)) is.words_are)

named_by : (bytes : List ℕ) (n : ℕ) → n ≡ prefix_len is_operation_byte bytes → (n ≡ 0 → ⊥) → list_all is_operation_byte (take n bytes) ≡ true → is_operation (take n bytes) ≡ true
named_by [] n e some h = absurd (some e)
named_by (b ∷ bs) zero e some h = absurd (some refl)
named_by (b ∷ bs) (suc n) e some h = h

pub command_read : (bytes operation : List ℕ) (n : ℕ) (words : List WordView) → n ≡ length (take_while is_operation_byte bytes) → (n ≡ 0 → ⊥)
    → true ≡ is_parted (take (length bytes - n) (drop n bytes)) → operation ≡ take n bytes → IsWords (take (length bytes - n) (drop n bytes)) words
    → IsOperation bytes operation words
command_read bytes operation n words counted some parted taken h =
    let n_is = run_length is_operation_byte bytes n counted in
    let passes : list_all is_operation_byte (take n bytes) ≡ true = ap (λ (k : ℕ). list_all is_operation_byte (take k bytes)) n_is ∙ run_passes is_operation_byte bytes in
    record {
      rest = take (length bytes - n) (drop n bytes);
      spelled = sym (take-append-drop n bytes) ∙ ap (λ (l : List ℕ). l ++ drop n bytes) (sym taken) ∙ ap (λ (l : List ℕ). operation ++ l) (sym (cut_back bytes n));
      named = ap is_operation taken ∙ named_by bytes n n_is some passes;
      parted = sym parted;
      words_are = h;
    }

-- ---- the line

nothing_is : (xs : List ℕ) → xs ≡ [] → false ≡ eqb (length xs) 0 → ⊥
nothing_is xs e some = let t : eqb (length xs) 0 ≡ true = ap (λ (l : List ℕ). eqb (length l) 0) e in absurd cc

by_operation : (line start : List ℕ) → start ≡ after_blanks line → false ≡ eqb (length start) 0 → ((token operation : List ℕ) (words : List WordView) → IsCommand start token operation words → ⊥)
    → (o : Option (List ℕ)) (token : List ℕ) (words : List WordView) → HasOperation line token o words → ⊥
by_operation line start e some none None token words h = nothing_is start (e ∙ h.blank) some
by_operation line start e some none (Some operation) token words h = none token operation words (subst (λ (l : List ℕ). IsCommand l token operation words) (sym e) h)

no_parts : (line start : List ℕ) → start ≡ after_blanks line → false ≡ eqb (length start) 0 → ((token operation : List ℕ) (words : List WordView) → IsCommand start token operation words → ⊥) → HasNoParts line
no_parts line start e some none = λ p h. by_operation line start e some none p.operation p.token p.words h

quote_no_command : (start x : List ℕ) → start ≡ 34 ∷ x → (token operation : List ℕ) (words : List WordView) → IsCommand start token operation words → ⊥
quote_no_command start x e token operation words is =
    let f : 34 ∷ x ≡ 45 ∷ (operation ++ is.rest) = ap behind_token (sym e) ∙ is.behind in
    let apart : true ≡ false = ap (begins 34) f in absurd cc

pub quote_splits : (line start x : List ℕ) → length line ≤ 4096 → start ≡ after_blanks line → false ≡ eqb (length start) 0 → start ≡ 34 ∷ x → Splits line (Err faults.Syntax)
quote_splits line start x short e some q = (short, no_parts line start e some (quote_no_command start x q), ap is_cli (sym e ∙ q))

cli_by : (start : List ℕ) → false ≡ eqb (length start) 0 → ((x : List ℕ) → start ≡ 34 ∷ x → ⊥) → (t : Bool) → begins 45 (behind_token start) ≡ t → is_cli start ≡ not t
cli_by [] some quote t e = cc
cli_by (b ∷ bs) some quote t e = rw (ne_eqb b 34 (λ f. quote bs (ap (λ (n : ℕ). n ∷ bs) f)), e) refl

begins_not : (xs : List ℕ) → ((x : List ℕ) → xs ≡ 45 ∷ x → ⊥) → begins 45 xs ≡ false
begins_not [] h = refl
begins_not (b ∷ bs) h = ne_eqb b 45 (λ e. h bs (ap (λ (n : ℕ). n ∷ bs) e))

pub cli_splits : (line start behind token : List ℕ) (t : List ℕ) → length line ≤ 4096 → start ≡ after_blanks line → false ≡ eqb (length start) 0
    → ((x : List ℕ) → start ≡ 34 ∷ x → ⊥) → behind ≡ behind_token start → ((x : List ℕ) → behind ≡ 45 ∷ x → ⊥) → token ≡ token_of start
    → (length line ≤ 4096) × (is_cli (after_blanks line) ≡ true) × (token ≡ token_of (after_blanks line))
cli_splits line start behind token t short e some quote b none is =
    (short, ap is_cli (sym e) ∙ cli_by start some quote false (ap (begins 45) (sym b) ∙ begins_not behind none), is ∙ ap token_of e)

pub command_splits : (line start behind rest : List ℕ) (f : ReadFault) → length line ≤ 4096 → start ≡ after_blanks line → false ≡ eqb (length start) 0
    → ((x : List ℕ) → start ≡ 34 ∷ x → ⊥) → behind ≡ behind_token start → behind ≡ 45 ∷ rest → ReadsCommand rest (Err f) → Splits line (Err (fault_of f))
command_splits line start behind rest reading.NoMemory short e some quote b dash h = tt
command_splits line start behind rest reading.Text short e some quote b dash h =
    (short, no_parts line start e some none, ap is_cli (sym e) ∙ cli_by start some quote true (ap (begins 45) (sym b ∙ dash)))
  where
    none : (token operation : List ℕ) (words : List WordView) → IsCommand start token operation words → ⊥
    none token operation words is =
        let f : 45 ∷ rest ≡ 45 ∷ (operation ++ is.rest) = sym dash ∙ b ∙ is.behind in
        let same : rest ≡ operation ++ is.rest = cc in
        h operation words (record { rest = is.rest; spelled = same; named = is.named; parted = is.parted; words_are = is.words_are })

pub has_command : (line start behind rest token operation : List ℕ) (words : List WordView) → start ≡ after_blanks line → behind ≡ behind_token start
    → behind ≡ 45 ∷ rest → token ≡ token_of start → IsOperation rest operation words → IsCommand (after_blanks line) token operation words
has_command line start behind rest token operation words e b dash t is =
    subst (λ (l : List ℕ). IsCommand l token operation words) e (record {
      token_is = t;
      rest = is.rest;
      behind = sym b ∙ dash ∙ ap (λ (l : List ℕ). 45 ∷ l) is.spelled;
      named = is.named;
      parted = is.parted;
      words_are = is.words_are;
    })

-- ---- a line has one list of parts

one_words : (ws vs : List WordView) (bytes : List ℕ) → IsWords bytes ws → IsWords bytes vs → ws ≡ vs
one_words [] [] bytes h g = refl
one_words [] (v ∷ vs) bytes h g = absurd (omega (arith, kind_shorter v.1 (after_blanks bytes) v.0 g.0 g.1.0, ap length h))
one_words (w ∷ ws) [] bytes h g = absurd (omega (arith, kind_shorter w.1 (after_blanks bytes) w.0 h.0 h.1.0, ap length g))
one_words (w ∷ ws) (v ∷ vs) bytes h g =
    let p = one_word (after_blanks bytes) w v h.0 g.0 h.1 g.1 in
    let heads : w ≡ v = p.0 in
    let tails : ws ≡ vs = one_words ws vs g.0 (subst (λ (l : List ℕ). IsWords l ws) p.1 h.2) g.2 in
    cc

one_command : (start t u o q : List ℕ) (ws vs : List WordView) → IsCommand start t o ws → IsCommand start u q vs → (t ≡ u) × (o ≡ q) × (ws ≡ vs)
one_command start t u o q ws vs h g =
    let f : 45 ∷ (o ++ h.rest) ≡ 45 ∷ (q ++ g.rest) = sym h.behind ∙ g.behind in
    let same : o ++ h.rest ≡ q ++ g.rest = cc in
    let p = one_run is_operation_byte o q h.rest g.rest (operation_bytes o h.named) (operation_bytes q g.named) (parted_ends h.rest h.parted) (parted_ends g.rest g.parted) same in
    (h.token_is ∙ sym g.token_is, p.0, one_words ws vs g.rest (subst (λ (l : List ℕ). IsWords l ws) p.1 h.words_are) g.words_are)

no_blank_command : (bytes token operation : List ℕ) (words : List WordView) → after_blanks bytes ≡ [] → IsCommand (after_blanks bytes) token operation words → ⊥
no_blank_command bytes token operation words e is =
    let f : [] ≡ 45 ∷ (operation ++ is.rest) = ap behind_token (sym e) ∙ is.behind in cc

one_by : (o q : Option (List ℕ)) (bytes t u : List ℕ) (ws vs : List WordView) → HasOperation bytes t o ws → HasOperation bytes u q vs → (t ≡ u) × (o ≡ q) × (ws ≡ vs)
one_by None None bytes t u ws vs h g = (h.no_token ∙ sym g.no_token, refl, h.no_words ∙ sym g.no_words)
one_by None (Some q) bytes t u ws vs h g = absurd (no_blank_command bytes u q vs h.blank g)
one_by (Some o) None bytes t u ws vs h g = absurd (no_blank_command bytes t o ws g.blank h)
one_by (Some o) (Some q) bytes t u ws vs h g = let p = one_command (after_blanks bytes) t u o q ws vs h g in (p.0, ap Some p.1, p.2)

abbrev parts : List ℕ → Option (List ℕ) → List WordView → PartsView
parts t o ws = record { token = t; operation = o; words = ws }

parts_same : (t u : List ℕ) (o q : Option (List ℕ)) (ws vs : List WordView) → t ≡ u → o ≡ q → ws ≡ vs → parts t o ws ≡ parts u q vs
parts_same t u o q ws vs e f g = ap (λ (l : List ℕ). parts l o ws) e ∙ ap (λ (x : Option (List ℕ)). parts u x ws) f ∙ ap (parts u q) g

one_parts : (bytes : List ℕ) (p q : PartsView) → HasParts bytes p → HasParts bytes q → p ≡ q
one_parts bytes p q h g =
    let s = one_by p.operation q.operation bytes p.token q.token p.words q.words h g in
    parts_same p.token q.token p.operation q.operation p.words q.words s.0 s.1 s.2

cli_false : (start x : List ℕ) → behind_token start ≡ 45 ∷ x → is_cli start ≡ true → ⊥
cli_false [] x e h = cc
cli_false (b ∷ bs) x e h =
    let p = both (not (eqb b 34)) (not (begins 45 (behind_token (b ∷ bs)))) h in
    let q : not (begins 45 (behind_token (b ∷ bs))) ≡ false = ap (λ (l : List ℕ). not (begins 45 l)) e in absurd cc

pub cli_no_parts : (o : Option (List ℕ)) (bytes t : List ℕ) (ws : List WordView) → is_cli (after_blanks bytes) ≡ true → HasOperation bytes t o ws → ⊥
cli_no_parts None bytes t ws h g = let f : is_cli (after_blanks bytes) ≡ false = ap is_cli g.blank in absurd cc
cli_no_parts (Some o) bytes t ws h g = cli_false (after_blanks bytes) (o ++ g.rest) g.behind h

pub gives_parts : (bytes : List ℕ) (r : Result Parts InputFault) → Splits bytes r → (p : PartsView) → length bytes ≤ 4096 → HasParts bytes p → GivesParts p r
gives_parts bytes (Ok q) h p short is = one_parts bytes (parts_view q) p h.1 is
gives_parts bytes (Err faults.NoMemory) h p short is = tt
gives_parts bytes (Err faults.Long) h p short is = absurd (omega arith)
gives_parts bytes (Err faults.Syntax) h p short is = h.1 p is
gives_parts bytes (Err (faults.Cli t)) h p short is = absurd (cli_no_parts p.operation bytes p.token p.words h.1 is)
