-- What is done later changes nothing of what was done and said when input was asked for.
use Rattle.std.proofs.Common.{◌≡◌, ◌<◌, ◌≤◌, ℕ, zero, suc, ◌+◌, Bool, true, false, cond, List, [], ◌∷◌, ◌++◌, length, refl, sym, ap, ◌∙◌, arith, subst, append_assoc, length-append}
use Rattle.std.specs.Prelude.{Option, Some, None, if◌then◌else◌, ◌==◌, unwrap_or}
use Rattle.std.specs.Option.{option_map}
use mathlib.Core.List.{append-nil}
use Rattle.dbg_traits.specs.Told.{more}
use Rattle.mi_input.specs.Lines.{lines, rest_line, without_cr}
use Rattle.mi_input.proofs.Fronts.{lines_after}
use Rattle.dbg_model.specs.declared.entry.Entry.{Entry}
use Rattle.dbg_model.specs.declared.entry.Entry.TheVariants.{Ran, Counted, Stopped, Left, Did, Poked}
use Rattle.dbg_model.specs.declared.entry.Poke.{Poke}
use Rattle.dbg_model.specs.declared.entry.Mode.{Mode}
use Rattle.dbg_model.specs.declared.entry.Mode.TheVariants as mode
use Rattle.dbg_model.specs.declared.opening.Opening.{Opening}
use Rattle.dbg_model.specs.declared.hart.Hart.{Hart}
use Rattle.dbg_model.specs.Journals.{Place, come, did, did_one, lengthened, one_more_by, ran_count, first_place}
use Rattle.dbg_model.specs.Leaving.{lefts_from, left_one}
use Rattle.mi_values.specs.Record.{LineTree}
use Rattle.mi_values.specs.Records.{lines_bytes}
use Rattle.mi_values.proofs.Joined.{bytes_joined}
use Rattle.mi_reports.specs.Said.{said, said_lines, lines_from, entry_lines}
use Rattle.mi_reports.specs.Text.{opening_lines}
use Rattle.engine_parts.specs.Calls.{pokes_of}
use Rattle.session_parts.specs.InTime.{feeds, through, until}

-- ---- how many lines there are

none_left : (front : List ℕ) → length (rest_line false front) ≡ 0
none_left [] = refl
none_left (b ∷ bs) = refl

one_feed : (is : Bool) (f : List ℕ) (xs ys : List (List ℕ)) (n : ℕ) → length xs ≡ n → length ys ≡ n → length (if is then f ∷ xs else ys) ≡ cond is 1 0 + n
one_feed true f xs ys n ex ey = omega (arith, ex)
one_feed false f xs ys n ex ey = omega (arith, ey)

pub feeds_lines : (front bs : List ℕ) → length (lines_after front bs false) ≡ feeds bs
feeds_lines front [] = none_left front
feeds_lines front (b ∷ bs) = one_feed (b == 10) (without_cr front) (lines_after [] bs false) (lines_after (front ++ b ∷ []) bs false) (feeds bs) (feeds_lines [] bs) (feeds_lines (front ++ b ∷ []) bs)

-- ---- fronts of journals

-- the lines of a journal that grows
pub did-append : (j k : List Entry) → did (j ++ k) ≡ did j ++ did k
did-append [] k = refl
did-append (e ∷ es) k = ap (λ t. did_one e ++ t) (did-append es k) ∙ sym (append_assoc (did_one e) (did es) (did k))

-- a line, with what it asks to be written
pub did_line : (j : List Entry) (line : List ℕ) (q : Option Poke) → did (j ++ Did line ∷ pokes_of q) ≡ did j ++ line ∷ []
did_line j line None = did-append j (Did line ∷ [])
did_line j line (Some p) = did-append j (Did line ∷ Poked p ∷ [])

did_one_more : (e : Entry) (r : Option ℕ) (h : ℕ) → ran_count e h ≡ r → did (one_more_by r e h) ≡ did_one e
did_one_more (Ran k n) None h is = refl
did_one_more (Ran k n) (Some m) h is = refl
did_one_more (Counted k) None h is = refl
did_one_more (Stopped k why) None h is = refl
did_one_more (Counted k) (Some m) h is = cc
did_one_more (Stopped k why) (Some m) h is = cc
did_one_more (Left k code) None h is = refl
did_one_more (Left k code) (Some m) h is = cc
did_one_more (Did line) None h is = refl
did_one_more (Did line) (Some m) h is = cc
did_one_more (Poked p) None h is = refl
did_one_more (Poked p) (Some m) h is = cc

pub did-lengthened : (j : List Entry) (h : ℕ) → did (lengthened j h) ≡ did j
did-lengthened [] h = refl
did-lengthened (e ∷ []) h = did_one_more e (ran_count e h) h refl ∙ sym (append-nil (did_one e))
did-lengthened (e ∷ f ∷ es) h = ap (λ t. did_one e ++ t) (did-lengthened (f ∷ es) h)

did_left : (k : ℕ) (m : Mode) (rest : List Entry) → did (left_one k m ++ rest) ≡ did rest
did_left k mode.Stopped rest = refl
did_left k mode.Running rest = refl
did_left k (mode.Leaving code) rest = refl
did_left k mode.Exited rest = refl

pub did_lefts : (k : ℕ) (xs : List Hart) → did (lefts_from k xs) ≡ []
did_lefts k [] = refl
did_lefts k (x ∷ xs) = did_left k x.mode (lefts_from (k + 1) xs) ∙ did_lefts (k + 1) xs

pub did_quiet : (j es : List Entry) → did es ≡ [] → did (j ++ es) ≡ did j
did_quiet j es q = did-append j es ∙ (ap (λ t. did j ++ t) q ∙ append-nil (did j))

pub through_front : (n : ℕ) (j k : List Entry) → n ≤ length (did j) → through n (j ++ k) ≡ through n j
through_front zero j k le = refl
through_front (suc n) [] k le = absurd (omega arith)
through_front (suc n) (Ran h count ∷ es) k le = ap (λ t. Ran h count ∷ t) (through_front (suc n) es k le)
through_front (suc n) (Counted h ∷ es) k le = ap (λ t. Counted h ∷ t) (through_front (suc n) es k le)
through_front (suc n) (Stopped h why ∷ es) k le = ap (λ t. Stopped h why ∷ t) (through_front (suc n) es k le)
through_front (suc n) (Poked p ∷ es) k le = ap (λ t. Poked p ∷ t) (through_front (suc n) es k le)
through_front (suc n) (Left h code ∷ es) k le = ap (λ t. Left h code ∷ t) (through_front (suc n) es k le)
through_front (suc n) (Did line ∷ es) k le = ap (λ t. Did line ∷ t) (through_front n es k (omega arith))

until_front : (n : ℕ) (j k : List Entry) → n < length (did j) → until (j ++ k) n ≡ until j n
until_front n [] k low = absurd (omega arith)
until_front n (Ran h count ∷ es) k low = ap (λ t. Ran h count ∷ t) (until_front n es k low)
until_front n (Counted h ∷ es) k low = ap (λ t. Counted h ∷ t) (until_front n es k low)
until_front n (Stopped h why ∷ es) k low = ap (λ t. Stopped h why ∷ t) (until_front n es k low)
until_front n (Poked p ∷ es) k low = ap (λ t. Poked p ∷ t) (until_front n es k low)
until_front n (Left h code ∷ es) k low = ap (λ t. Left h code ∷ t) (until_front n es k low)
until_front zero (Did line ∷ es) k low = refl
until_front (suc n) (Did line ∷ es) k low = ap (λ t. Did line ∷ t) (until_front n es k (omega arith))

pub until_line : (n : ℕ) (j : List Entry) (line : List ℕ) (k : List Entry) → n ≤ length (did j) → until (j ++ Did line ∷ k) n ≡ until j n
until_line zero [] line k le = refl
until_line (suc n) [] line k le = absurd (omega arith)
until_line n (Ran h count ∷ es) line k le = ap (λ t. Ran h count ∷ t) (until_line n es line k le)
until_line n (Counted h ∷ es) line k le = ap (λ t. Counted h ∷ t) (until_line n es line k le)
until_line n (Stopped h why ∷ es) line k le = ap (λ t. Stopped h why ∷ t) (until_line n es line k le)
until_line n (Poked p ∷ es) line k le = ap (λ t. Poked p ∷ t) (until_line n es line k le)
until_line n (Left h code ∷ es) line k le = ap (λ t. Left h code ∷ t) (until_line n es line k le)
until_line zero (Did text ∷ es) line k le = refl
until_line (suc n) (Did text ∷ es) line k le = ap (λ t. Did text ∷ t) (until_line n es line k (omega arith))

pub until_all : (j : List Entry) → until j (length (did j)) ≡ j
until_all [] = refl
until_all (Ran h count ∷ es) = ap (λ t. Ran h count ∷ t) (until_all es)
until_all (Counted h ∷ es) = ap (λ t. Counted h ∷ t) (until_all es)
until_all (Stopped h why ∷ es) = ap (λ t. Stopped h why ∷ t) (until_all es)
until_all (Poked p ∷ es) = ap (λ t. Poked p ∷ t) (until_all es)
until_all (Left h code ∷ es) = ap (λ t. Left h code ∷ t) (until_all es)
until_all (Did line ∷ es) = ap (λ t. Did line ∷ t) (until_all es)

-- one more instruction
through_last : (n : ℕ) (line : List ℕ) (h : ℕ) → suc n ≤ 1 → through (suc n) (Did line ∷ Ran h 1 ∷ []) ≡ through (suc n) (Did line ∷ [])
through_last zero line h le = refl
through_last (suc n) line h le = absurd (omega arith)

through_lengthened : (n : ℕ) (j : List Entry) (h : ℕ) → n ≤ length (did j) → through n (lengthened j h) ≡ through n j
through_lengthened zero j h le = refl
through_lengthened (suc n) [] h le = absurd (omega arith)
through_lengthened (suc n) (Ran k count ∷ []) h le = absurd (omega arith)
through_lengthened (suc n) (Counted k ∷ []) h le = absurd (omega arith)
through_lengthened (suc n) (Stopped k why ∷ []) h le = absurd (omega arith)
through_lengthened (suc n) (Left k code ∷ []) h le = absurd (omega arith)
through_lengthened (suc n) (Poked p ∷ []) h le = absurd (omega arith)
through_lengthened (suc n) (Did line ∷ []) h le = through_last n line h le
through_lengthened (suc n) (Ran k count ∷ f ∷ es) h le = ap (λ t. Ran k count ∷ t) (through_lengthened (suc n) (f ∷ es) h le)
through_lengthened (suc n) (Counted k ∷ f ∷ es) h le = ap (λ t. Counted k ∷ t) (through_lengthened (suc n) (f ∷ es) h le)
through_lengthened (suc n) (Stopped k why ∷ f ∷ es) h le = ap (λ t. Stopped k why ∷ t) (through_lengthened (suc n) (f ∷ es) h le)
through_lengthened (suc n) (Poked p ∷ f ∷ es) h le = ap (λ t. Poked p ∷ t) (through_lengthened (suc n) (f ∷ es) h le)
through_lengthened (suc n) (Left k code ∷ f ∷ es) h le = ap (λ t. Left k code ∷ t) (through_lengthened (suc n) (f ∷ es) h le)
through_lengthened (suc n) (Did line ∷ f ∷ es) h le = let low : n ≤ length (did (f ∷ es)) = omega arith in ap (λ t. Did line ∷ t) (through_lengthened n (f ∷ es) h low)

until_lengthened : (n : ℕ) (j : List Entry) (h : ℕ) → n < length (did j) → until (lengthened j h) n ≡ until j n
until_lengthened n [] h low = absurd (omega arith)
until_lengthened n (Ran k count ∷ []) h low = absurd (omega arith)
until_lengthened n (Counted k ∷ []) h low = absurd (omega arith)
until_lengthened n (Stopped k why ∷ []) h low = absurd (omega arith)
until_lengthened n (Left k code ∷ []) h low = absurd (omega arith)
until_lengthened n (Poked p ∷ []) h low = absurd (omega arith)
until_lengthened zero (Did line ∷ []) h low = refl
until_lengthened (suc n) (Did line ∷ []) h low = absurd (omega arith)
until_lengthened n (Ran k count ∷ f ∷ es) h low = ap (λ t. Ran k count ∷ t) (until_lengthened n (f ∷ es) h low)
until_lengthened n (Counted k ∷ f ∷ es) h low = ap (λ t. Counted k ∷ t) (until_lengthened n (f ∷ es) h low)
until_lengthened n (Stopped k why ∷ f ∷ es) h low = ap (λ t. Stopped k why ∷ t) (until_lengthened n (f ∷ es) h low)
until_lengthened n (Poked p ∷ f ∷ es) h low = ap (λ t. Poked p ∷ t) (until_lengthened n (f ∷ es) h low)
until_lengthened n (Left k code ∷ f ∷ es) h low = ap (λ t. Left k code ∷ t) (until_lengthened n (f ∷ es) h low)
until_lengthened zero (Did line ∷ f ∷ es) h low = refl
until_lengthened (suc n) (Did line ∷ f ∷ es) h low = let few : n < length (did (f ∷ es)) = omega arith in ap (λ t. Did line ∷ t) (until_lengthened n (f ∷ es) h few)

-- what is done up to a line stands first
through_first : (n : ℕ) (j : List Entry) → (rest : List Entry) × (through n j ++ rest ≡ j)
through_first zero j = (j, refl)
through_first (suc n) [] = ([], refl)
through_first (suc n) (Ran h count ∷ es) = let d = through_first (suc n) es in (d.0, ap (λ t. Ran h count ∷ t) d.1)
through_first (suc n) (Counted h ∷ es) = let d = through_first (suc n) es in (d.0, ap (λ t. Counted h ∷ t) d.1)
through_first (suc n) (Stopped h why ∷ es) = let d = through_first (suc n) es in (d.0, ap (λ t. Stopped h why ∷ t) d.1)
through_first (suc n) (Poked p ∷ es) = let d = through_first (suc n) es in (d.0, ap (λ t. Poked p ∷ t) d.1)
through_first (suc n) (Left h code ∷ es) = let d = through_first (suc n) es in (d.0, ap (λ t. Left h code ∷ t) d.1)
through_first (suc n) (Did line ∷ es) = let d = through_first n es in (d.0, ap (λ t. Did line ∷ t) d.1)

-- ---- what a front says is no longer

record Front (xs ys : List LineTree) : Type 0 where
  more : List LineTree
  is : ys ≡ xs ++ more

front_by : (c : Option Place) (f g : Place → List LineTree) → ((q : Place) → Front (f q) (g q)) → Front (unwrap_or (option_map f c) []) (unwrap_or (option_map g c) [])
front_by None f g each = record { more = []; is = refl }
front_by (Some q) f g each = each q

lines_front : (o : Opening) (j k : List Entry) (p : Place) → Front (lines_from o p j) (lines_from o p (j ++ k))
lines_front o [] k p = record { more = lines_from o p k; is = refl }
lines_front o (e ∷ es) k p =
    let d = front_by (come o p e) (λ q. lines_from o q es) (λ q. lines_from o q (es ++ k)) (λ q. lines_front o es k q) in
    record { more = d.more; is = ap (λ t. entry_lines o p.state e ++ t) d.is ∙ sym (append_assoc (entry_lines o p.state e) (unwrap_or (option_map (λ q. lines_from o q es) (come o p e)) []) d.more) }

said_front : (o : Opening) (j k : List Entry) → length (said o j) ≤ length (said o (j ++ k))
unfolding said said_lines
said_front o j k =
    let d = lines_front o j k (first_place o) in
    let first = opening_lines o.settings.harts in
    let old = first ++ lines_from o (first_place o) j in
    let whole : first ++ lines_from o (first_place o) (j ++ k) ≡ old ++ d.more = ap (λ t. first ++ t) d.is ∙ sym (append_assoc first (lines_from o (first_place o) j) d.more) in
    let text : lines_bytes (first ++ lines_from o (first_place o) (j ++ k)) ≡ lines_bytes old ++ lines_bytes d.more = ap lines_bytes whole ∙ bytes_joined old d.more in
    let long = ap length text in
    omega (arith, long, length-append (lines_bytes old) (lines_bytes d.more))

pub said_through : (o : Opening) (n : ℕ) (j : List Entry) → length (said o (through n j)) ≤ length (said o j)
said_through o n j =
    let d = through_first n j in
    subst (λ (k : List Entry). length (said o (through n j)) ≤ length (said o k)) d.1 (said_front o (through n j) d.0)

-- ---- what a step of a hart does to a journal

-- no line came, and each cut of the journal is as it was
pub record Grown (j k : List Entry) : Type 0 where
  pub lines : did k ≡ did j
  pub through : (n : ℕ) → n ≤ length (did j) → through n k ≡ through n j
  pub until : (n : ℕ) → n < length (did j) → until k n ≡ until j n

pub grown_same : (j k : List Entry) → k ≡ j → Grown j k
grown_same j k is = record { lines = ap did is; through = λ n le. ap (through n) is; until = λ n low. ap (λ t. until t n) is }

grown_to : (j k l : List Entry) → l ≡ k → Grown j k → Grown j l
grown_to j k l is g = subst (λ (t : List Entry). Grown j t) (sym is) g

pub grown_more : (j es k : List Entry) → k ≡ j ++ es → did es ≡ [] → Grown j k
grown_more j es k is none = grown_to j (j ++ es) k is (record { lines = did_quiet j es none; through = λ n le. through_front n j es le; until = λ n low. until_front n j es low })

pub grown_lengthened : (j k : List Entry) (h : ℕ) → k ≡ lengthened j h → Grown j k
grown_lengthened j k h is = grown_to j (lengthened j h) k is (record { lines = did-lengthened j h; through = λ n le. through_lengthened n j h le; until = λ n low. until_lengthened n j h low })

grown_by : (j k l : List Entry) → Grown j k → Grown k l → Grown j l
grown_by j k l a b = record {
  lines = b.lines ∙ a.lines;
  through = λ n le. let e = ap length a.lines in b.through n (omega (arith, e)) ∙ a.through n le;
  until = λ n low. let e = ap length a.lines in b.until n (omega (arith, e)) ∙ a.until n low;
}

pub grown_exits : (j k : List Entry) (h : ℕ) (xs : List Hart) → k ≡ lengthened j h ++ lefts_from 0 xs → Grown j k
grown_exits j k h xs is = grown_by j (lengthened j h) k (grown_lengthened j (lengthened j h) h refl) (grown_more (lengthened j h) (lefts_from 0 xs) k is (did_lefts 0 xs))
