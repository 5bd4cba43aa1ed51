-- Records that are read one by one.
use Rattle.std.proofs.Common.{◌≡◌, ◌<◌, ◌≤◌, ◌+◌, ◌-◌, ℕ, List, [], ◌∷◌, ◌++◌, length, take, drop, refl, sym, ap, ◌∙◌, subst, arith}
use Rattle.std.proofs.lemmas.Bool.Decides.{nat_tests}
use Rattle.std.proofs.lemmas.List.{length-append, length-drop, drop-drop, drop_all}
use Rattle.std.proofs.lemmas.List.Concat.{flat_map-cons}
use Rattle.std.proofs.Math.Seq.{drop-append_seam, take-length}
use Rattle.mi_text.specs.CString.{escaped, escapes, c_string}
use Rattle.mi_values.specs.declared.sign.StreamSign.TheVariants.{Target, Log}
use Rattle.mi_values.specs.Record.{LineTree, result, notice, stream, prompt, class_bytes, line_bytes, Record}
use Rattle.mi_values.specs.Line.{Begins}
use Rattle.mi_values.specs.Records.{AreRecords, lines_bytes, streamed, streamed_by}

escaped_some : (b : ℕ) → 0 < length (escaped b)
unfolding escaped
escaped_some b = grind (arith, nat_tests)

-- a text isn't longer than its spelling
escapes_longer : (text : List ℕ) → length text ≤ length (escapes text)
escapes_longer [] = omega arith
escapes_longer (b ∷ bs) =
    let some = escaped_some b in
    let ih = escapes_longer bs in
    let cut : length (escapes (b ∷ bs)) ≡ length (escaped b) + length (escapes bs) = ap length (flat_map-cons escaped b bs) ∙ length-append (escaped b) (escapes bs) in
    omega arith

-- a record is longer than what it shows
pub shown_less : (tree : LineTree) → length (streamed_by tree) < length (line_bytes tree)
unfolding line_bytes
shown_less (result token class fields) = omega (arith, length-append token (94 ∷ class_bytes class fields))
shown_less (notice sign class fields) = omega arith
shown_less (stream Target text) =
    let more = escapes_longer text in
    omega (arith, length-append (c_string text) (10 ∷ []), length-append (escapes text) (34 ∷ []))
shown_less (stream Log text) = omega arith
shown_less prompt = omega arith

-- of a text some records were read, which were as long as `again` and showed so many bytes
pub record Shows (text again : List ℕ) (count : ℕ) : Type 0 where
  pub within : length again ≤ length text
  pub few : count ≤ length again
  pub rest : (trees : List LineTree) → AreRecords text trees → (rest : List LineTree) × AreRecords (drop (length again) text) rest × (count + length (streamed rest) ≡ length (streamed trees))

-- a record was read at the end of those
further : (text again more : List ℕ) (count n total : ℕ) (tree : LineTree) (rest : List LineTree) → AreRecords (drop (length again) text) rest
    → count + length (streamed rest) ≡ total → n ≡ length (streamed_by tree) → more ≡ again ++ line_bytes tree → Begins (drop (length again) text) tree
    → ((t : LineTree) (front behind : List ℕ) → Record front t → drop (length again) text ≡ front ++ behind → tree ≡ t) → (ts : List LineTree) × AreRecords (drop (length more) text) ts × ((count + n) + length (streamed ts) ≡ total)
further text again more count n total tree [] are sum is grows begins only =
    let some = shown_less tree in
    let spelled : length begins.front ≡ length (line_bytes tree) = ap length begins.line.text in
    let none : length (begins.front ++ begins.rest) ≡ 0 = ap length (sym begins.whole ∙ are.text) in
    absurd (omega (arith, some, spelled, none, length-append begins.front begins.rest))
further text again more count n total tree (t ∷ ts) are sum is grows begins only =
    let cut : drop (length again) text ≡ line_bytes t ++ lines_bytes ts = are.text ∙ flat_map-cons line_bytes t ts in
    let same : tree ≡ t = only t (line_bytes t) (lines_bytes ts) (record { line = are.lines.0; text = refl }) cut in
    let size : length again + length (line_bytes t) ≡ length more = ap (λ (x : LineTree). length again + length (line_bytes x)) (sym same) ∙ (sym (length-append again (line_bytes tree)) ∙ ap length (sym grows)) in
    let behind : drop (length more) text ≡ lines_bytes ts = ap (λ (k : ℕ). drop k text) (sym size) ∙
    (sym (drop-drop (length (line_bytes t)) (length again) text) ∙ (ap (drop (length (line_bytes t))) cut ∙ drop-append_seam (line_bytes t) (lines_bytes ts))) in
    let shown : length (streamed (t ∷ ts)) ≡ length (streamed_by t) + length (streamed ts) = ap length (flat_map-cons streamed_by t ts) ∙ length-append (streamed_by t) (streamed ts) in
    let one : n ≡ length (streamed_by t) = is ∙ ap (λ (x : LineTree). length (streamed_by x)) same in
    (ts, record { lines = are.lines.1; text = behind }, omega (arith, sum, shown, one))

-- what stands at the end of those
pub tail_is : (text again : List ℕ) (len : ℕ) → len ≡ length again → take (length text - len) (drop len text) ≡ drop (length again) text
tail_is text again len is = rw is (ap (λ (k : ℕ). take k (drop (length again) text)) (sym (length-drop (length again) text)) ∙ take-length (drop (length again) text))

pub shows_more : (text again more bytes : List ℕ) (count n : ℕ) (tree : LineTree) → bytes ≡ drop (length again) text → Shows text again count → n ≡ length (streamed_by tree) → more ≡ again ++ line_bytes tree → Begins bytes tree
    → ((t : LineTree) (front behind : List ℕ) → Record front t → bytes ≡ front ++ behind → tree ≡ t) → Shows text more (count + n)
shows_more text again more bytes count n tree at s is grows first one =
    let begins : Begins (drop (length again) text) tree = subst (λ (b : List ℕ). Begins b tree) at first in
    let only : (t : LineTree) (front behind : List ℕ) → Record front t → drop (length again) text ≡ front ++ behind → tree ≡ t = λ t front behind record_is whole. one t front behind record_is (at ∙ whole) in
    let less = shown_less tree in
    let within = s.within in
    let few = s.few in
    let size : length more ≡ length again + length (line_bytes tree) = ap length grows ∙ length-append again (line_bytes tree) in
    let spelled : length begins.front ≡ length (line_bytes tree) = ap length begins.line.text in
    let whole : length text - length again ≡ length begins.front + length begins.rest = sym (length-drop (length again) text) ∙ (ap length begins.whole ∙ length-append begins.front begins.rest) in
    record {
      within = omega (arith, within, size, spelled, whole);
      few = omega (arith, few, less, is, size);
      rest = λ trees are. let r = s.rest trees are in further text again more count n (length (streamed trees)) tree r.0 r.1 r.2 is grows begins only;
    }

nothing : (bytes : List ℕ) (rest : List LineTree) → bytes ≡ [] → AreRecords bytes rest → (count total : ℕ) → count + length (streamed rest) ≡ total → count ≡ total
nothing bytes [] none are count total is = omega (arith, is)
nothing bytes (t ∷ ts) none are count total is =
    let some = shown_less t in
    let zero : length (line_bytes t ++ lines_bytes ts) ≡ 0 = ap length (sym (flat_map-cons line_bytes t ts) ∙ (sym are.text ∙ none)) in
    absurd (omega (arith, some, zero, length-append (line_bytes t) (lines_bytes ts)))

-- behind the last record
pub shows_all : (text again : List ℕ) (count : ℕ) → Shows text again count → length text ≤ length again → (trees : List LineTree) → AreRecords text trees → count ≡ length (streamed trees)
shows_all text again count s all trees are =
    let r = s.rest trees are in
    let none : drop (length again) text ≡ [] = drop_all (length again) text all in
    nothing (drop (length again) text) r.0 none r.1 count (length (streamed trees)) r.2

-- and less is left to read
pub less_left : (text again more : List ℕ) (tree : LineTree) → length again < length text → more ≡ again ++ line_bytes tree → length text - length more < length text - length again
less_left text again more tree low grows =
    let some = shown_less tree in
    let size : length more ≡ length again + length (line_bytes tree) = ap length grows ∙ length-append again (line_bytes tree) in
    omega (arith, low, some, size)
