-- The lines of records: none begins with `#`, and each has one LF, at its end.
use Rattle.std.proofs.Common.{◌≡◌, ℕ, ◌+◌, ◌/◌, ◌%◌, ◌≤◌, Bool, true, false, ◌==◌, not, cond, List, [], ◌∷◌, ◌++◌, map, refl, sym, ap, subst, ◌∙◌, arith}
use Rattle.std.proofs.lemmas.Bool.{and_parts, ne_eqb}
use Rattle.std.proofs.lemmas.Bool.Decides.{nat_tests}
use Rattle.std.proofs.lemmas.List.Concat.{flat_map-cons}
use Rattle.std.specs.List.{list_all}
use Rattle.std.specs.Prelude.{nat_le, ◌&&◌}
use Rattle.mi_text.specs.CString.{escaped, escapes, c_string}
use Rattle.mi_text.specs.Digits.{is_digit}
use Rattle.mi_text.specs.Token.{is_token}
use Rattle.mi_values.specs.declared.sign.NoticeSign.TheVariants.{Exec, Notify}
use Rattle.mi_values.specs.declared.sign.StreamSign.TheVariants.{Target, Log}
use Rattle.mi_values.specs.Name.{is_name, is_name_byte, are_name_bytes}
use Rattle.mi_values.specs.Tree.{Tree, text, tuple, items, named, Trees, no_item, item, Fields, no_field, field}
use Rattle.mi_values.specs.Proper.{IsProper, AreProperItems, AreProperFields}
use Rattle.mi_values.specs.Spelling.{comma, value_bytes, items_from, fields_from}
use Rattle.mi_values.specs.Record.{LineTree, result, notice, stream, prompt, IsLine, line_bytes, class_bytes}
use Rattle.mi_values.specs.Records.{lines_bytes, AreLines}
use Rattle.session_log.specs.LogText.{lines, is_lf, is_marked, is_plain, IsPlainText}
use Rattle.session_log.proofs.Cuts.{none_pass}
use Rattle.session_log.proofs.Pieces.{IsOneLine, byte_line, word_line, lf_line}

abbrev Without : List ℕ → Type 0
Without w = none_pass is_lf w ≡ true

no_lf : (b : ℕ) → 11 ≤ b → is_lf b ≡ false
no_lf b h = ne_eqb b 10 (λ e. omega arith)

byte_without : (b : ℕ) (w : List ℕ) → is_lf b ≡ false → Without w → Without (b ∷ w)
byte_without b w h g = rw h g

joined_without : (a b : List ℕ) → Without a → Without b → Without (a ++ b)
joined_without [] b h g = g
joined_without (x ∷ a) b h g = let k = and_parts (not (is_lf x)) (none_pass is_lf a) h in rw k.0 (joined_without a b k.1 g)

either : (c : Bool) (x y : List ℕ) → (c ≡ true → Without x) → Without y → Without (cond c x y)
either true x y h g = h refl
either false x y h g = g

-- ---- a C string

plain_byte : (b : ℕ) → (nat_le 32 b && nat_le b 126) ≡ true → Without (b ∷ [])
plain_byte b h = grind (arith, nat_tests)

octal : (b : ℕ) → Without (92 ∷ (48 + b / 64) ∷ (48 + b / 8 % 8) ∷ (48 + b % 8) ∷ [])
octal b = rw (no_lf (48 + b / 64) (omega arith), no_lf (48 + b / 8 % 8) (omega arith), no_lf (48 + b % 8) (omega arith)) refl

escaped_without : (b : ℕ) → Without (escaped b)
unfolding escaped
escaped_without b =
    either (b == 34) _ _ (λ _. refl) (either (b == 92) _ _ (λ _. refl) (either (b == 10) _ _ (λ _. refl)
    (either (b == 13) _ _ (λ _. refl) (either (b == 9) _ _ (λ _. refl)
    (either (nat_le 32 b && nat_le b 126) _ _ (plain_byte b) (octal b))))))

escapes_without : (t : List ℕ) → Without (escapes t)
escapes_without [] = refl
escapes_without (b ∷ t) = rw (flat_map-cons escaped b t) (joined_without (escaped b) (escapes t) (escaped_without b) (escapes_without t))

c_string_without : (t : List ℕ) → Without (c_string t)
c_string_without t = joined_without (escapes t) (34 ∷ []) (escapes_without t) refl

-- ---- names, values and fields

name_byte : (b : ℕ) → is_name_byte b ≡ true → is_lf b ≡ false
name_byte b h = grind (arith, nat_tests)

name_bytes_without : (n : List ℕ) → are_name_bytes n ≡ true → Without n
name_bytes_without [] h = refl
name_bytes_without (b ∷ n) h = let k = and_parts (is_name_byte b) (are_name_bytes n) h in rw (name_byte b k.0) (name_bytes_without n k.1)

name_without : (n : List ℕ) → is_name n ≡ true → Without n
name_without [] h = refl
name_without (b ∷ n) h = name_bytes_without (b ∷ n) h

comma_without : (started : Bool) → Without (comma started)
comma_without true = refl
comma_without false = refl

mutual
  unfolding value_bytes

  value_without : (v : Tree) (d : ℕ) → IsProper v d → Without (value_bytes v)
  value_without (text t) d h = c_string_without t
  value_without (tuple fs) d h = fields_without 125 false fs _ refl h.1
  value_without (items vs) d h = items_without false vs _ h.1
  value_without (named fs) d h = fields_without 93 false fs _ refl h.2

  items_without : (started : Bool) (vs : Trees) (d : ℕ) → AreProperItems vs d → Without (items_from started vs)
  items_without started no_item d h = refl
  items_without started (item v vs) d h =
      joined_without (comma started) (value_bytes v ++ items_from true vs) (comma_without started)
      (joined_without (value_bytes v) (items_from true vs) (value_without v d h.0) (items_without true vs d h.1))

  fields_without : (close : ℕ) (started : Bool) (fs : Fields) (d : ℕ) → is_lf close ≡ false → AreProperFields fs d → Without (fields_from close started fs)
  fields_without close started no_field d n h = rw n refl
  fields_without close started (field m v fs) d n h =
      joined_without (comma started) (m ++ (61 ∷ (value_bytes v ++ fields_from close true fs))) (comma_without started)
      (joined_without m (61 ∷ (value_bytes v ++ fields_from close true fs)) (name_without m h.0)
      (joined_without (value_bytes v) (fields_from close true fs) (value_without v d h.1) (fields_without close true fs d n h.2)))

-- ---- a line

fields_line : (started : Bool) (fs : Fields) (d : ℕ) → AreProperFields fs d → IsOneLine (fields_from 10 started fs)
unfolding value_bytes
fields_line started no_field d h = lf_line
fields_line started (field m v fs) d h =
    word_line (comma started) (m ++ (61 ∷ (value_bytes v ++ fields_from 10 true fs))) (comma_without started)
    (word_line m (61 ∷ (value_bytes v ++ fields_from 10 true fs)) (name_without m h.0)
    (byte_line 61 (value_bytes v ++ fields_from 10 true fs) refl
    (word_line (value_bytes v) (fields_from 10 true fs) (value_without v d h.1) (fields_line true fs d h.2))))

class_line : (class : List ℕ) (fields : Fields) → is_name class ≡ true → AreProperFields fields 16 → IsOneLine (class_bytes class fields)
class_line class fields n h = word_line class (fields_from 10 true fields) (name_without class n) (fields_line true fields 16 h)

digit_byte : (b : ℕ) → is_digit b ≡ true → (is_lf b ≡ false) × ((b == 35) ≡ false)
digit_byte b h = (grind (arith, nat_tests), grind (arith, nat_tests))

digits_without : (ds : List ℕ) → list_all is_digit ds ≡ true → Without ds
digits_without [] h = refl
digits_without (d ∷ ds) h = let k = and_parts (is_digit d) (list_all is_digit ds) h in rw (digit_byte d k.0).0 (digits_without ds k.1)

token_digits : (t : List ℕ) → is_token t ≡ true → list_all is_digit t ≡ true
token_digits t h = (and_parts _ (list_all is_digit t) h).1

token_unmarked : (t more : List ℕ) → list_all is_digit t ≡ true → is_marked (t ++ 94 ∷ more) ≡ false
token_unmarked [] more h = refl
token_unmarked (d ∷ t) more h = (digit_byte d (and_parts (is_digit d) (list_all is_digit t) h).0).1

stream_line : (sign : ℕ) (t : List ℕ) → is_lf sign ≡ false → IsOneLine (sign ∷ (c_string t ++ 10 ∷ []))
stream_line sign t n = byte_line sign (c_string t ++ 10 ∷ []) n (word_line (c_string t) (10 ∷ []) (c_string_without t) lf_line)

prompt_line : IsOneLine (40 ∷ 103 ∷ 100 ∷ 98 ∷ 41 ∷ 10 ∷ [])
prompt_line = word_line (40 ∷ 103 ∷ 100 ∷ 98 ∷ 41 ∷ []) (10 ∷ []) refl lf_line

record_line : (tree : LineTree) → IsLine tree → IsOneLine (line_bytes tree)
unfolding line_bytes
record_line (result t c f) h =
    word_line t (94 ∷ class_bytes c f) (digits_without t (token_digits t h.0)) (byte_line 94 (class_bytes c f) refl (class_line c f h.1 h.2))
record_line (notice Exec c f) h = byte_line 42 (class_bytes c f) refl (class_line c f h.0 h.1)
record_line (notice Notify c f) h = byte_line 61 (class_bytes c f) refl (class_line c f h.0 h.1)
record_line (stream Target t) h = stream_line 64 t refl
record_line (stream Log t) h = stream_line 38 t refl
record_line prompt h = prompt_line

record_unmarked : (tree : LineTree) → IsLine tree → is_marked (line_bytes tree) ≡ false
unfolding line_bytes
record_unmarked (result t c f) h = token_unmarked t (class_bytes c f) (token_digits t h.0)
record_unmarked (notice Exec c f) h = refl
record_unmarked (notice Notify c f) h = refl
record_unmarked (stream Target t) h = refl
record_unmarked (stream Log t) h = refl
record_unmarked prompt h = refl

record_plain : (tree : LineTree) → IsLine tree → is_plain (line_bytes tree) ≡ true
record_plain tree h = rw ((record_line tree h).1, record_unmarked tree h) refl

record_lines : (trees : List LineTree) → AreLines trees → lines (lines_bytes trees) ≡ map line_bytes trees
record_lines [] h = refl
record_lines (t ∷ ts) h =
    ap lines (flat_map-cons line_bytes t ts) ∙ (record_line t h.0).0 (lines_bytes ts) ∙ ap (λ (ls : List (List ℕ)). line_bytes t ∷ ls) (record_lines ts h.1)

records_plain : (trees : List LineTree) → AreLines trees → list_all is_plain (map line_bytes trees) ≡ true
records_plain [] h = refl
records_plain (t ∷ ts) h = rw (record_plain t h.0, records_plain ts h.1) refl

pub one_line_each : (trees : List LineTree) → AreLines trees → (lines (lines_bytes trees) ≡ map line_bytes trees) × IsPlainText (lines_bytes trees)
one_line_each trees h =
    let e = record_lines trees h in
    (e, subst (λ (ls : List (List ℕ)). list_all is_plain ls ≡ true) (sym e) (records_plain trees h))
