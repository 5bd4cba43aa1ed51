-- What the fields of a line, of a tuple and of a list are, field by field.
use Rattle.std.proofs.Common.{◌≡◌, ℕ, List, [], ◌∷◌, ◌++◌, true, false, refl, ap, ◌∙◌, append_assoc}
use Rattle.mi_values.specs.declared.sign.NoticeSign.{NoticeSign}
use Rattle.std.specs.Prelude.{codes}
use Rattle.std.specs.List.{list_all}
use Rattle.mi_text.specs.CString.{c_string, is_own}
use Rattle.mi_text.proofs.Spelled.{own_escapes}
use Rattle.mi_values.specs.Tree.{Tree, text, tuple, items, item, no_item, named, fields_of, items_of}
use Rattle.mi_values.specs.FieldLists.{tuple_of, in_brackets, notice_of, result_of}
use Rattle.mi_values.specs.Spelling.{value_bytes, fields_from, items_from}
use Rattle.mi_values.specs.Record.{line_bytes}
use Rattle.mi_reports.specs.declared.words.Key.{Key}
use Rattle.mi_reports.specs.Words.{key_text, says}
use Rattle.mi_reports.specs.Led.{head, led, behind, opened, begun, item_led, items_behind, items_opened, answered}

abbrev F : Type 0
F = List ℕ × Tree

-- behind a first field, or behind a class
pub behind_closed : (close : ℕ) (fs : List F) → fields_from close true (fields_of fs) ≡ behind fs ++ close ∷ []
unfolding value_bytes led
behind_closed close [] = refl
behind_closed close (f ∷ fs) = ap (λ (l : List ℕ). 44 ∷ (f.0 ++ (61 ∷ (value_bytes f.1 ++ l)))) (behind_closed close fs) ∙ simp append_assoc

-- in brackets
pub opened_closed : (lead close : ℕ) (fs : List F) → lead ∷ fields_from close false (fields_of fs) ≡ opened lead fs ++ close ∷ []
unfolding value_bytes led
opened_closed lead close [] = refl
opened_closed lead close (f ∷ fs) = ap (λ (l : List ℕ). lead ∷ (f.0 ++ (61 ∷ (value_bytes f.1 ++ l)))) (behind_closed close fs) ∙ simp append_assoc

-- a field is its head and its value
pub led_head : (lead : ℕ) (k : Key) (v : Tree) → led lead (key_text k, v) ≡ head lead k ++ value_bytes v
unfolding led head
led_head lead k v = simp append_assoc

pub text_led : (lead : ℕ) (k : Key) (t : List ℕ) → led lead (says k t) ≡ head lead k ++ c_string t
unfolding value_bytes
text_led lead k t = led_head lead k (text t)

-- a text whose bytes are spelled as they are
pub own_led : (lead : ℕ) (k : Key) (t : List ℕ) → list_all is_own t ≡ true → led lead (says k t) ≡ head lead k ++ (codes "\"" ++ (t ++ codes "\""))
own_led lead k t own = text_led lead k t ∙ ap (λ (l : List ℕ). head lead k ++ (34 ∷ (l ++ 34 ∷ []))) (own_escapes t own)

pub tuple_led : (lead : ℕ) (k : Key) (fs : List F) → led lead (key_text k, tuple_of fs) ≡ head lead k ++ (opened 123 fs ++ 125 ∷ [])
unfolding value_bytes tuple_of
tuple_led lead k fs = led_head lead k (tuple (fields_of fs)) ∙ ap (λ (l : List ℕ). head lead k ++ l) (opened_closed 123 125 fs)

pub brackets_led : (lead : ℕ) (k : Key) (fs : List F) → led lead (key_text k, in_brackets fs) ≡ head lead k ++ (opened 91 fs ++ 93 ∷ [])
unfolding value_bytes in_brackets
brackets_led lead k [] = led_head lead k (items no_item)
brackets_led lead k (f ∷ fs) = led_head lead k (named (fields_of (f ∷ fs))) ∙ ap (λ (l : List ℕ). head lead k ++ l) (opened_closed 91 93 (f ∷ fs))

pub empty_led : (lead : ℕ) (k : Key) → led lead (key_text k, items no_item) ≡ head lead k ++ 91 ∷ 93 ∷ []
unfolding value_bytes
empty_led lead k = led_head lead k (items no_item)

pub one_led : (lead : ℕ) (k : Key) (t : List ℕ) → led lead (key_text k, items (item (text t) no_item)) ≡ head lead k ++ (91 ∷ (c_string t ++ 93 ∷ []))
unfolding value_bytes
one_led lead k t = led_head lead k (items (item (text t) no_item))

-- a line of what happened
pub notice_led : (sign : NoticeSign) (class : Key) (fs : List F) → line_bytes (notice_of sign (key_text class) fs) ≡ begun sign class ++ (behind fs ++ 10 ∷ [])
unfolding line_bytes notice_of begun
notice_led sign class fs = ap (λ (l : List ℕ). begun sign class ++ l) (behind_closed 10 fs)

-- the line of an answer
pub result_led : (token : List ℕ) (class : Key) (fs : List F) → line_bytes (result_of token (key_text class) fs) ≡ answered token class ++ (behind fs ++ 10 ∷ [])
unfolding line_bytes result_of answered
result_led token class fs = ap (λ (l : List ℕ). token ++ (94 ∷ (key_text class ++ l))) (behind_closed 10 fs) ∙ simp append_assoc

-- values in brackets
items_closed : (vs : List Tree) → items_from true (items_of vs) ≡ items_behind vs ++ 93 ∷ []
unfolding value_bytes item_led
items_closed [] = refl
items_closed (v ∷ vs) = ap (λ (l : List ℕ). 44 ∷ (value_bytes v ++ l)) (items_closed vs) ∙ simp append_assoc

pub list_bytes : (vs : List Tree) → value_bytes (items (items_of vs)) ≡ items_opened 91 vs ++ 93 ∷ []
unfolding value_bytes item_led
list_bytes [] = refl
list_bytes (v ∷ vs) = ap (λ (l : List ℕ). 91 ∷ (value_bytes v ++ l)) (items_closed vs) ∙ simp append_assoc

pub list_led : (lead : ℕ) (k : Key) (vs : List Tree) → led lead (key_text k, items (items_of vs)) ≡ head lead k ++ (items_opened 91 vs ++ 93 ∷ [])
list_led lead k vs = led_head lead k (items (items_of vs)) ∙ ap (λ (l : List ℕ). head lead k ++ l) (list_bytes vs)

-- a tuple that is a value of a list
pub tuple_item_led : (lead : ℕ) (fs : List F) → item_led lead (tuple_of fs) ≡ lead ∷ (opened 123 fs ++ 125 ∷ [])
unfolding value_bytes tuple_of item_led
tuple_item_led lead fs = ap (λ (l : List ℕ). lead ∷ l) (opened_closed 123 125 fs)

-- a list of one tuple
pub one_tuple_led : (lead : ℕ) (k : Key) (fs : List F) → led lead (key_text k, items (item (tuple_of fs) no_item)) ≡ head lead k ++ (91 ∷ (opened 123 fs ++ 125 ∷ 93 ∷ []))
unfolding value_bytes tuple_of
one_tuple_led lead k fs =
    led_head lead k (items (item (tuple (fields_of fs)) no_item)) ∙ ap (λ (l : List ℕ). head lead k ++ (91 ∷ (l ++ 93 ∷ []))) (opened_closed 123 125 fs)
    ∙ ap (λ (l : List ℕ). head lead k ++ (91 ∷ l)) (append_assoc (opened 123 fs) (125 ∷ []) (93 ∷ []))

-- a text that is a value of a list
pub text_item_led : (lead : ℕ) (t : List ℕ) → item_led lead (text t) ≡ lead ∷ c_string t
unfolding value_bytes item_led
text_item_led lead t = refl
