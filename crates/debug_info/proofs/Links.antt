-- A typedef, const or volatile is followed.
use Rattle.debug_info.proofs.Words.{◌≡◌, ◌<◌, ◌-◌, ℕ, zero, suc, Bool, true, List, Option, Some, arith, sym, ◌∙◌, ap, if◌then◌else◌, is_modifier, kind_of, own_kind, type_entry, Entry, Kind}

pub kind_step : (entries : List Entry) (links : ℕ) (e : Entry) (o next : Option Entry) (whole : Kind) → 0 < links → is_modifier e.tag ≡ true → whole ≡ kind_of links entries o → o ≡ Some e → next ≡ type_entry entries e.type_of
    → whole ≡ kind_of (links - 1) entries next
kind_step entries zero e o next whole some modifier same is followed = absurd (omega arith)
kind_step entries (suc links) e o next whole some modifier same is followed =
    let left : links ≡ suc links - 1 = omega arith in
    same
    ∙ ap (kind_of (suc links) entries) is
    ∙ ap (λ (b : Bool). if b then kind_of links entries (type_entry entries e.type_of) else own_kind e.tag e.basic) modifier
    ∙ ap (kind_of links entries) (sym followed)
    ∙ ap (λ (n : ℕ). kind_of n entries next) left
