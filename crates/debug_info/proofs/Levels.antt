-- The variables of one level more.
use Rattle.debug_info.proofs.Words.{◌≡◌, ◌<◌, ◌-◌, ◌++◌, ℕ, zero, suc, List, map, filter, arith, sym, ◌∙◌, ap, append_assoc, ◌==◌, map-append, Variable, by_depth, Entry}

pub level_step : (f : Entry → Variable) (own listed : List Entry) (level : ℕ) (whole old new : List Variable) → 0 < level → listed ≡ own → whole ≡ old ++ map f (by_depth level own)
    → new ≡ old ++ map f (filter (λ e. e.level == level) listed) → whole ≡ new ++ map f (by_depth (level - 1) own)
level_step f own listed zero whole old new some same was is = absurd (omega arith)
level_step f own listed (suc level) whole old new some same was is =
    let left : level ≡ suc level - 1 = omega arith in
    was
    ∙ ap (λ (vs : List Variable). old ++ vs) (map-append f (filter (λ e. e.level == suc level) own) (by_depth level own))
    ∙ sym (append_assoc old (map f (filter (λ e. e.level == suc level) own)) (map f (by_depth level own)))
    ∙ ap (λ (es : List Entry). (old ++ map f (filter (λ e. e.level == suc level) es)) ++ map f (by_depth level own)) (sym same)
    ∙ ap (λ (vs : List Variable). vs ++ map f (by_depth level own)) (sym is)
    ∙ ap (λ (n : ℕ). new ++ map f (by_depth n own)) left
