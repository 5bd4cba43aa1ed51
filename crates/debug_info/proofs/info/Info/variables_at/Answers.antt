use Rattle.debug_info.proofs.Words.{◌≡◌, ℕ, List, None, Some, sym, ◌∙◌, ap, subst, IfOk, find, nat_lt, value_from, function_at, Info, info_of, scope, variables_at, variables_by, seen, Variable, shown_variables, Span}
use Rattle.address_tables.specs.declared.entry.Entry.{Entry}
use Rattle.debug_info.proofs.info.Info.variables_at.Goals as goal

pub returns : goal.returns
returns c =
    let i = c.self.inside in
    let pc = c.args.pc in
    let place = c.in-Some.place in
    let function : function_at i.abbrevs.items i.strs.items i.info.items pc ≡ Some place =
    sym (c.in-Some.ensures ∙ ap (λ (es : List (Entry ℕ)). value_from None es c.from.result) c.deref.ensures.value ∙ ap (value_from None i.functions.items) c.from.ensures ∙ c.self.invariant.functions.value pc) in
    let shown : (x : Info) (us : List Span) → List Variable = λ x us. variables_at x pc place (find (λ s. nat_lt place s.end) us) in
    let info = c.deref-2.result.now in
    let abbrevs = c.deref-3.result.now in
    let strs = c.deref-4.result.now in
    let units = c.deref-7.result.now in
    let same : shown (info_of abbrevs strs info) units ≡ scope c.args.self.now pc =
    ap (λ (bs : List ℕ). shown (info_of bs strs info) units) c.deref-3.ensures.value
    ∙ ap (λ (bs : List ℕ). shown (info_of i.abbrevs.items bs info) units) c.deref-4.ensures.value
    ∙ ap (λ (bs : List ℕ). shown (info_of i.abbrevs.items i.strs.items bs) units) c.deref-2.ensures.value
    ∙ ap (shown (seen i)) (c.deref-7.ensures.value ∙ c.self.invariant.units)
    ∙ ap (variables_by (seen i) pc) (sym function)
    ∙ ap (λ (x : Info). scope x pc) c.self.view_is in
    subst (λ (vs : List Variable). IfOk c.variables_at.result (λ v. shown_variables v.items ≡ vs)) same c.variables_at.ensures
