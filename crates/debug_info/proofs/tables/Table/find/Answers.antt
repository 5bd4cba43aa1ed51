use Rattle.debug_info.proofs.Words.{◌≡◌, ◌≤◌, ◌+◌, length, Result, sym, ◌∙◌, ap, subst, IfOk, abbreviation_of, Declaration, InfoFault}
use Rattle.debug_info.proofs.Behind.{abbreviation_within}
use Rattle.debug_info.proofs.Tabled.{found_in, looked_up}
use Rattle.debug_info.proofs.tables.Table.find.Goals as goal

pub returns-in-Some : goal.returns-in-Some
returns-in-Some c =
    let t = c.args.self.now in
    let is : abbreviation_of (length c.args.abbrevs.now + 1) c.args.abbrevs.now c.args.code t.at ≡ c.declaration_in.result =
    found_in c.args.abbrevs.now t.end t.at c.args.code _ _ c.requires.table ∙ ap (looked_up c.args.abbrevs.now t.end) (sym c.in-Some.ensures.value) ∙ sym c.declaration_in.ensures in
    record {
      value = sym is;
      within = subst (λ (r : Result Declaration InfoFault). IfOk r (λ d. d.attributes.at ≤ length c.args.abbrevs.now)) is (abbreviation_within (length c.args.abbrevs.now + 1) c.args.abbrevs.now c.args.code t.at);
    }

pub returns-in-None : goal.returns-in-None
returns-in-None c =
    let t = c.args.self.now in
    let is = found_in c.args.abbrevs.now t.end t.at c.args.code _ _ c.requires.table ∙ ap (looked_up c.args.abbrevs.now t.end) (sym c.in-None.ensures.value) in
    record { value = sym is; within = tt }
