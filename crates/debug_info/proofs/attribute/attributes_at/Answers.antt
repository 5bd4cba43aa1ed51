use Rattle.debug_info.proofs.Words.{◌≡◌, ◌+◌, length, Option, Some, sym, ◌∙◌, ap, arith, rules, specification_at, values_from, extended, found, Specification, Attributes}
use Rattle.debug_info.proofs.Runs.{all_extended, at_run, next_value, specification_fault, value_fault}
use Rattle.debug_info.proofs.attribute.attributes_at.Goals as goal

pub specifications-init : goal.specifications-init
specifications-init c =
    let s = c.args.source.now in
    let left = values_from (length s.abbrevs.now + 1) s.abbrevs.now s.strs.now s.info.now c.args.specifications.at c.args.at in
    record {
      read = all_extended left ∙ ap (λ (a : Attributes). extended a left) (sym c.no_attributes-attributes.ensures);
      specified = c.requires.specifications;
      within = record { behind = omega arith; within = c.requires.within };
    }

pub returns-in_err-specification-clause-value : goal.returns-in_err-specification-clause-value
returns-in_err-specification-clause-value c =
    let s = c.args.source.now in
    let front = at_run _ s.abbrevs.now s.strs.now s.info.now _ _ c.specifications.specified c.specifications.place c.run-run.result c.specifications.invariant.read c.run-run.ensures c.unpacked.ensures c.with_flags-attributes.ensures in
    let e = specification_fault _ s.abbrevs.now s.strs.now s.info.now _ c.run-run.result.behind c.specifications.place _ front (sym c.in_err-specification.ensures.value) in
    search (rules, e)

pub returns-in_err-value-clause-value : goal.returns-in_err-value-clause-value
returns-in_err-value-clause-value c =
    let s = c.args.source.now in
    let w = c.in_ok-specification in
    let is : specification_at s.abbrevs.now c.run-run.result.behind ≡ found (Some c.in-Some.specification) w.next = sym w.ensures.value ∙ ap (λ (o : Option Specification). found o w.next) c.in-Some.is in
    let front = at_run _ s.abbrevs.now s.strs.now s.info.now _ _ c.specifications.specified c.specifications.place c.run-run.result c.specifications.invariant.read c.run-run.ensures c.unpacked.ensures c.with_flags-attributes.ensures in
    let e = value_fault _ s.abbrevs.now s.strs.now s.info.now _ c.run-run.result.behind w.next c.specifications.place c.in-Some.specification _ front is (sym c.in_err-value.ensures.value) in
    search (rules, e)

pub specifications-preserved : goal.specifications-preserved
specifications-preserved c =
    let s = c.args.source.now in
    let w = c.in_ok-specification in
    let v = c.in_ok-value in
    let is : specification_at s.abbrevs.now c.run-run.result.behind ≡ found (Some c.in-Some.specification) w.next = sym w.ensures.value ∙ ap (λ (o : Option Specification). found o w.next) c.in-Some.is in
    let front = at_run _ s.abbrevs.now s.strs.now s.info.now _ _ c.specifications.specified c.specifications.place c.run-run.result c.specifications.invariant.read c.run-run.ensures c.unpacked.ensures c.with_flags-attributes.ensures in
    let first = c.specifications.invariant.within.behind in
    let second = v.ensures.within.behind in
    record {
      read = next_value _ s.abbrevs.now s.strs.now s.info.now _ _ c.run-run.result.behind w.next c.specifications.place v.behind c.in-Some.specification v.value front is (sym v.ensures.value) c.with_value-attributes.ensures;
      specified = w.ensures.within.within;
      within = record { behind = omega arith; within = v.ensures.within.within };
    }
