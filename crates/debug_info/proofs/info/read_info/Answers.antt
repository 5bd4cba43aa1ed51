use Rattle.debug_info.proofs.Words.{ℕ, ◌<◌, ◌^◌, List, length, rules, subst, ◌∙◌, value_among, AddressRange}
use Rattle.address_tables.specs.Tables.{IsTable}
use Rattle.debug_info.proofs.info.read_info.Goals as goal

pub invariant_of-result : goal.invariant_of-result
invariant_of-result c =
    let contents = c.in_ok-contents.ensures in
    let abbrevs = c.in_ok-from_slice.ensures.items in
    let strs = c.in_ok-from_slice-2.ensures.items in
    let info = c.in_ok-from_slice-3.ensures.items in
    record {
      lengths = rw strs c.in_ok-lengths.ensures;
      index = rw abbrevs c.in_ok-index.ensures;
      short = rw info (let h : length c.args.sections.now.info.now < 2 ^ 32 = search rules in h);
      spans = rw info contents.spans;
      units = rw info contents.units;
      faults = rw (abbrevs, strs, info) contents.faults;
      functions = rw (abbrevs, strs, info) (subst (λ (fs : List (AddressRange ℕ)). IsTable c.in_ok-functions.functions.items (value_among fs)) (c.deref.ensures.value ∙ contents.functions) c.in_ok-functions.ensures);
    }
