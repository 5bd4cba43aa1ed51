use Rattle.debug_info.proofs.Words.{◌≡◌, ◌≤◌, ◌+◌, ◌-◌, length, attributes_at, values_from, IsReadTo, extended}
use Rattle.debug_info.proofs.attribute.attributes_at.Given as goal

abbrev pub invariant-specifications : goal.invariant-specifications
invariant-specifications l =
    record {
      read : attributes_at l.source.abbrevs.now l.source.strs.now l.source.info.now l.fn.specifications.at l.at
          ≡ extended l.attributes (values_from (length l.source.abbrevs.now + 1) l.source.abbrevs.now l.source.strs.now l.source.info.now l.specified l.place);
      specified : l.specified ≤ length l.source.abbrevs.now;
      within : IsReadTo l.source.info.now l.at l.place;
    }

abbrev pub decreases-specifications : goal.decreases-specifications
decreases-specifications l = length l.source.abbrevs.now - l.specified
