use Rattle.debug_info.proofs.Words.{arith}
use Rattle.debug_info.proofs.Texts.{lengths_more}
use Rattle.debug_info.proofs.text_lengths.text_lengths_of.Goals as goal

pub places-preserved : goal.places-preserved
places-preserved c =
    record {
      lengths = lengths_more c.args.section.now c.places.lengths.items _ c.length_before-length.result _ (omega arith) c.in_ok-push-2.ensures.items c.places.invariant.lengths c.length_before-length.ensures.value;
      count = omega (arith, c.in_ok-push-2.ensures);
      last = c.length_before-length.ensures.value;
      within = c.length_before-length.ensures.room;
    }
