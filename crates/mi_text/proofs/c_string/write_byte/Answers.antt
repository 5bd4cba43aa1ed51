use Rattle.mi_text.proofs.Kept.{keeps_either}
use Rattle.mi_text.proofs.c_string.write_byte.Goals as goal

pub returns-clause-kept : goal.returns-clause-kept
returns-clause-kept c = keeps_either _ _ _ _ c.extend_from_slice.ensures.items
