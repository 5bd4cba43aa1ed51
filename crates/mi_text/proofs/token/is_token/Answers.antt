use Rattle.std.proofs.Common.{length}
use Rattle.std.proofs.lemmas.Bool.{le-leb}
use Rattle.mi_text.proofs.token.is_token.Goals as goal

pub returns-then-bytes-le-MOST : goal.returns-then-bytes-le-MOST
returns-then-bytes-le-MOST c = rw (le-leb (length c.args.bytes.now) 18 c.if-bytes-le-MOST.true) c.are_digits.ensures
