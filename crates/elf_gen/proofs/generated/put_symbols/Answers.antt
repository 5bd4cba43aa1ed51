-- Five entries, one after the other.
use Rattle.std.proofs.lemmas.Result.{on_ok_weaker}
use Rattle.elf_gen.proofs.Joined.{joined_five}
use Rattle.elf_gen.proofs.generated.put_symbols.Goals as goal

pub returns : goal.returns
returns c =
    on_ok_weaker c.put_symbol-5.result
    (joined_five _ _ _ _ _ _ _ _ _ _ _ c.in_ok-put_symbol.ensures c.in_ok-put_symbol-2.ensures c.in_ok-put_symbol-3.ensures c.in_ok-put_symbol-4.ensures)
    c.put_symbol-5.ensures
