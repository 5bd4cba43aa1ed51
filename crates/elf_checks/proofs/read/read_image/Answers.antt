use Rattle.elf_checks.proofs.Accepted.{are_whole}
use Rattle.elf_checks.proofs.read.read_image.Goals as goal

pub of-requires : goal.of-requires
of-requires c =
    let read = rw c.deref.ensures.value at c.in_ok-tables.ensures.tables in
    are_whole c.args.bytes.items c.in_ok-tables.tables read.accepted read.tables
