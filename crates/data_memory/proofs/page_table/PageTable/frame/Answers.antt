use Rattle.std.proofs.Common.{◌≡◌, ◌<◌, length, ap, sym, ◌∙◌, arith}
use Rattle.std.specs.Prelude.{slice_index}
use Rattle.data_memory.specs.Blocks.{spot, item_at}
use Rattle.data_memory.proofs.Blocked.{spot_within, listed_item}
use Rattle.std.proofs.lemmas.Grind.{get_or_default_zero}
use Rattle.data_memory.proofs.page_table.PageTable.frame.Goals as goal

pub index-requires : goal.index-requires
index-requires c =
    omega (
      arith,
      c.spot_in.ensures,
      ap (λ d. spot d c.args.page) c.as_slice.ensures.value,
      spot_within 0 16384 c.self.inside.directory.items c.self.inside.tables.items c.args.page c.self.invariant (omega (arith, c.requires)),
      c.self.inside.tables.ok.0,
    )

pub returns : goal.returns
returns c =
    let at : c.spot_in.result ≡ spot c.self.inside.directory.items c.args.page = c.spot_in.ensures ∙ ap (λ d. spot d c.args.page) c.as_slice.ensures.value in
    let within : c.spot_in.result < length c.self.inside.tables.items =
    omega (arith, at, spot_within 0 16384 c.self.inside.directory.items c.self.inside.tables.items c.args.page c.self.invariant (omega (arith, c.requires))) in
    c.index.ensures
    ∙ get_or_default_zero c.self.inside.tables.items c.spot_in.result c.index.result.now within
    ∙ ap (slice_index c.self.inside.tables.items) at
    ∙ sym (listed_item (item_at 0 c.self.inside.directory.items c.self.inside.tables.items) 0 8388608 c.args.page c.args.page c.requires (omega arith))
    ∙ ap (λ t. slice_index t c.args.page) c.self.view_is
