use Rattle.std.proofs.Common.{◌≡◌, ap, sym, ◌∙◌, subst, arith}
use Rattle.std.specs.Prelude.{slice_set}
use Rattle.data_memory.specs.Blocks.{frames, spot, IsBlocked}
use Rattle.data_memory.proofs.Blocked.{spot_within, frame_put, put_kept}
use Rattle.data_memory.proofs.page_table.PageTable.set_frame.Goals as goal

pub index_mut-requires : goal.index_mut-requires
index_mut-requires c =
    omega (
      arith,
      c.spot_in-at.ensures,
      ap (λ d. spot d c.args.page) c.as_slice.ensures.value,
      spot_within 0 16384 c.give_table.new.directory.items c.give_table.new.tables.items c.args.page c.in_ok-give_table.ensures.given.kept (omega (arith, c.requires)),
      c.give_table.new.tables.ok.0,
    )

pub invariant_of-self-2 : goal.invariant_of-self-2
invariant_of-self-2 c =
    let at : c.spot_in-at.result ≡ spot c.give_table.new.directory.items c.args.page = c.spot_in-at.ensures ∙ ap (λ d. spot d c.args.page) c.as_slice.ensures.value in
    subst (λ i. IsBlocked 0 16384 c.give_table.new.directory.items (slice_set c.give_table.new.tables.items i c.args.frame)) (sym at)
    (put_kept 0 16384 c.give_table.new.directory.items c.give_table.new.tables.items c.args.page c.args.frame c.in_ok-give_table.ensures.given.kept c.in_ok-give_table.ensures.given.own (omega (arith, c.requires)))

pub returns : goal.returns
returns c =
    let at : c.spot_in-at.result ≡ spot c.give_table.new.directory.items c.args.page = c.spot_in-at.ensures ∙ ap (λ d. spot d c.args.page) c.as_slice.ensures.value in
    ap (λ i. frames c.give_table.new.directory.items (slice_set c.give_table.new.tables.items i c.args.frame)) at
    ∙ frame_put c.self.inside.directory.items c.self.inside.tables.items c.give_table.new.directory.items c.give_table.new.tables.items c.args.page c.args.frame c.requires c.in_ok-give_table.ensures.given
    ∙ ap (λ t. slice_set t c.args.page c.args.frame) c.self.view_is
