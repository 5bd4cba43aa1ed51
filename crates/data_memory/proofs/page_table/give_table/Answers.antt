use Rattle.std.proofs.Common.{◌≡◌, ◌+◌, ◌-◌, ◌/◌, ◌++◌, length, ℕ, ap, sym, ◌∙◌, subst, arith, replicate}
use Rattle.std.specs.Prelude.{slice_index, slice_set}
use Rattle.std.specs.Vec.{vec_len}
use Rattle.data_memory.specs.Blocks.{GivenBlock}
use Rattle.data_memory.proofs.Blocked.{replicated, given}
use Rattle.std.proofs.lemmas.Grind.{get_or_default_zero}
use Rattle.std.proofs.lemmas.List.{take_all, length-replicate}
use Rattle.data_memory.proofs.page_table.give_table.Goals as goal

pub returns-clause-given : goal.returns-clause-given
returns-clause-given c =
    let n : vec_len c.args.tables.now ≡ length c.args.tables.now.items = c.args.tables.now.ok.0 in
    let k : ℕ = c.len-2.result + 512 - vec_len c.args.tables.now in
    let items : c.resize.new.self.items ≡ c.args.tables.now.items ++ replicate k 0 =
    c.in_ok-resize.ensures.items ∙ ap (λ zs. zs ++ replicate k 0) (take_all (c.len-2.result + 512) c.args.tables.now.items (omega (arith, c.len-2.ensures))) in
    let more : k ≡ 512 = omega (arith, c.len-2.ensures) in
    let free : slice_index c.args.directory.now.items (c.args.page / 512) ≡ 0 =
    sym (get_or_default_zero c.args.directory.now.items (c.args.page / 512) c.index.result.now (omega (arith, c.requires.page, c.requires.kept.size))) ∙ sym c.index.ensures ∙ c.if-index-ne0.false in
    subst (λ ds. GivenBlock 0 16384 c.args.directory.now.items c.args.tables.now.items (slice_set c.args.directory.now.items (c.args.page / 512) c.in-Ok.number) ds (c.args.page / 512)) (sym items)
    (given 0 16384 c.args.directory.now.items c.args.tables.now.items (replicate k 0) (c.args.page / 512) c.in-Ok.number c.requires.kept (omega (arith, c.requires.page)) free
    (omega (arith, c.in-Ok.ensures.1, c.len.ensures)) (length-replicate k 0 ∙ more) (λ j. replicated k j 0))
