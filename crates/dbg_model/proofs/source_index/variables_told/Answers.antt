use Rattle.std.proofs.Common.{◌≡◌, List, ℕ, ap, subst, ◌∙◌}
use Rattle.std.specs.Prelude.{IfOk, codes}
use Rattle.debug_info.specs.Info.{Info, info_of}
use Rattle.dbg_model.specs.Sources.{section_bytes, variables_told}
use Rattle.dbg_model.proofs.source_index.variables_told.Goals as goal

pub returns : goal.returns
unfolding variables_told
returns c =
    let p = c.args.image.now in
    let abbrevs = section_bytes p (codes ".debug_abbrev") in
    let strs = section_bytes p (codes ".debug_str") in
    subst (λ (i : Info). IfOk c.read_info.result (λ info. info ≡ i))
    (ap (λ (a : List ℕ). info_of a c.section_bytes-strs.result.now c.section_bytes-info.result.now) c.section_bytes-abbrevs.ensures
    ∙ (ap (λ (s : List ℕ). info_of abbrevs s c.section_bytes-info.result.now) c.section_bytes-strs.ensures ∙ ap (λ (i : List ℕ). info_of abbrevs strs i) c.section_bytes-info.ensures))
    c.read_info.ensures
