use Rattle.std.proofs.Common.{rules, ◌≡◌, ap, ap₂, sym, ◌∙◌, inl, inr}
use Rattle.clap.specs.Words.{app_of, fault_of, matches_of, is_simple, is_simple_and_free}
use Rattle.dbg_words.specs.Command.{rvdbg, clap_faults, clap_rows}
use Rattle.dbg_words.proofs.Building.{rvdbg-simple, rvdbg-free, map-same, is_refused}
use Rattle.dbg_words.proofs.command.parsed.Goals as goal

pub returns-in-Ok-try_get_matches_from-clause-accepted : goal.returns-in-Ok-try_get_matches_from-clause-accepted
unfolding clap_faults clap_rows
returns-in-Ok-try_get_matches_from-clause-accepted c =
    let app : app_of c.in-Ok.command ≡ rvdbg = c.in-Ok.ensures in
    let words = map-same c.args.words.now in (
      sym (ap₂ fault_of app words) ∙ c.in-Ok-try_get_matches_from.ensures.kinds (ap is_simple_and_free app ∙ rvdbg-free),
      (c.in-Ok-try_get_matches_from.ensures.matches (ap is_simple app ∙ rvdbg-simple)).0 ∙ ap₂ matches_of app words,
    )

pub returns-clause-refused : goal.returns-clause-refused
unfolding clap_faults
returns-clause-refused c =
    let app : app_of c.in-Ok.command ≡ rvdbg = c.in-Ok.ensures in
    let words = map-same c.args.words.now in
    λ none. elim (c.in-Err.ensures.kinds (ap is_simple_and_free app ∙ rvdbg-free)) [
      | inl memory ↦ search rules
      | inr among ↦ is_refused _ _ _ (ap₂ fault_of app words) among none
    ]
