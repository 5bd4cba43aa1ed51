use Rattle.std.proofs.Common.{ap, ◌∙◌}
use Rattle.dbg_words.specs.Command.{rvdbg, settled_app}
use Rattle.dbg_words.specs.Uses.{option_names}
use Rattle.dbg_words.proofs.Building.{settled_is}
use Rattle.dbg_words.proofs.command.command.Goals as goal

pub returns : goal.returns
unfolding rvdbg option_names
returns c =
    let bare = settled_is _ _ _ c.no_binary_name.ensures c.disable_help_flag-bare.ensures ∙ ap settled_app c.new.ensures.app in
    let harts = c.with-command.ensures _ _ c.option.ensures.rule bare in
    let workers = c.with-command-2.ensures _ _ c.option-2.ensures.rule harts in
    let slots = c.with-command-3.ensures _ _ c.option-3.ensures.rule workers in
    let budget = c.with-command-4.ensures _ _ c.option-4.ensures.rule slots in
    let slice = c.with-command-5.ensures _ _ c.option-5.ensures.rule budget in
    let gen = c.with-command-6.ensures _ _ c.option-6.ensures.rule slice in
    let check = c.with-command-7.ensures _ _ c.option-7.ensures.rule gen in
    let log = c.with-command-8.ensures _ _ c.flag.ensures.rule check in
    c.with.ensures _ _ c.file.ensures.rule log
