use Rattle.std.proofs.Common.{◌∙◌, codes}
use Rattle.clap.specs.Words.{found_of}
use Rattle.clap.proofs.WalkLemmas.{first_value-rows, one_text-rows}
use Rattle.dbg_words.proofs.given.taken.Goals as goal

pub returns : goal.returns
returns c =
    let f = found_of c.args.matches.now in
    record {
      harts = c.get_str.ensures ∙ first_value-rows f (codes "harts");
      workers = c.get_str-2.ensures ∙ first_value-rows f (codes "workers");
      slots = c.get_str-3.ensures ∙ first_value-rows f (codes "slots");
      budget = c.get_str-4.ensures ∙ first_value-rows f (codes "budget");
      slice = c.get_str-5.ensures ∙ first_value-rows f (codes "slice");
      gen = c.get_str-6.ensures ∙ first_value-rows f (codes "gen");
      check = c.get_str-7.ensures ∙ first_value-rows f (codes "check");
      file_is = c.get_str-8.ensures ∙ first_value-rows f (codes "FILE");
      has_log = record {
        is_set = λ e. c.get_flag.ensures.value (one_text-rows f (codes "log") ∙ e);
        is_clear = λ e. c.get_flag.ensures.other (one_text-rows f (codes "log") ∙ e);
      };
    }
