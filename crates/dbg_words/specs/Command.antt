-- The command that clap reads.
use Rattle.std.specs.Prelude.{ℕ, List, [], ◌∷◌, ◌++◌, map, Some, codes, true}
use Rattle.clap.specs.Words.{App, Row, Rule, Kinds, new_app, new_rule, with_rule, fault_of, matches_of}
use Rattle.clap.specs.declared.builder.ArgAction.TheVariants.{Set, SetTrue}
use Rattle.dbg_words.specs.Uses.{file, log, option_names}

-- `--name VALUE`
abbrev pub option_rule : List ℕ → Rule
option_rule name = record (new_rule name) { long = Some name; action = Some Set }

-- `--name`
abbrev pub flag_rule : List ℕ → Rule
flag_rule name = record (new_rule name) { long = Some name; action = Some SetTrue }

abbrev pub file_rule : Rule
file_rule = record (new_rule file) { action = Some Set }

-- the words come without the program's name, and there is no help
abbrev pub settled_app : App → App
settled_app a = record a { top = record a.top { no_binary_name = true; disable_help_flag = true } }

-- with these arguments, in this order
abbrev pub with_rules : App → List Rule → App
with_rules a [] = a
with_rules a (r ∷ rs) = with_rules (with_rule a r) rs

-- the options that have a value, the flag and FILE
unfoldable pub rvdbg : App
rvdbg = with_rules (settled_app (new_app (codes "rvdbg"))) (map option_rule option_names ++ flag_rule log ∷ file_rule ∷ [])

-- why clap refuses the words: none, where it takes them
unfoldable pub clap_faults : List (List ℕ) → Kinds
clap_faults words = fault_of rvdbg words

-- what clap finds in words that it takes
unfoldable pub clap_rows : List (List ℕ) → List Row
clap_rows words = matches_of rvdbg words
