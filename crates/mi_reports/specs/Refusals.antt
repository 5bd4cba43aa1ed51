-- The one line of a session that isn't begun: this project's own.
use Rattle.std.specs.Prelude.{ℕ, List, [], ◌∷◌, ◌++◌, decimal, codes}
use Rattle.elf_checks.specs.declared.fault.ElfKind.{ElfKind}
use Rattle.elf_checks.specs.declared.fault.ElfKind.TheVariants as kind
use Rattle.elf_checks.specs.declared.fault.ElfFault.{ElfFault}
use Rattle.mi_values.specs.Tree.{Tree}
use Rattle.mi_values.specs.Record.{LineTree}
use Rattle.mi_values.specs.FieldLists.{result_of}
use Rattle.mi_reports.specs.declared.words.Key.TheVariants as key
use Rattle.mi_reports.specs.declared.words.Phrase.TheVariants as phrase
use Rattle.mi_reports.specs.Words.{key_text, says}
use Rattle.mi_reports.specs.Phrases.{phrase_text}

abbrev pub kind_name : ElfKind → List ℕ
kind_name kind.Short = codes "Short"
kind_name kind.Magic = codes "Magic"
kind_name kind.Class = codes "Class"
kind_name kind.Order = codes "Order"
kind_name kind.Kind = codes "Kind"
kind_name kind.Machine = codes "Machine"
kind_name kind.Flags = codes "Flags"
kind_name kind.Segment = codes "Segment"
kind_name kind.Section = codes "Section"
kind_name kind.Text = codes "Text"
kind_name kind.Entry = codes "Entry"
kind_name kind.Large = codes "Large"

-- an error without a token, and no prompt behind it
abbrev pub refusal_lines : List (List ℕ × Tree) → List LineTree
refusal_lines fields = result_of [] (key_text key.Error) fields ∷ []

-- the file is refused
unfoldable pub file_fields : ElfFault → List (List ℕ × Tree)
file_fields f = says key.Message (phrase_text phrase.BadFile ++ kind_name f.kind ++ phrase_text phrase.AtPlace ++ decimal f.place) ∷ []

-- the words of the command line are refused
unfoldable pub usage_fields : List (List ℕ × Tree)
usage_fields = says key.Message (phrase_text phrase.Usage) ∷ []
