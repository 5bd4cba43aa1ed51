-- Taking one option off the front: this project's own.
use Rattle.std.specs.Prelude.{◌≡◌, ℕ, List, [], ◌∷◌, Option, Some, None}
use Rattle.std.specs.Option.{option_map}
use Rattle.std.specs.Borrow.{Bor}
use Rattle.mi_input.specs.Parts.{WordView}
use Rattle.mi_input.specs.Split.{words_view}
use Rattle.mi_commands.specs.declared.options.Front.{Front}
use Rattle.mi_commands.specs.declared.registers.Texts.{Texts}
use Rattle.mi_commands.specs.Registers.{Assignment}
use Rattle.mi_commands.specs.Words.{options, parameters, behind_end}

-- the bytes that stand in the line, if there are some
abbrev pub text : Option (Bor (List ℕ)) → Option (List ℕ)
text = option_map (λ s. s.now)

-- `$NAME=VALUE` whose texts stand in the line
abbrev pub assignment_view : Texts → Assignment
assignment_view t = record { name = t.name.now; value = t.value.now }

-- the option in front and the words behind it, or none where the options end
abbrev pub Fronts : List WordView → Option Front → Type 0
Fronts ws None = (options ws ≡ []) × (parameters ws ≡ behind_end ws)
Fronts ws (Some f) =
    (options ws ≡ (f.name.now, text f.value) ∷ options (words_view f.rest.now)) × (parameters ws ≡ parameters (words_view f.rest.now))
