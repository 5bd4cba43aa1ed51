-- Settings and their values (GDB manual, "Non-Stop Mode"; "Maintenance Commands": displaced-stepping), formats of registers.
use Rattle.std.specs.Prelude.{ℕ, List, Bool, Option, Some, None, codes, if◌then◌else◌}
use Rattle.std.specs.Option.{option_map, option_and_then}
use Rattle.std.specs.Str.{bytes_eq}
use Rattle.mi_commands.specs.declared.command.Command.{Command}
use Rattle.mi_commands.specs.declared.command.Command.TheVariants as command
use Rattle.mi_commands.specs.declared.command.Displaced.{Displaced}
use Rattle.mi_commands.specs.declared.command.Displaced.TheVariants as displaced
use Rattle.mi_commands.specs.declared.command.Format.{Format}
use Rattle.mi_commands.specs.declared.command.Format.TheVariants as format
use Rattle.mi_commands.specs.declared.command.Setting.{Setting}
use Rattle.mi_commands.specs.declared.command.Setting.TheVariants as setting

unfoldable pub format_of : List ℕ → Option Format
format_of word =
    if bytes_eq word (codes "x") then Some format.Hexadecimal
    else (if bytes_eq word (codes "d") then Some format.Decimal else None)

unfoldable pub setting_of : List ℕ → Option Setting
setting_of word =
    if bytes_eq word (codes "non-stop") then Some setting.NonStop
    else (if bytes_eq word (codes "mi-async") then Some setting.MiAsync
    else (if bytes_eq word (codes "displaced-stepping") then Some setting.DisplacedStepping else None))

unfoldable pub displaced_of : List ℕ → Option Displaced
displaced_of word =
    if bytes_eq word (codes "on") then Some displaced.On
    else (if bytes_eq word (codes "off") then Some displaced.Off
    else (if bytes_eq word (codes "auto") then Some displaced.Auto else None))

-- the one value that two of the settings take
unfoldable pub is_on : List ℕ → Bool
is_on word = bytes_eq word (codes "on")

abbrev pub set_to : Setting → List ℕ → Option Command
set_to setting.NonStop value = if is_on value then Some command.SetNonStop else None
set_to setting.MiAsync value = if is_on value then Some command.SetMiAsync else None
set_to setting.DisplacedStepping value = option_map command.SetDisplaced (displaced_of value)

-- what a setting's name and its value ask for
abbrev pub set_command : List ℕ → List ℕ → Option Command
set_command name value = option_and_then (λ s. set_to s value) (setting_of name)
