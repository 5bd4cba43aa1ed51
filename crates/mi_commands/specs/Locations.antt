-- Where a breakpoint is wanted: `*N`, `FILE:LINE` or a name (GDB manual, "Linespec Locations"; "Address Locations").
use Rattle.std.specs.Prelude.{ℕ, ◌+◌, ◌-◌, ◌^◌, List, [], ◌∷◌, take, drop, ◌==◌, Option, Some, None, if◌then◌else◌}
use Rattle.std.specs.Option.{option_map}
use Rattle.mi_commands.specs.declared.command.Location.{Location}
use Rattle.mi_commands.specs.declared.command.Location.TheVariants as location
use Rattle.mi_commands.specs.declared.location.Place.{Place}
use Rattle.mi_commands.specs.declared.location.Place.TheVariants as place
use Rattle.mi_text.specs.Number.{digits_number, number_of}
use Rattle.rv_decode.specs.Registers.{between}

-- behind a byte: the place of the last `:`, by that in what follows the byte
abbrev pub last_colon_behind : ℕ → Option ℕ → Option ℕ
last_colon_behind b (Some k) = Some (k + 1)
last_colon_behind b None = if b == 58 then Some 0 else None

-- the place of the last `:`
unfoldable pub last_colon : List ℕ → Option ℕ
last_colon [] = None
last_colon (b ∷ bytes) = last_colon_behind b (last_colon bytes)

-- a file that isn't empty, and a line of 1 to 2^31 - 1
abbrev pub line_of : List ℕ → Option ℕ → Option Location
line_of [] line = None
line_of (b ∷ file) None = None
line_of (b ∷ file) (Some n) = if between 1 (2 ^ 31 - 1) n then Some (location.Line (b ∷ file) n) else None

-- cut at the last `:`, if one stands there
abbrev pub line_or_name : List ℕ → Option ℕ → Option Location
line_or_name bytes None = Some (location.Name bytes)
line_or_name bytes (Some k) = line_of (take k bytes) (digits_number 10 (drop (k + 1) bytes))

abbrev pub location_of : List ℕ → Option Location
location_of [] = None
location_of (b ∷ bytes) =
    if b == 42 then option_map location.Address (number_of bytes) else line_or_name (b ∷ bytes) (last_colon (b ∷ bytes))

-- a location whose texts stand in the line
abbrev pub location_at : Place → Location
location_at (place.Address n) = location.Address n
location_at (place.Line file n) = location.Line file.now n
location_at (place.Name name) = location.Name name.now
