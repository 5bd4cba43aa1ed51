-- The variables that can be seen at an address (DWARF 4, sections 2.3, 3.3 to 3.5, 4.1 and 5.1 to 5.3).
use Rattle.std.specs.Prelude.{ℕ, zero, suc, ◌==◌, nat_le, nat_lt, ◌&&◌, ◌||◌, Bool, true, false, not, List, [], ◌∷◌, ◌++◌, map, filter, find, Option, None, Some, take_while, is_some, if◌then◌else◌}
use Rattle.leb_read.specs.Leb.{text_from}
use Rattle.debug_info.specs.declared.entry.Entry.{Entry}
use Rattle.debug_info.specs.declared.entry.Kind.{Kind}
use Rattle.debug_info.specs.declared.entry.Kind.TheVariants as kind
use Rattle.debug_info.specs.declared.entry.Range.{Range}
use Rattle.debug_info.specs.declared.entry.Tag.{Tag}
use Rattle.debug_info.specs.declared.entry.Tag.TheVariants as tag
use Rattle.debug_info.specs.declared.expression.Base.{Base}
use Rattle.debug_info.specs.declared.expression.Base.TheVariants as base
use Rattle.debug_info.specs.declared.expression.Place.{Place}
use Rattle.debug_info.specs.declared.expression.Place.TheVariants as place
use Rattle.debug_info.specs.declared.form.TextPlace.{TextPlace}
use Rattle.debug_info.specs.declared.form.TextPlace.TheVariants as text

-- a variable, its name as bytes
pub record Variable : Type 0 where
  pub name : List ℕ
  pub kind : Kind
  pub place : Place
  pub base : Base
  pub argument : Bool
  pub listed : Bool

-- the sections that names stand in
pub record Texts : Type 0 where
  pub info : List ℕ
  pub strs : List ℕ

abbrev pub name_of : Texts → Option TextPlace → List ℕ
name_of texts None = []
name_of texts (Some (text.Inline p)) = text_from texts.info p.at
name_of texts (Some (text.Shared p)) = text_from texts.strs p.at

-- the entry of a type
abbrev pub type_entry : List Entry → Option ℕ → Option Entry
type_entry entries None = None
type_entry entries (Some offset) = find (λ e. e.offset == offset) entries

abbrev pub is_modifier : Tag → Bool
is_modifier tag.Typedef = true
is_modifier tag.Const = true
is_modifier tag.Volatile = true
is_modifier _ = false

abbrev pub own_kind : Tag → Kind → Kind
own_kind tag.BaseType basic = basic
own_kind tag.Pointer basic = kind.Pointer
own_kind _ basic = kind.Other

-- the kind of a type behind at most so many typedefs, consts and volatiles
abbrev pub kind_of : ℕ → List Entry → Option Entry → Kind
kind_of links entries None = kind.Other
kind_of zero entries (Some e) = own_kind e.tag e.basic
kind_of (suc links) entries (Some e) =
    if is_modifier e.tag then kind_of links entries (type_entry entries e.type_of) else own_kind e.tag e.basic

-- without a frame base, a place in the frame isn't known
abbrev pub place_in : Base → Place → Place
place_in base.Other (place.Frame offset) = place.Absent
place_in _ p = p

abbrev pub is_parameter : Tag → Bool
is_parameter tag.Parameter = true
is_parameter _ = false

abbrev pub is_variable : Tag → Bool
is_variable tag.Variable = true
is_variable _ = false

abbrev pub is_unit : Tag → Bool
is_unit tag.Unit = true
is_unit _ = false

abbrev pub is_block : Tag → Bool
is_block tag.Block = true
is_block _ = false

abbrev pub is_fixed : Place → Bool
is_fixed (place.Fixed address) = true
is_fixed _ = false

abbrev pub variable_of : Texts → List Entry → Base → Bool → Entry → Variable
variable_of texts entries base listed e = record {
  name = name_of texts e.name;
  kind = kind_of 16 entries (type_entry entries e.type_of);
  place = place_in base e.place;
  base = base;
  argument = is_parameter e.tag;
  listed = listed;
}

-- a parameter or a variable that has a name, an empty one being none
abbrev pub is_named : Entry → Bool
is_named e = is_some e.name && (is_parameter e.tag || is_variable e.tag)

abbrev pub is_within : ℕ → Option Range → Bool
is_within pc None = false
is_within pc (Some range) = nat_le range.low pc && nat_lt pc range.end

-- a block that covers pc
abbrev pub is_entered : ℕ → Entry → Bool
is_entered pc e = is_block e.tag && is_within pc e.range

abbrev pub is_own : ℕ → Entry → Bool
is_own pc e = not (is_entered pc e) && is_named e

-- the parent of what stands at a level: of the entries before, the nearest first, the first that is less deep
abbrev pub parent : List Entry → ℕ → Option Entry
parent before level = find (λ e. nat_lt e.level level) before

-- Of an entry behind a function's, with those between them, the nearest first: each that it stands in is a block that covers pc, up
-- to the function.
abbrev pub is_open : ℕ → List Entry → ℕ → Bool
is_open pc [] level = true
is_open pc (e ∷ before) level = if nat_lt e.level level then is_entered pc e && is_open pc before e.level else is_open pc before level

abbrev pub own_among : ℕ → List Entry → List Entry → List Entry
own_among pc before [] = []
own_among pc before (e ∷ es) = filter (λ x. is_open pc before x.level && is_own pc x) (e ∷ []) ++ own_among pc (e ∷ before) es

-- the entries that stand in a function, of those behind it
abbrev pub inner : ℕ → List Entry → List Entry
inner function behind = take_while (λ e. nat_lt function e.level) behind

-- the named parameters and variables of a function, and of its blocks that cover pc
abbrev pub own_entries : ℕ → ℕ → List Entry → List Entry
own_entries pc function behind = own_among pc [] (inner function behind)

-- those of the levels from one down, deeper ones first
abbrev pub by_depth : ℕ → List Entry → List Entry
by_depth zero es = []
by_depth (suc level) es = filter (λ e. e.level == suc level) es ++ by_depth level es

abbrev pub is_unit_entry : Option Entry → Bool
is_unit_entry None = false
is_unit_entry (Some e) = is_unit e.tag

-- the unit's own variables with a fixed place: their parent is the unit's entry
abbrev pub is_unit_variable : List Entry → Entry → Bool
is_unit_variable before e =
    ((e.level == 2) && is_unit_entry (parent before e.level)) && ((is_some e.name && is_variable e.tag) && is_fixed e.place)

abbrev pub unit_variables : List Entry → List Entry → List Entry
unit_variables before [] = []
unit_variables before (e ∷ es) = filter (is_unit_variable before) (e ∷ []) ++ unit_variables (e ∷ before) es

-- the variables at pc by the unit's entries and those from the function's on
abbrev pub variables_in : Texts → ℕ → List Entry → List Entry → List Variable
variables_in texts pc entries [] = []
variables_in texts pc entries (f ∷ behind) =
    map (variable_of texts entries f.base true) (by_depth 64 (own_entries pc f.level behind))
    ++ map (variable_of texts entries f.base false) (unit_variables [] entries)

-- the entries from an offset on
abbrev pub from_offset : ℕ → List Entry → List Entry
from_offset offset [] = []
from_offset offset (e ∷ es) = if nat_lt e.offset offset then from_offset offset es else e ∷ es
