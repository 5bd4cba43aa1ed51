-- The tables of directories and files in version 5 (DWARF 5, section 6.2.4, items 13 to 20, and section 7.5.6).
use Rattle.std.specs.Prelude.{ℕ, zero, suc, ◌==◌, ◌&&◌, ◌||◌, not, Bool, true, false, List, [], ◌∷◌, Option, None, Some, option_and_then, Err, Ok, if◌then◌else◌}
use Rattle.leb_read.specs.Forms.{behind_form, form_of}
use Rattle.leb_read.specs.Leb.{number_at, text_at, uleb_at}
use Rattle.leb_read.specs.declared.forms.Form.{Form}
use Rattle.leb_read.specs.declared.forms.Form.TheVariants as form
use Rattle.leb_read.specs.declared.forms.Width.TheVariants.{Variable}
use Rattle.leb_read.specs.Reading.{◌>>=◌, found, read_map}
use Rattle.line_rows.specs.Reading.{Reading, read}
use Rattle.line_headers.specs.Texts.{Texts}
use Rattle.line_headers.specs.declared.places.NamePlace.{NamePlace}
use Rattle.line_headers.specs.declared.places.NamePlace.TheVariants as place
use Rattle.line_headers.specs.declared.formats.Field.{Field}
use Rattle.line_rows.specs.declared.fault.LineFault.TheVariants as fault

abbrev pub is_text_form : Form → Bool
is_text_form form.Inline = true
is_text_form form.LineShared = true
is_text_form form.Shared = true
is_text_form _ = false

-- texts, data1, data2, data4, data8, data16, udata and block
abbrev pub is_entry_form : Form → Bool
is_entry_form (form.Constant width) = true
is_entry_form form.LongConstant = true
is_entry_form (form.Block Variable) = true
is_entry_form other = is_text_form other

-- what an entry has, by content type and form: DW_LNCT_path is 1, and has a form of texts
unfoldable pub field_of : ℕ → ℕ → Option Field
field_of content code =
    option_and_then
    (λ form. if is_entry_form form && (not (content == 1) || is_text_form form) then Some (record { is_path = content == 1; form = form }) else None)
    (form_of code)

abbrev pub known_field : Option Field → ℕ → Reading Field
known_field None next = Err fault.Form
known_field (Some field) next = found field next

unfoldable pub field_at : List ℕ → ℕ → Reading Field
field_at bytes at = do
  content ← read (uleb_at bytes at)
  code ← read (uleb_at bytes content.1)
  known_field (field_of content.0 code.0) code.1

-- n fields one after another
abbrev pub fields_at : ℕ → List ℕ → ℕ → Reading (List Field)
fields_at zero bytes at = found [] at
fields_at (suc n) bytes at = do
  field ← field_at bytes at
  read_map (λ fields. field.0 ∷ fields) (fields_at n bytes field.1)

-- the fields that each entry of a table has
unfoldable pub format_at : List ℕ → ℕ → Reading (List Field)
format_at bytes at = do
  count ← read (number_at 1 bytes at)
  fields_at count.0 bytes count.1

-- the place that an offset names, which is looked up for a path alone
abbrev pub text_named : Bool → Bool → NamePlace → ℕ → Reading NamePlace
text_named is_path stands name next = if is_path && not stands then Err fault.Short else found name next

abbrev pub value_by : Texts → Bool → Form → List ℕ → ℕ → Reading NamePlace
value_by texts is_path form.Inline bytes at = read_map (λ _. place.Line at) (read (text_at bytes at))
value_by texts is_path form.LineShared bytes at = do
  offset ← read (number_at 4 bytes at)
  text_named is_path (texts.in_line_str offset.0) (place.LineStr offset.0) offset.1
value_by texts is_path form.Shared bytes at = do
  offset ← read (number_at 4 bytes at)
  text_named is_path (texts.in_str offset.0) (place.Str offset.0) offset.1
value_by texts is_path other bytes at = do
  next ← read (behind_form other bytes at)
  found place.Empty next

-- a field's name; what is no path is passed over by its size
unfoldable pub value_at : Texts → Field → List ℕ → ℕ → Reading NamePlace
value_at texts field bytes at = value_by texts field.is_path field.form bytes at

-- the name that an entry's fields give, of several paths the last
abbrev pub entry_at : Texts → List Field → NamePlace → List ℕ → ℕ → Reading NamePlace
entry_at texts [] name bytes at = found name at
entry_at texts (field ∷ fields) name bytes at = do
  value ← value_at texts field bytes at
  entry_at texts fields (if field.is_path then value.0 else name) bytes value.1

-- n entries one after another
abbrev pub entries_at : Texts → List Field → ℕ → List ℕ → ℕ → Reading (List NamePlace)
entries_at texts fields zero bytes at = found [] at
entries_at texts fields (suc n) bytes at = do
  name ← entry_at texts fields place.Empty bytes at
  read_map (λ names. name.0 ∷ names) (entries_at texts fields n bytes name.1)

-- entries without fields
abbrev pub counted_at : Texts → List Field → ℕ → List ℕ → ℕ → Reading (List NamePlace)
counted_at texts [] zero bytes at = found [] at
counted_at texts [] (suc n) bytes at = Err fault.Header
counted_at texts (field ∷ fields) n bytes at = entries_at texts (field ∷ fields) n bytes at

-- a format, a count and so many entries
unfoldable pub table_at : Texts → List ℕ → ℕ → Reading (List NamePlace)
table_at texts bytes at = do
  fields ← format_at bytes at
  count ← read (uleb_at bytes fields.1)
  counted_at texts fields.0 count.0 bytes count.1

-- the files, behind the directories
unfoldable pub entry_tables_at : Texts → List ℕ → ℕ → Reading (List NamePlace)
entry_tables_at texts bytes at = do
  directories ← table_at texts bytes at
  table_at texts bytes directories.1
