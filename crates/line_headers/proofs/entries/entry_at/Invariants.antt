use Rattle.std.proofs.Common.{◌≡◌, drop}
use Rattle.line_headers.specs.Texts.{texts_before}
use Rattle.line_headers.specs.Entries.{entry_at}
use Rattle.line_headers.specs.declared.places.NamePlace.TheVariants as place
use Rattle.line_headers.proofs.entries.entry_at.Given as goal

abbrev pub invariant-loop-field : goal.invariant-loop-field
invariant-loop-field l =
    entry_at (texts_before l.ends) l.fields place.Empty l.bytes l.at ≡ entry_at (texts_before l.ends) (drop l.field-index l.fields) l.name l.bytes l.place
