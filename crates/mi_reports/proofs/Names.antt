-- Each key is a name, and each fixed text is of bytes. (A last equation stands for one of each further variant.)
use Rattle.std.proofs.Common.{◌≡◌, true, refl}
use Rattle.std.specs.List.{list_all}
use Rattle.mi_text.specs.CString.{is_own}
use Rattle.mi_values.specs.Name.{is_name}
use Rattle.mi_values.specs.Testing.{are_bytes}
use Rattle.mi_reports.specs.declared.words.Key.{Key}
use Rattle.mi_reports.specs.declared.words.Key.TheVariants as key
use Rattle.mi_reports.specs.declared.words.Phrase.{Phrase}
use Rattle.mi_reports.specs.declared.words.Phrase.TheVariants as phrase
use Rattle.mi_reports.specs.Words.{key_text}
use Rattle.mi_reports.specs.Phrases.{phrase_text}
use Rattle.mi_reports.proofs.Bytes.{own_bytes}

pub key_name : (k : Key) → is_name (key_text k) ≡ true
unfolding key_text
key_name key.Done = refl
key_name k = refl

pub phrase_own : (p : Phrase) → list_all is_own (phrase_text p) ≡ true
unfolding phrase_text
phrase_own phrase.AtPlace = refl
phrase_own p = refl

pub phrase_bytes : (p : Phrase) → are_bytes (phrase_text p) ≡ true
phrase_bytes p = own_bytes (phrase_text p) (phrase_own p)
