-- What clap's rows and the uses gave to each option.
use Rattle.std.specs.Prelude.{◌≡◌, Bool, true, false, List, Option, Some, codes, option_map}
use Rattle.std.specs.Borrow.{Bor}
use Rattle.clap.specs.Words.{Row, first_of, one_of}
use Rattle.dbg_words.specs.Uses.{Text, Use, file, log, set}
use Rattle.dbg_words.specs.Words.{Texts, texts_of}
use Rattle.dbg_words.specs.declared.given.Given.{Given}

abbrev pub text : Option (Bor Text) → Option Text
text = option_map (λ s. s.now)

abbrev pub given_texts : Given → Texts
given_texts g = record {
  harts = text g.harts;
  workers = text g.workers;
  slots = text g.slots;
  budget = text g.budget;
  slice = text g.slice;
  gen = text g.generated;
  check = text g.check;
  file_is = text g.file;
  has_log = g.has_log;
}

-- the words are accepted, and give this
abbrev pub IsGiven : Option (List Use) → Given → Type 0
IsGiven o g = (us : List Use) × (o ≡ Some us) × (given_texts g ≡ texts_of us)

-- what `get_flag` reads in a text
pub record IsFlag (t : Option Text) (b : Bool) : Type 0 where
  pub is_set : t ≡ Some set → b ≡ true
  pub is_clear : t ≡ Some (codes "false") → b ≡ false

-- clap found this
pub record FoundIn (rows : List Row) (g : Given) : Type 0 where
  pub harts : text g.harts ≡ first_of (codes "harts") rows
  pub workers : text g.workers ≡ first_of (codes "workers") rows
  pub slots : text g.slots ≡ first_of (codes "slots") rows
  pub budget : text g.budget ≡ first_of (codes "budget") rows
  pub slice : text g.slice ≡ first_of (codes "slice") rows
  pub gen : text g.generated ≡ first_of (codes "gen") rows
  pub check : text g.check ≡ first_of (codes "check") rows
  pub file_is : text g.file ≡ first_of file rows
  pub has_log : IsFlag (one_of log rows) g.has_log
