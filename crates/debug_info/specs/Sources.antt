-- What is kept beside the sections: how long the texts of .debug_str are, and the index of .debug_abbrev. This project's own.
use Rattle.std.specs.Prelude.{◌<◌, ◌^◌, length}
use Rattle.debug_info.specs.Index.{IsIndex}
use Rattle.debug_info.specs.TextLengths.{AreLengths}
use Rattle.debug_info.specs.declared.offset.Source.{Source}

-- what is kept beside the sections is theirs, and a place in the information has 32 bits
pub record IsSource (source : Source) : Type 0 where
  pub texts : AreLengths source.strs.now source.lengths.now
  pub index : IsIndex source.abbrevs.now source.index.now
  pub short : length source.info.now < 2 ^ 32
