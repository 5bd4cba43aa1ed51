-- How an image is kept: the file's bytes, and tables of what stands in them.
use Rattle.elf32_read.specs.Program.{Program}
use Rattle.elf32_read.specs.Headers.{program_of}
use Rattle.elf32_read.specs.Tables.{AreWhole}
use Rattle.elf32_read.specs.declared.image.Image.TheInside.{Inside}

abbrev pub seen : Inside → Program
seen i = program_of i.file.items

abbrev pub IsKept : Inside → Type 0
IsKept i = AreWhole i.file.items i.tables
