-- What a journal to which entries are added is seen as. This project's own.
use Rattle.std.specs.Prelude.{ℕ, List}
use Rattle.dbg_model.specs.declared.entry.Entry.{Entry}

-- the entries, and for how many more there is room
pub record Written : Type 0 where
  pub entries : List Entry
  pub spare : ℕ
