-- One entry more is in the table by its name.
use Rattle.std.proofs.Common.{◌∷◌, Option, get_or, sym, ap, ◌∙◌, Bool}
use Rattle.std.specs.Prelude.{if◌then◌else◌}
use Rattle.elf_symbols.specs.Names.{better}
use Rattle.elf_symbols.specs.Entries.{entry_named, entry_preferred}
use Rattle.elf_symbols.specs.declared.entry.SymbolEntry.{SymbolEntry}
use Rattle.elf_symbols.proofs.Puts.{best_more}
use Rattle.elf_symbols.proofs.lookups.name_table.Goals as goal

pub loop-entry-preserved : goal.loop-entry-preserved
loop-entry-preserved c b bs short =
    let none : SymbolEntry = record { name = 0; address = 0; size = 0; kind = 0; section = 0 } in
    let entry : SymbolEntry = get_or c.args.symbols.now c.loop-entry.entry-index none in
    let named : SymbolEntry → Bool = entry_named c.args.strings.now (b ∷ bs) in
    c.in_ok-put_name.ensures b bs short
    ∙ ap (λ (o : Option SymbolEntry). if named entry then better entry_preferred o entry else o) (c.loop-entry.invariant b bs short)
    ∙ sym (best_more entry_preferred named c.args.symbols.now c.loop-entry.entry-index none c.loop-entry-test.true)
