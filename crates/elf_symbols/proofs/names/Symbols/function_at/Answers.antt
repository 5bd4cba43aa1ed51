-- The nearest function, where the address isn't past it.
use Rattle.std.proofs.Common.{ℕ, List, Option, ◌∙◌, ap}
use Rattle.std.specs.Prelude.{option_and_then}
use Rattle.std.specs.Option.{option_map}
use Rattle.elf_symbols.specs.Names.{Names, covering}
use Rattle.elf_symbols.specs.Entries.{symbol_of}
use Rattle.elf_symbols.specs.declared.entry.SymbolEntry.{SymbolEntry}
use Rattle.elf_symbols.proofs.Best.{entry_function}
use Rattle.elf_symbols.proofs.Nearest.{nearest_is}
use Rattle.elf_symbols.proofs.names.Symbols.function_at.Goals as goal

pub returns : goal.returns
returns c =
    let i = c.self.inside in
    c.covering.ensures
    ∙ ap (λ (strings : List ℕ). option_and_then (covering c.args.addr) (option_map (symbol_of strings) c.nearest.result)) c.deref.ensures.value
    ∙ ap (λ (found : Option SymbolEntry). option_and_then (covering c.args.addr) (option_map (symbol_of i.strings.items) found))
    (nearest_is i.strings.items i.functions.items i.by_address c.args.addr c.nearest.result c.self.invariant.by_address c.nearest.ensures)
    ∙ entry_function i.strings.items i.functions.items c.args.self.now c.args.addr (ap (λ (n : Names). n.functions) c.self.view_is)
