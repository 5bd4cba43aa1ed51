-- What the table has at the name, or a search finds for a long one.
use Rattle.std.proofs.Common.{ℕ, List, Some, ◌∙◌, ap, sym}
use Rattle.std.specs.Option.{option_map}
use Rattle.elf_symbols.specs.Names.{Names, Symbol}
use Rattle.elf_symbols.specs.Entries.{symbol_of}
use Rattle.elf_symbols.proofs.Best.{entry_address, found_address}
use Rattle.elf_symbols.proofs.names.Symbols.address_of.Goals as goal

pub returns-then-name-gt-MOST_KEPT : goal.returns-then-name-gt-MOST_KEPT
returns-then-name-gt-MOST_KEPT c =
    c.look_up.ensures
    ∙ rw (c.deref.ensures.value, c.deref-then-name-gt-MOST_KEPT.ensures.value)
    (entry_address c.self.inside.strings.items c.args.name.now c.self.inside.symbols.items c.args.self.now (sym c.is_empty.ensures ∙ c.if-is_empty.false) (ap (λ (n : Names). n.symbols) c.self.view_is))

pub returns-in-Some : goal.returns-in-Some
returns-in-Some c =
    let i = c.self.inside in
    ap (λ (s : Symbol). Some s) (c.shown.ensures ∙ ap (λ (strings : List ℕ). symbol_of strings c.in-Some.entry.now) c.deref-in-Some.ensures.value)
    ∙ ap (option_map (symbol_of i.strings.items)) c.in-Some.ensures.value
    ∙ found_address i.strings.items c.args.name.now i.symbols.items c.args.self.now i.by_name c.self.invariant.by_name c.if-name-gt-MOST_KEPT.false
    (sym c.is_empty.ensures ∙ c.if-is_empty.false) (ap (λ (n : Names). n.symbols) c.self.view_is)

pub returns-in-None : goal.returns-in-None
returns-in-None c =
    let i = c.self.inside in
    ap (option_map (symbol_of i.strings.items)) c.in-None.ensures.value
    ∙ found_address i.strings.items c.args.name.now i.symbols.items c.args.self.now i.by_name c.self.invariant.by_name c.if-name-gt-MOST_KEPT.false
    (sym c.is_empty.ensures ∙ c.if-is_empty.false) (ap (λ (n : Names). n.symbols) c.self.view_is)
