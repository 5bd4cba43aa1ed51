-- The better one of both entries was written at the name.
use Rattle.std.proofs.Common.{rules, ◌≡◌, ℕ, List, [], Option, Some, cond, ap, sym, ◌∙◌}
use Rattle.std.specs.Prelude.{unwrap_or}
use Rattle.std.specs.Str.{bytes_eq}
use Rattle.std.specs.BTreeMap.Entry.{map_with_value}
use Rattle.elf_symbols.specs.Lookups.{at_name, AddsName}
use Rattle.elf_symbols.specs.declared.entry.SymbolEntry.{SymbolEntry}
use Rattle.elf_symbols.proofs.Puts.{name_updates, entered}
use Rattle.elf_symbols.proofs.lookups.put_name.Goals as goal

pub returns : goal.returns
returns c b bs short =
    let name = c.in-Some.name.now in
    let entry = c.args.entry.now in
    let table = c.args.table.now in
    let key = c.in_ok-from_slice.field-0 in
    let done = c.preferred.result in
    let written = map_with_value c.in_ok-table.field-0 done in
    let was : c.or_insert-kept.result.now ≡ unwrap_or (at_name table name) entry =
    c.or_insert-kept.ensures.value ∙ ap (λ (o : Option SymbolEntry). unwrap_or o entry) (c.in_ok-table.ensures.value ∙ ap (at_name table) c.in_ok-from_slice.ensures.items) in
    let adds : AddsName c.args.strings.now entry table written =
    entered c.args.strings.now entry c.or_insert-kept.result.now done table written name
    (sym (ap (λ (o : Option (List ℕ)). unwrap_or o []) c.in-Some.ensures.kept)) was c.preferred.ensures
    (λ q. name_updates key.items table written (Some done) (c.in_ok-table.ensures.update.0 done) q
    ∙ ap (λ (l : List ℕ). cond (bytes_eq l q) (Some done) (at_name table q)) c.in_ok-from_slice.ensures.items) in
    search (rules, adds b bs short)
