use Rattle.std.proofs.Common.{◌≡◌, ℕ, ◌/◌, List, [], ◌∷◌, ◌++◌, ap, arith, filter, length, sym, ◌∙◌}
use Rattle.elf32_read.specs.Fields.{entries}
use Rattle.elf_symbols.specs.Entries.{is_counted, symbol_entry}
use Rattle.elf_symbols.specs.declared.entry.SymbolEntry.{SymbolEntry}
use Rattle.elf_symbols.proofs.Counting.{failing, passing}
use Rattle.elf_symbols.proofs.entry.counted_entries.Goals as goal
use Rattle.elf_symbols.proofs.entry.counted_entries.Goals.{then-is_counted+in_ok-push, else-is_counted}

pub loop-k-preserved : goal.loop-k-preserved
loop-k-preserved c =
    let p = is_counted c.args.strings.now in
    let at = symbol_entry c.args.table.now in
    elim c.if-is_counted.branch [
      | then-is_counted+in_ok-push w ↦
          rw w.counted-is (w.in_ok-push.ensures.items ∙ (ap (λ (xs : List SymbolEntry). xs ++ c.read-entry.result ∷ []) c.loop-k.invariant
          ∙ sym (passing p at c.loop-k.k c.read-entry.result c.read-entry.ensures (sym w.if-is_counted.ensures))))
      | else-is_counted w ↦
          rw w.counted-is (c.loop-k.invariant ∙ sym (failing p at c.loop-k.k c.read-entry.result c.read-entry.ensures (sym w.if-is_counted.ensures)))
    ]

pub returns : goal.returns
returns c =
    let past = c.loop-k-test.false in
    let within = c.loop-k.auto.k-end in
    let whole : c.loop-k.k ≡ length c.args.table.now / 16 = omega arith in
    c.loop-k.invariant ∙ ap (λ (n : ℕ). filter (is_counted c.args.strings.now) (entries (symbol_entry c.args.table.now) 0 16 n)) whole
