-- The addresses of symbols are those of their entries.
use Rattle.std.proofs.Common.{◌≡◌, ℕ, List, [], ◌∷◌, map, refl, ap, ◌∙◌, sym}
use Rattle.std.specs.Global.{Vec}
use Rattle.std.proofs.lemmas.Result.{IfOk-weaker}
use Rattle.elf_symbols.specs.Names.{Names}
use Rattle.elf_symbols.specs.Entries.{symbol_of}
use Rattle.elf_symbols.specs.declared.entry.SymbolEntry.{SymbolEntry}
use Rattle.elf_symbols.proofs.names.Symbols.function_addresses.Goals as goal

addresses-map : (strings : List ℕ) (entries : List SymbolEntry) → map (λ s. s.address) (map (symbol_of strings) entries) ≡ map (λ e. e.address) entries
addresses-map strings [] = refl
addresses-map strings (e ∷ entries) = ap (λ (addresses : List ℕ). e.address ∷ addresses) (addresses-map strings entries)

pub returns : goal.returns
returns c =
    let i = c.self.inside in
    IfOk-weaker c.addresses.result (λ (v : Vec ℕ). v.items ≡ map (λ e. e.address) c.deref.result.now) (λ (v : Vec ℕ). v.items ≡ map (λ s. s.address) c.args.self.now.functions)
    (λ v h. h ∙ ap (λ (entries : List SymbolEntry). map (λ e. e.address) entries) c.deref.ensures.value ∙ sym (addresses-map i.strings.items i.functions.items) ∙ ap (λ (n : Names). map (λ s. s.address) n.functions) c.self.view_is)
    c.addresses.ensures
