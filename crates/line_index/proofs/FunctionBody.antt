-- The body of a function, by what was found of it in tables.
use Rattle.std.proofs.Common.{◌≡◌, ℕ, ◌+◌, List, Option, Some, ap, ◌∙◌}
use Rattle.std.specs.Option.{option_map_or}
use Rattle.elf_symbols.specs.Names.{Symbol}
use Rattle.line_index.specs.Lines.{Lines, body_in, body_of, function_end, least_from, rows_of, section_end}
use Rattle.line_index.specs.Order.{IsInOrder}
use Rattle.line_index.proofs.Least.{least-in-order}

pub body-found : (lines : Lines) (f : Symbol) (sorted starts : List ℕ) (text_end end : ℕ) (next : Option ℕ)
    → IsInOrder lines.functions sorted → starts ≡ sorted → Some text_end ≡ section_end lines.text f.address
    → next ≡ least_from (f.address + 1) starts → end ≡ function_end f text_end next → body_in (rows_of lines) f.address end ≡ body_of lines f
body-found lines f sorted starts text_end end next ordered same s n e =
    let a = f.address in
    let after : next ≡ least_from (a + 1) lines.functions = n ∙ ap (least_from (a + 1)) same ∙ least-in-order (a + 1) lines.functions sorted ordered in
    ap (λ (n : ℕ). body_in (rows_of lines) a n) (e ∙ ap (λ (o : Option ℕ). function_end f text_end o) after)
    ∙ ap (λ (o : Option ℕ). option_map_or (λ n. body_in (rows_of lines) a (function_end f n (least_from (a + 1) lines.functions))) o a) s
