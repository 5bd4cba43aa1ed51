-- The parameters of a program.
use Rattle.std.proofs.Common.{◌≡◌, ℕ, ◌-◌, List, length, ◌∙◌, ap, take, drop, ℤ}
use Rattle.std.proofs.lemmas.List.{take_rest}
use Rattle.std.specs.Prelude.{Result}
use Rattle.line_headers.specs.declared.header.Header.{Header}
use Rattle.line_programs.specs.Machine.{program_of}
use Rattle.line_rows.specs.RowList.{OpenUnit}
use Rattle.line_rows.specs.declared.fault.LineFault.{LineFault}
use Rattle.dwarf_lines.specs.Rows.{lengths_in, parameters_of, program_in}

pub program_same : (header : Header) (file_count : ℕ) (bytes : List ℕ) (base : ℤ) (n : ℕ) → base ≡ header.lines.line_base → n ≡ header.opcodes.base - 1
    → program_of (record (parameters_of header file_count) { line_base = base }) (take n (take (length bytes - header.opcodes.lengths) (drop header.opcodes.lengths bytes))) bytes header.program
    ≡ program_in header file_count bytes
unfolding program_in
program_same header file_count bytes base n is_base is_n =
    let front : take (length bytes - header.opcodes.lengths) (drop header.opcodes.lengths bytes) ≡ drop header.opcodes.lengths bytes = take_rest bytes header.opcodes.lengths in
    let lengths : take n (take (length bytes - header.opcodes.lengths) (drop header.opcodes.lengths bytes)) ≡ lengths_in bytes header =
    ap (λ (l : List ℕ). take n l) front ∙ ap (λ (k : ℕ). take k (drop header.opcodes.lengths bytes)) is_n in
    let run : ℤ → List ℕ → Result OpenUnit LineFault =
    λ z l. program_of (record (parameters_of header file_count) { line_base = z }) l bytes header.program in
    ap (λ (l : List ℕ). run base l) lengths ∙ ap (λ (z : ℤ). run z (lengths_in bytes header)) is_base
