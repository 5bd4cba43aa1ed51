-- What is read of an expression is what its text spells.
use Rattle.std.proofs.Common.{◌≡◌, ◌<◌, ◌≤◌, ℕ, List, length, ap, ◌∙◌, arith, inl, inr}
use Rattle.std.specs.Prelude.{Result, Ok, Err, IfOk, ◌⊎◌}
use Rattle.std.proofs.lemmas.Bool.{cases_order}
use Rattle.elf_symbols.specs.Names.{Names}
use Rattle.cond_expr.specs.declared.expr.Expr.{Expr}
use Rattle.cond_expr.specs.declared.fault.FaultKind.TheVariants as kind
use Rattle.cond_expr.specs.declared.fault.ParseError.{ParseError}
use Rattle.cond_expr.specs.declared.fault.ParseError.TheVariants as failures
use Rattle.cond_expr.specs.Condition.{Tree, text_of, tree_of}
use Rattle.cond_expr.specs.Fault.{first_fault, MeetsFault}
use Rattle.cond_expr.specs.Lex.{tokens_of}
use Rattle.cond_expr.specs.Reader.{parsed}
use Rattle.cond_expr.proofs.Parsing.{parsed_tree, parsed_fault, parsed_long}
use Rattle.dbg_answers.specs.Reading.{ReadsAs}

fits_or : (n : ℕ) → (256 < n) ⊎ (n ≤ 256)
fits_or n = elim (cases_order n 256) [ inl e ↦ inr (omega arith) | inr (inl lt) ↦ inr (omega arith) | inr (inr gt) ↦ inl gt ]

pub reads_as : (names : Names) (text : List ℕ) (r : Result Expr ParseError)
    → (256 < length text → r ≡ Err (failures.Fault (record { kind = kind.Long; at = 256 }))) → IfOk r (λ e. Tree text names (tree_of e)) → IfOk r (λ e. text_of e ≡ text)
    → (length text ≤ 256 → MeetsFault r (first_fault (length text) (tokens_of names text))) → ReadsAs r (parsed names text) text
reads_as names text (Ok e) long found is fault = (parsed_tree names text (tree_of e) found, is)
reads_as names text (Err failures.NoMemory) long found is fault = tt
reads_as names text (Err (failures.Fault f)) long found is fault =
    elim (fits_or (length text)) [
      | inl lt ↦ let e = long lt in let same : record { kind = kind.Long; at = 256 } ≡ f = cc in parsed_long names text lt ∙ ap Err same
      | inr le ↦ parsed_fault names text f le (fault le)
    ]
