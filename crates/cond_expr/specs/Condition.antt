-- Expressions: which tree a text spells, and what parsing gives.
use Rattle.std.specs.Prelude.{◌≡◌, ℕ, ◌≤◌, List, length, Result, Ok, Err}
use Rattle.elf_symbols.specs.Names.{Names}
use Rattle.cond_expr.specs.declared.fault.ParseError.{ParseError}
use Rattle.cond_expr.specs.declared.fault.ParseError.TheVariants as failures
use Rattle.cond_expr.specs.declared.expr.Expr.{Expr}
use Rattle.cond_expr.specs.Term.{Term, term_of}
use Rattle.cond_expr.specs.Grammar.{IsTree}
use Rattle.cond_expr.specs.Lex.{tokens_of}

-- the text, of 256 bytes at most, spells the tree with the names of these symbols
abbrev pub Tree : List ℕ → Names → Term → Type 0
Tree text names x = (length text ≤ 256) × IsTree (tokens_of names text) x

abbrev pub text_of : Expr → List ℕ
text_of e = e.text.items

abbrev pub tree_of : Expr → Term
tree_of e = term_of e.root

-- the tree, unless memory ran out
abbrev pub GivesTerm : Result Expr ParseError → Term → Type 0
GivesTerm (Ok e) x = tree_of e ≡ x
GivesTerm (Err failures.NoMemory) x = Unit {0}
GivesTerm (Err (failures.Fault f)) x = ⊥
