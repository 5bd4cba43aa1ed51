use Rattle.std.proofs.Common.{false, sym, ap, ◌∙◌, subst}
use Rattle.mi_input.specs.Lines.{lines}
use Rattle.session_parts.specs.Taking.{IsKnown, known_behind}
use Rattle.session_parts.proofs.Piecing.{no_line_joined, no_line_in, some_line_in, none_known}
use Rattle.session_parts.proofs.known.Known.behind.Goals as goal

pub returns-in-NoLine-clause-known : goal.returns-in-NoLine-clause-known
returns-in-NoLine-clause-known c = λ rest known.
    no_line_joined rest c.args.piece.now (subst (λ k. IsKnown k false rest) c.in-NoLine.is known) (no_line_in c.args.piece.now c.next_line.result c.if-is_none.ensures c.next_line.ensures.none)

pub returns-in-NoLine-clause-kept : goal.returns-in-NoLine-clause-kept
returns-in-NoLine-clause-kept c =
    none_known c.args.piece.now (no_line_in c.args.piece.now c.next_line.result c.if-is_none.ensures c.next_line.ensures.none)
    ∙ ap (λ k. known_behind k (lines c.args.piece.now false)) (sym c.in-NoLine.is)

pub returns-in_default-clause-kept : goal.returns-in_default-clause-kept
returns-in_default-clause-kept c =
    some_line_in c.args.piece.now c.next_line.result c.if-is_none.ensures c.next_line.ensures.next ∙ ap (λ k. known_behind k (lines c.args.piece.now false)) (sym c.in-NoLine.is)
