use Rattle.std.proofs.Common.{List, ℕ, Some, None, ◌++◌, ap, subst, ◌∙◌}
use Rattle.std.proofs.lemmas.Bool.Decides.{Decides-eqb}
use Rattle.std.proofs.lemmas.Slice.Eq.{strip_prefix_is}
use Rattle.mi_text.specs.CString.{AreBytes}
use Rattle.mi_values.proofs.Spelled.{spelling_is, other_spelling}
use Rattle.mi_values.proofs.c_string.read_c_string.Goals as goal

pub returns-in-Some-strip_prefix : goal.returns-in-Some-strip_prefix
returns-in-Some-strip_prefix c =
    let written = spelling_is c.deref-2.result.now _ _ _ c.in_ok-text.text.items c.deref-2.ensures.value c.in_ok-write_c_string.ensures.written c.new-spelling.ensures.items c.deref.ensures.value in
    let rest = c.in-Some-strip_prefix.rest in (
      strip_prefix_is Decides-eqb c.args.bytes.now c.deref-2.result.now (Some rest) c.in-Some-strip_prefix.ensures.cases ∙ ap (λ (l : List ℕ). l ++ rest.now) written,
      subst AreBytes c.deref.ensures.value c.in_ok-write_c_string.ensures.bytes,
    )

pub returns : goal.returns
returns c =
    let written = spelling_is c.deref-2.result.now _ _ _ c.in_ok-text.text.items c.deref-2.ensures.value c.in_ok-write_c_string.ensures.written c.new-spelling.ensures.items c.deref.ensures.value in
    other_spelling c.args.bytes.now c.in-Some.inner.now c.deref-2.result.now c.in_ok-text.text c.in_ok-text._end c.in-Some.ensures c.in_ok-text.ensures.again written
    (strip_prefix_is Decides-eqb c.args.bytes.now c.deref-2.result.now None c.in-None.ensures.cases)
