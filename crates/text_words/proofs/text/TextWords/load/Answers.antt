use Rattle.std.proofs.Common.{◌≡◌, ◌^◌, ap, arith, false, length, map, sym, ◌∙◌, subst}
use Rattle.std.specs.Prelude.{slice_index, slice_index_or}
use Rattle.std.proofs.lemmas.List.{get_or-map, length-map, length-replicate}
use Rattle.rv_decode.specs.Decode.{decode}
use Rattle.rv_exec.specs.declared.operation.Operation.TheVariants.{Break}
use Rattle.text_words.specs.Layout.{AreKept, AreSpans, mark_at, word_at}
use Rattle.text_words.specs.Tables.{set_below, words_below}
use Rattle.text_words.specs.Words.{Words, decoded_as, operation_of, stored_as, unpatched}
use Rattle.text_words.proofs.Marks.{begun, kept_unmarked, stored_entry}
use Rattle.text_words.proofs.text.TextWords.load.Goals as goal

pub invariant_of-result : goal.invariant_of-result
invariant_of-result c =
    let words = c.collect.new.words.items in
    let unmarked = sym (c.in_ok-planted.ensures.items_if_clones_equal (λ y e. e)) in
    let same = c.in_ok-stored.ensures.items_if_clones_equal (λ x y e. e) ∙ c.as_slice-2.ensures.value in
    let made = c.in_ok-operations.ensures ∙ ap (map (λ w. operation_of (decoded_as (decode w)))) c.as_slice-3.ensures.value in
    let many : c.len-2.result ≡ length words = omega (arith, c.len-2.ensures, c.collect.new.words.ok.0) in
    record {
      layout = c.in_ok-collect.ensures.layout;
      whole = ap length (sym unmarked) ∙ length-replicate c.len.result false ∙ (c.len.ensures ∙ c.collect.new.words.ok.0);
      stored = subst (λ planted. AreKept stored_as 0 words planted c.in_ok-stored.stored.items) unmarked
          (kept_unmarked stored_as 0 words c.in_ok-stored.stored.items c.len.result (ap length same) (λ k l. ap (λ xs. slice_index xs k) same ∙ stored_entry (slice_index words k) false));
      operations = subst (λ planted. AreKept (λ w. operation_of) Break words planted c.in_ok-operations.operations.items) unmarked
          (kept_unmarked (λ w. operation_of) Break words c.in_ok-operations.operations.items c.len.result (ap length made ∙ length-map words (λ w. operation_of (decoded_as (decode w))))
          (λ k l. ap (λ xs. slice_index_or xs k Break) made ∙ get_or-map (λ w. operation_of (decoded_as (decode w))) words k 0 Break l));
      spans = subst (λ rs. AreSpans rs (length words) c.in_ok-spans.spans.items) c.as_slice-4.ensures.value (subst (λ n. AreSpans c.as_slice-4.result.now n c.in_ok-spans.spans.items) many c.in_ok-spans.ensures);
    }

pub returns : goal.returns
returns c =
    let rs = c.collect.new.regions.items in
    let words = c.collect.new.words.items in
    subst (λ planted. ◌≡◌ {A = Words} (record { words = words_below (word_at rs words) (2 ^ 32); planted = set_below (mark_at rs planted) (2 ^ 32) }) (unpatched c.args.image.now))
    (sym (c.in_ok-planted.ensures.items_if_clones_equal (λ y e. e)))
    (begun c.args.image.now rs words c.len.result c.in_ok-collect.ensures.words_are)
