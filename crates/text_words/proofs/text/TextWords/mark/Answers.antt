use Rattle.std.proofs.Common.{◌≡◌, ◌<◌, ◌^◌, refl, ap, sym, ◌∙◌, subst, arith, length, length-set, Some, None}
use Rattle.std.specs.Prelude.{IsSome, slice_index, slice_set, if◌then◌else◌}
use Rattle.std.specs.FinSet as set
use Rattle.std.proofs.lemmas.Option.{slice_get_read, get_or_from_slice_get}
use Rattle.rv_exec.specs.declared.operation.Operation.TheVariants.{Break}
use Rattle.text_words.specs.Tables.{words_below, set_below}
use Rattle.text_words.specs.Words.{Words, shown, fetched_as, operation_of, stored_as}
use Rattle.text_words.specs.Layout.{Laid, index, mark_at, seen, word_at}
use Rattle.text_words.proofs.Marks.{kept_set, set_marked, unmarked_set}
use Rattle.text_words.proofs.text.TextWords.mark.Goals as goal

pub returns-in_default : goal.returns-in_default
returns-in_default c =
    let t = c.self.inside in
    let none : index t.regions.items c.args.addr ≡ None = sym (ap (λ rs. index rs c.args.addr) c.as_slice.ensures.value) ∙ (sym c.place_of.ensures.value ∙ c.in_default.is) in
    subst (λ n. ◌≡◌ {A = Words} n (record { words = n.words; planted = if c.args.planted then set.insert n.planted c.args.addr else set.remove n.planted c.args.addr })) c.self.view_is
    (ap (λ s. let n : Words = record { words = (seen t).words; planted = s } in n)
    (unmarked_set t c.args.addr c.args.planted c.ranges.addr.fits none (λ p. subst (λ n. IsSome (shown n c.args.addr)) (sym c.self.view_is) (c.requires p))))

pub invariant_of-self : goal.invariant_of-self
invariant_of-self c =
    let t = c.self.inside in
    let i = c.in-Some.i in
    let b = c.args.planted in
    let words = t.words.items in
    let word = c.index-word.result.now in
    let few : i < length words = omega (arith, c.in-Some.ensures.range, c.len-len.ensures, t.words.ok.0) in
    let same : word ≡ slice_index words i = sym (get_or_from_slice_get words i word 0 (slice_get_read words (length words) i word refl few c.index-word.ensures)) in
    let made = c.entry_of-entry.ensures in
    record {
      layout = c.self.invariant.layout;
      whole = length-set t.planted.items i b ∙ c.self.invariant.whole;
      stored = kept_set stored_as 0 words t.planted.items t.stored.items i b c.stored_word.result c.self.invariant.whole few
          (c.stored_word.ensures ∙ ap (stored_as word) made ∙ ap (λ w. stored_as w (fetched_as (Some w) b)) same) c.self.invariant.stored;
      operations = kept_set (λ w. operation_of) Break words t.planted.items t.operations.items i b c.operation.result c.self.invariant.whole few
          (c.operation.ensures ∙ ap operation_of made ∙ ap (λ w. operation_of (fetched_as (Some w) b)) same) c.self.invariant.operations;
      spans = c.self.invariant.spans;
    }

pub returns : goal.returns
returns c =
    let t = c.self.inside in
    let rs = t.regions.items in
    let i = c.in-Some.i in
    let laid : Laid 0 rs (length t.planted.items) = subst (Laid 0 rs) (sym c.self.invariant.whole) c.self.invariant.layout.laid in
    let found : index rs c.args.addr ≡ Some i = sym (ap (λ xs. index xs c.args.addr) c.as_slice.ensures.value) ∙ sym c.in-Some.ensures.value in
    subst (λ n. ◌≡◌ {A = Words} (record { words = words_below (word_at rs t.words.items) (2 ^ 32); planted = set_below (mark_at rs (slice_set t.planted.items i c.args.planted)) (2 ^ 32) })
    (record { words = n.words; planted = if c.args.planted then set.insert n.planted c.args.addr else set.remove n.planted c.args.addr })) c.self.view_is
    (ap (λ s. record { words = words_below (word_at rs t.words.items) (2 ^ 32); planted = s }) (set_marked rs t.planted.items c.args.addr i c.args.planted c.ranges.addr.fits laid found))
