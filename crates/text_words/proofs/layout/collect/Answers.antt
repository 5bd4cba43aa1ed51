use Rattle.std.proofs.Common.{◌≡◌, ℕ, ◌+◌, ◌-◌, ◌<◌, ◌≤◌, ◌∙◌, ap, arith, length, length-append, subst}
use Rattle.std.specs.Prelude.{slice_index_or}
use Rattle.elf32_read.specs.Views.{text_shown}
use Rattle.elf32_read.specs.declared.spans.Span.{Span}
use Rattle.text_words.specs.declared.region.Region.{Region}
use Rattle.text_words.specs.Layout.{Opens}
use Rattle.text_words.proofs.Adding.{Comes, collected_more, first_within, none_collected}
use Rattle.text_words.proofs.Collecting.{all_found, own_words, spans_are, texts_rise}
use Rattle.text_words.proofs.layout.collect.Goals as goal

pub loop-span-init : goal.loop-span-init
loop-span-init c = rw (c.requires.none, c.requires.empty) (none_collected c.args.image.now c.args.spans.now)

pub text-requires : goal.text-requires
text-requires c = (spans_are c.args.image.now.text c.args.spans.now (texts_rise c.args.image.now c.args.spans.now c.requires.spans c.requires.rise) c.loop-span.span-index _ c.loop-span-test.true).within

pub overflow_sub-len : goal.overflow_sub-len
overflow_sub-len c =
    let opens = c.open_region-address in
    let words = c.loop-span.words in
    let start : ℕ = (slice_index_or c.args.spans.now c.loop-span.span-index (record { start = 0; size = 0; number = 0 })).start in
    let len : c.len.result ≡ length words.items = c.len.ensures ∙ words.ok.0 in
    let first = first_within c.loop-span.regions.items opens.new.regions.items opens.result.0 opens.result.1 start (length words.items) c.loop-span.end c.loop-span.invariant.layout
    (subst (λ n. Opens c.loop-span.regions.items opens.new.regions.items opens.result.0 opens.result.1 start n c.loop-span.end) len opens.ensures) in
    omega (arith, first, c.len-in-loop-span.ensures, c.add_words.new.words.ok.0, ap length c.in_ok-add_words.ensures, length-append words.items (text_shown c.text.result).words)

pub loop-span-preserved : goal.loop-span-preserved
loop-span-preserved c =
    let opens = c.open_region-address in
    let words = c.loop-span.words in
    let p = c.args.image.now in
    let ss = c.args.spans.now in
    let k = c.loop-span.span-index in
    let d : Span = record { start = 0; size = 0; number = 0 } in
    let s : Span = slice_index_or ss k d in
    let r : Region = record { address = opens.result.0; count = c.len-in-loop-span.result - opens.result.1; first = opens.result.1 } in
    let len : c.len.result ≡ length words.items = c.len.ensures ∙ words.ok.0 in
    let opened : Opens c.loop-span.regions.items opens.new.regions.items r.address r.first s.start (length words.items) c.loop-span.end =
    subst (λ n. Opens c.loop-span.regions.items opens.new.regions.items opens.result.0 opens.result.1 s.start n c.loop-span.end) len opens.ensures in
    let first = first_within c.loop-span.regions.items opens.new.regions.items r.address r.first s.start (length words.items) c.loop-span.end c.loop-span.invariant.layout opened in
    let ws = (text_shown c.text.result).words in
    let more = c.add_words.new.words.items in
    let comes : Comes p ss k d r words.items ws more = record {
      low = c.loop-span-test.true;
      is = spans_are p.text ss (texts_rise p ss c.requires.spans c.requires.rise) k d c.loop-span-test.true;
      rise = c.requires.rise;
      aligned = c.requires.aligned;
      own = own_words p.text s.number (text_shown c.text.result) c.text.ensures;
      all = c.in_ok-add_words.ensures;
      counted = omega (arith, first, c.len-in-loop-span.ensures, c.add_words.new.words.ok.0, ap length c.in_ok-add_words.ensures, length-append words.items ws);
    } in
    rw (c.in_ok-push.ensures.items, c.end-end.ensures) (collected_more p ss k d c.loop-span.regions.items opens.new.regions.items r words.items ws more c.loop-span.end comes opened c.loop-span.invariant)

pub returns : goal.returns
returns c = all_found c.args.image.now c.args.spans.now c.loop-span.span-index c.loop-span.regions.items c.loop-span.words.items (texts_rise c.args.image.now c.args.spans.now c.requires.spans c.requires.rise) (omega arith) c.loop-span.invariant.layout c.loop-span.invariant.found
