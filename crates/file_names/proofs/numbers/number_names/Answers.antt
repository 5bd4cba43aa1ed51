use Rattle.std.proofs.Common.{◌≡◌, ◌≤◌, ◌∙◌, ℕ, List, [], Option, None, length, map, ap, sym, subst, get_or, refl, arith}
use Rattle.std.specs.Prelude.{All, ◌++◌}
use Rattle.std.proofs.lemmas.List.{length-map, length-replicate}
use Rattle.leb_read.specs.Leb.{text_from}
use Rattle.line_rows.specs.RowList.{NameList}
use Rattle.file_names.specs.Homes.{AreEnds, AreHomes}
use Rattle.file_names.specs.Numbers.{distinct, names_at, number_of}
use Rattle.file_names.proofs.Numbered.{replicate_none}
use Rattle.file_names.proofs.numbers.number_names.Goals as goal

pub number_places-requires : goal.number_places-requires
number_places-requires c =
    let texts = c.args.texts.now in
    let kept : c.keep.new.self ≡ record { texts = texts; names = [] } = c.in_ok-keep.ensures.ok ∙ ap (λ (l : NameList). let n : NameList = record l { texts = l.texts ++ texts } in n) c.new-names.ensures in
    let same : c.keep.new.self.texts ≡ texts = ap (λ (l : NameList). l.texts) kept in
    let homes : AreHomes texts c.deref.result.now = subst (AreHomes texts) (sym c.deref.ensures.value) c.in_ok-homes.ensures in
    let ends : AreEnds texts c.deref-2.result.now = subst (AreEnds texts) (sym c.deref-2.ensures.value) c.in_ok-ends.ensures in
    record {
      places = subst (λ (l : List ℕ). All (λ p. p ≤ length l) c.args.places.now) (sym same) c.requires;
      homes = subst (λ (l : List ℕ). AreHomes l c.deref.result.now) (sym same) homes;
      ends = subst (λ (l : List ℕ). AreEnds l c.deref-2.result.now) (sym same) ends;
      slots = let known = ap length (c.deref_mut.ensures.value ∙ c.in_ok-known.ensures) ∙ length-replicate _ None in omega (arith, known, c.len.ensures, c.in_ok-homes.ensures.size, ap length same);
      none = λ i. ap (λ (l : List (Option ℕ)). get_or l i None) (c.deref_mut.ensures.value ∙ c.in_ok-known.ensures) ∙ replicate_none _ i None refl;
      no_names = ap (λ (l : NameList). l.names) kept;
    }

pub returns : goal.returns
returns c =
    let texts = c.args.texts.now in
    let kept : c.keep.new.self ≡ record { texts = texts; names = [] } = c.in_ok-keep.ensures.ok ∙ ap (λ (l : NameList). let n : NameList = record l { texts = l.texts ++ texts } in n) c.new-names.ensures in
    let same : c.keep.new.self.texts ≡ texts = ap (λ (l : NameList). l.texts) kept in
    let given = names_at texts c.args.places.now in
    let numbers : c.in_ok-numbers.numbers.items ≡ map (number_of (distinct given)) given = c.in_ok-numbers.ensures.numbers ∙ ap
    (λ (l : List ℕ). map (number_of (distinct (names_at l c.args.places.now))) (names_at l c.args.places.now)) same in
    let count : length c.in_ok-numbers.numbers.items ≡ length c.args.places.now = ap length numbers ∙ length-map given (number_of (distinct given)) ∙ length-map c.args.places.now (text_from texts) in
    record {
      names = c.in_ok-numbers.ensures.names ∙ ap (λ (l : List ℕ). distinct (names_at l c.args.places.now)) same;
      few = omega (arith, count, c.in_ok-_few.ensures);
      numbers = numbers;
    }
