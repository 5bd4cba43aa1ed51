-- The operations of words side by side.
use Rattle.std.proofs.Common.{◌≡◌, ℕ, ◌+◌, ◌*◌, ◌^◌, ◌<◌, ◌≤◌, List, length, take, drop, refl, ap, sym, ◌∙◌, subst, arith, Some, None}
use Rattle.std.specs.Prelude.{IsSome, Option, slice_index, slice_index_or}
use Rattle.std.specs.Option.{option_map, option_map_or}
use Rattle.rv_exec.specs.declared.operation.Operation.{Operation}
use Rattle.rv_exec.specs.declared.operation.Operation.TheVariants.{Break}
use Rattle.text_words.specs.declared.region.Region.{Region}
use Rattle.text_words.specs.declared.text.TextWords.TheInside.{Inside}
use Rattle.text_words.specs.Words.{Words, fetched, fetched_as, is_planted, operation_of}
use Rattle.text_words.specs.Layout.{IsLaid, index, operation_at, seen}
use Rattle.text_words.specs.Runs.{AreOperations}
use Rattle.text_words.proofs.Marks.{fetched_is, index_range, shown_is}
use Rattle.text_words.proofs.Runs.{cut_at, cut_length}

operation_is : (t : Inside) (addr i : ℕ) → IsLaid t → addr < 2 ^ 32 → index t.regions.items addr ≡ Some i → i < length t.words.items → slice_index_or t.operations.items i Break ≡ operation_of (fetched (seen t) addr)
operation_is t addr i laid low found few = laid.operations.each i few ∙ ap operation_of (sym (fetched_is t addr i low found))

-- the operation at an address, whether a word is there or not
operation_by : (t : Inside) (addr : ℕ) (o : Option ℕ) → IsLaid t → addr < 2 ^ 32 → index t.regions.items addr ≡ o → option_map_or (λ i. slice_index_or t.operations.items i Break) o Break ≡ operation_of (fetched (seen t) addr)
operation_by t addr None laid low found =
    ap operation_of (sym (ap (λ o. fetched_as o (is_planted (seen t) addr)) (shown_is t addr low ∙ ap (option_map (slice_index t.words.items)) found)))
operation_by t addr (Some i) laid low found = operation_is t addr i laid low found (index_range t.regions.items (length t.words.items) addr i laid.layout.laid found)

pub operation_there : (t : Inside) (addr : ℕ) → IsLaid t → addr < 2 ^ 32 → operation_at t.regions.items t.operations.items addr ≡ operation_of (fetched (seen t) addr)
operation_there t addr laid low = operation_by t addr (index t.regions.items addr) laid low refl

some_mapped : (o : Option ℕ) (words : List ℕ) (i : ℕ) → o ≡ Some i → IsSome (option_map (slice_index words) o)
some_mapped None words i e = cc
some_mapped (Some j) words i e = refl

cut_operations : (t : Inside) (addr first count : ℕ) → IsLaid t → first + count ≤ length t.words.items → ((k : ℕ) → k < count → addr + 4 * k < 2 ^ 32)
    → ((k : ℕ) → k < count → index t.regions.items (addr + 4 * k) ≡ Some (first + k)) → AreOperations (seen t) addr (take count (drop first t.operations.items))
cut_operations t addr first count laid few low found =
    let many : length (take count (drop first t.operations.items)) ≡ count = cut_length t.operations.items first count (omega (arith, few, laid.operations.whole)) in
    record {
      low = λ k l. low k (omega (arith, l, many));
      there = λ k l.
          let less : k < count = omega (arith, l, many) in
          subst IsSome (sym (shown_is t (addr + 4 * k) (low k less))) (some_mapped (index t.regions.items (addr + 4 * k)) t.words.items (first + k) (found k less));
      are = λ k l.
          let less : k < count = omega (arith, l, many) in
          cut_at t.operations.items first count k Break less ∙ operation_is t (addr + 4 * k) (first + k) laid (low k less) (found k less) (omega (arith, less, few));
    }

-- the same where the text and its lists are known by other names
pub operations_are : (t : Inside) (w : Words) (addr first count : ℕ) (rs : List Region) (operations : List Operation) → seen t ≡ w → IsLaid t → rs ≡ t.regions.items
    → first + count ≤ length t.words.items → ((k : ℕ) → k < count → addr + 4 * k < 2 ^ 32) → ((k : ℕ) → k < count → index rs (addr + 4 * k) ≡ Some (first + k))
    → operations ≡ take count (drop first t.operations.items) → AreOperations w addr operations
operations_are t w addr first count rs operations e laid regions few low found are =
    subst (λ v. AreOperations v addr operations) e
    (subst (λ xs. AreOperations (seen t) addr xs) (sym are) (cut_operations t addr first count laid few low (λ k l. ap (λ xs. index xs (addr + 4 * k)) (sym regions) ∙ found k l)))
