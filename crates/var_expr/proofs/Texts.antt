-- The texts that stand for variables have no fault.
use Rattle.std.proofs.Common.{◌≡◌, ◌<◌, ◌/◌, ◌%◌, ◌^◌, ℕ, zero, suc, Bool, true, false, List, [], ◌∷◌, length, Option, None, Some, Ok, refl, arith, sym, ◌∙◌, ap, subst}
use Rattle.std.specs.Prelude.{ℤ, codes, decimal, nat_lt, ◌==◌, if◌then◌else◌}
use Rattle.std.specs.Int.{byte_at}
use Rattle.std.specs.Option.{option_map}
use Rattle.std.proofs.lemmas.Bool.Decides.{nat_tests}
use Rattle.std.specs.Fmt.{digits}
use Rattle.hex.specs.Hex.{encode_with, lower_digits}
use Rattle.std.specs.Prelude.{slice_index}
use Rattle.elf_symbols.specs.Names.{Names}
use Rattle.cond_expr.specs.Fault.{behind, first_fault, wanting}
use Rattle.cond_expr.specs.Lex.{after_blanks, is_digit_of, number_behind, run_length, spot, tokens_from, tokens_of}
use Rattle.cond_expr.specs.Reader.{expression, joined, operand, parsed, read_tree}
use Rattle.cond_expr.specs.Term.{Term}
use Rattle.cond_expr.specs.Value.{value_of}
use Rattle.cond_expr.specs.declared.token.ReadType.TheVariants.{Int, UnsignedInt, Short, UnsignedShort, Char}
use Rattle.cond_expr.specs.declared.token.Spot.{Spot}
use Rattle.cond_expr.specs.declared.token.Token.TheVariants.{Cast, Open}
use Rattle.debug_info.specs.Scope.{Variable}
use Rattle.debug_info.specs.declared.entry.Kind.{Kind}
use Rattle.debug_info.specs.declared.entry.Kind.TheVariants as kind
use Rattle.debug_info.specs.declared.expression.Base.{Base}
use Rattle.debug_info.specs.declared.expression.Place.{Place}
use Rattle.debug_info.specs.declared.expression.Place.TheVariants as place
use Rattle.var_expr.specs.Holder.{IsHolder, base_address, held_at, holder_of, moved}
use Rattle.var_expr.specs.Stands.{Around, IsWorth, around, around_address, around_register, address_text, standing_by, stands, text_in, text_or_none}
use Rattle.var_expr.specs.declared.holder.Holder.{Holder}
use Rattle.var_expr.specs.declared.holder.Holder.TheVariants.{Memory, Register}
use Rattle.var_expr.proofs.Spelled.{AreHex, number_first}
use Rattle.var_expr.proofs.Worth.{divides, undivided_worth}

-- a text without a fault that isn't too long
pub record IsSpelled (names : Names) (text : List ℕ) : Type 0 where
  pub faultless : first_fault (length text) (tokens_of names text) ≡ None
  pub short : nat_lt 256 (length text) ≡ false
  pub undivided : divides (read_tree (tokens_of names text)) ≡ false

digit_is : (k : ℕ) → k < 16 → is_digit_of 16 (slice_index lower_digits k) ≡ true
digit_is zero h = refl
digit_is (suc zero) h = refl
digit_is (suc (suc zero)) h = refl
digit_is (suc (suc (suc zero))) h = refl
digit_is (suc (suc (suc (suc zero)))) h = refl
digit_is (suc (suc (suc (suc (suc zero))))) h = refl
digit_is (suc (suc (suc (suc (suc (suc zero)))))) h = refl
digit_is (suc (suc (suc (suc (suc (suc (suc zero))))))) h = refl
digit_is (suc (suc (suc (suc (suc (suc (suc (suc zero)))))))) h = refl
digit_is (suc (suc (suc (suc (suc (suc (suc (suc (suc zero))))))))) h = refl
digit_is (suc (suc (suc (suc (suc (suc (suc (suc (suc (suc zero)))))))))) h = refl
digit_is (suc (suc (suc (suc (suc (suc (suc (suc (suc (suc (suc zero))))))))))) h = refl
digit_is (suc (suc (suc (suc (suc (suc (suc (suc (suc (suc (suc (suc zero)))))))))))) h = refl
digit_is (suc (suc (suc (suc (suc (suc (suc (suc (suc (suc (suc (suc (suc zero))))))))))))) h = refl
digit_is (suc (suc (suc (suc (suc (suc (suc (suc (suc (suc (suc (suc (suc (suc zero)))))))))))))) h = refl
digit_is (suc (suc (suc (suc (suc (suc (suc (suc (suc (suc (suc (suc (suc (suc (suc zero))))))))))))))) h = refl
digit_is (suc (suc (suc (suc (suc (suc (suc (suc (suc (suc (suc (suc (suc (suc (suc (suc k)))))))))))))))) h = absurd (omega arith)

abbrev digit : ℕ → ℕ
digit k = slice_index lower_digits k

-- the digits of an address
high : (b : ℕ) → b < 256 → b / 16 < 16
high b h = omega arith

low : (b : ℕ) → b % 16 < 16
low b = omega arith

mod_below : (n : ℕ) → n % 256 < 256
mod_below n = omega arith

byte_below : (k n : ℕ) → byte_at k n < 256
byte_below zero n = omega arith
byte_below (suc k) n = mod_below (n / 256 ^ suc k)

abbrev first_of : ℕ → ℕ
first_of n = digit (byte_at 3 n / 16)

abbrev others_of : ℕ → List ℕ
others_of n =
    digit (byte_at 3 n % 16) ∷ digit (byte_at 2 n / 16) ∷ digit (byte_at 2 n % 16) ∷ digit (byte_at 1 n / 16) ∷ digit (byte_at 1 n % 16) ∷ digit (byte_at 0 n / 16) ∷ digit (byte_at 0 n % 16) ∷ []

are_hex : (n : ℕ) → AreHex (first_of n ∷ others_of n)
are_hex n = (
  digit_is _ (high _ (byte_below 3 n)),
  (
    digit_is _ (low (byte_at 3 n)),
    (
      digit_is _ (high _ (byte_below 2 n)),
      (
        digit_is _ (low (byte_at 2 n)),
        (digit_is _ (high _ (byte_below 1 n)), (digit_is _ (low (byte_at 1 n)), (digit_is _ (high _ (byte_below 0 n)), (digit_is _ (low (byte_at 0 n)), tt)))),
      ),
    ),
  ),
)

-- what stands around an address
abbrev ReadsMemory : Around → Type 0
ReadsMemory a = (names : Names) (address : ℕ) → IsSpelled names (around (address_text address) a)

int_reads : ReadsMemory (record { front = codes "({int} "; behind = codes ")" })
unfolding encode_with tokens_from after_blanks run_length wanting behind joined expression operand
int_reads names n = record {
  faultless = ap (λ (ts : List Spot). first_fault 18 (spot Open 0 ∷ spot (Cast Int) 1 ∷ ts)) (number_first names 18 14 (first_of n) (others_of n) 41 [] (are_hex n) refl refl);
  short = refl;
  undivided = ap (λ (ts : List Spot). divides (read_tree (spot Open 0 ∷ spot (Cast Int) 1 ∷ ts))) (number_first names 18 14 (first_of n) (others_of n) 41 [] (are_hex n) refl refl);
}

uint_reads : ReadsMemory (record { front = codes "({unsigned int} "; behind = codes ")" })
unfolding encode_with tokens_from after_blanks run_length wanting behind joined expression operand
uint_reads names n = record {
  faultless = ap (λ (ts : List Spot). first_fault 27 (spot Open 0 ∷ spot (Cast UnsignedInt) 1 ∷ ts)) (number_first names 27 23 (first_of n) (others_of n) 41 [] (are_hex n) refl refl);
  short = refl;
  undivided = ap (λ (ts : List Spot). divides (read_tree (spot Open 0 ∷ spot (Cast UnsignedInt) 1 ∷ ts))) (number_first names 27 23 (first_of n) (others_of n) 41 [] (are_hex n) refl refl);
}

short_reads : ReadsMemory (record { front = codes "({short} "; behind = codes ")" })
unfolding encode_with tokens_from after_blanks run_length wanting behind joined expression operand
short_reads names n = record {
  faultless = ap (λ (ts : List Spot). first_fault 20 (spot Open 0 ∷ spot (Cast Short) 1 ∷ ts)) (number_first names 20 16 (first_of n) (others_of n) 41 [] (are_hex n) refl refl);
  short = refl;
  undivided = ap (λ (ts : List Spot). divides (read_tree (spot Open 0 ∷ spot (Cast Short) 1 ∷ ts))) (number_first names 20 16 (first_of n) (others_of n) 41 [] (are_hex n) refl refl);
}

ushort_reads : ReadsMemory (record { front = codes "({unsigned short} "; behind = codes ")" })
unfolding encode_with tokens_from after_blanks run_length wanting behind joined expression operand
ushort_reads names n = record {
  faultless = ap (λ (ts : List Spot). first_fault 29 (spot Open 0 ∷ spot (Cast UnsignedShort) 1 ∷ ts)) (number_first names 29 25 (first_of n) (others_of n) 41 [] (are_hex n) refl refl);
  short = refl;
  undivided = ap (λ (ts : List Spot). divides (read_tree (spot Open 0 ∷ spot (Cast UnsignedShort) 1 ∷ ts))) (number_first names 29 25 (first_of n) (others_of n) 41 [] (are_hex n) refl refl);
}

char_reads : ReadsMemory (record { front = codes "({char} "; behind = codes ")" })
unfolding encode_with tokens_from after_blanks run_length wanting behind joined expression operand
char_reads names n = record {
  faultless = ap (λ (ts : List Spot). first_fault 19 (spot Open 0 ∷ spot (Cast Char) 1 ∷ ts)) (number_first names 19 15 (first_of n) (others_of n) 41 [] (are_hex n) refl refl);
  short = refl;
  undivided = ap (λ (ts : List Spot). divides (read_tree (spot Open 0 ∷ spot (Cast Char) 1 ∷ ts))) (number_first names 19 15 (first_of n) (others_of n) 41 [] (are_hex n) refl refl);
}

signed_char_reads : ReadsMemory (record { front = codes "(({char} "; behind = codes " ^ 128) - 128)" })
unfolding encode_with tokens_from after_blanks run_length wanting behind number_behind joined expression operand
signed_char_reads names n = record {
  faultless = ap (λ (ts : List Spot). first_fault 33 (spot Open 0 ∷ spot Open 1 ∷ spot (Cast Char) 2 ∷ ts)) (number_first names 33 28 (first_of n) (others_of n) 32 (codes "^ 128) - 128)") (are_hex n) refl refl);
  short = refl;
  undivided = ap (λ (ts : List Spot). divides (read_tree (spot Open 0 ∷ spot Open 1 ∷ spot (Cast Char) 2 ∷ ts))) (number_first names 33 28 (first_of n) (others_of n) 32 (codes "^ 128) - 128)") (are_hex n) refl refl);
}

by_choice : (P : Around → Type 0) (b : Bool) (x a : Around) (o : Option Around) → (if b then Some x else o) ≡ Some a → P x → (o ≡ Some a → P a) → P a
by_choice P true x a o e p q = (let same : x ≡ a = cc in subst P same p)
by_choice P false x a o e p q = q e

memory_reads : (k : Kind) (a : Around) → around_address k ≡ Some a → ReadsMemory a
memory_reads (kind.Signed n) a e =
    by_choice ReadsMemory (n == 4) _ a _ e int_reads (λ f. by_choice ReadsMemory (n == 2) _ a _ f short_reads (λ g. by_choice ReadsMemory (n == 1) _ a _ g signed_char_reads (λ h. absurd (cc))))
memory_reads (kind.Unsigned n) a e =
    by_choice ReadsMemory (n == 4) _ a _ e uint_reads (λ f. by_choice ReadsMemory (n == 2) _ a _ f ushort_reads (λ g. by_choice ReadsMemory (n == 1) _ a _ g char_reads (λ h. absurd (cc))))
memory_reads kind.Pointer a e = (let same : record { front = codes "({unsigned int} "; behind = codes ")" } ≡ a = cc in subst ReadsMemory same uint_reads)
memory_reads kind.Other a e = absurd (cc)

-- what stands around a register's number
abbrev ReadsRegister : Around → Type 0
ReadsRegister a = (names : Names) (n : ℕ) → n < 32 → IsSpelled names (around (decimal n) a)

signed_more : (names : Names) (m : ℕ) → m < 16
    → IsSpelled names (around (decimal (suc (suc (suc (suc (suc (suc (suc (suc (suc (suc (suc (suc (suc (suc (suc (suc m))))))))))))))))) (record { front = codes "($x"; behind = codes ")" }))
unfolding digits tokens_from after_blanks run_length wanting behind joined expression operand
signed_more names zero h = record { faultless = refl; short = refl; undivided = refl }
signed_more names (suc zero) h = record { faultless = refl; short = refl; undivided = refl }
signed_more names (suc (suc zero)) h = record { faultless = refl; short = refl; undivided = refl }
signed_more names (suc (suc (suc zero))) h = record { faultless = refl; short = refl; undivided = refl }
signed_more names (suc (suc (suc (suc zero)))) h = record { faultless = refl; short = refl; undivided = refl }
signed_more names (suc (suc (suc (suc (suc zero))))) h = record { faultless = refl; short = refl; undivided = refl }
signed_more names (suc (suc (suc (suc (suc (suc zero)))))) h = record { faultless = refl; short = refl; undivided = refl }
signed_more names (suc (suc (suc (suc (suc (suc (suc zero))))))) h = record { faultless = refl; short = refl; undivided = refl }
signed_more names (suc (suc (suc (suc (suc (suc (suc (suc zero)))))))) h = record { faultless = refl; short = refl; undivided = refl }
signed_more names (suc (suc (suc (suc (suc (suc (suc (suc (suc zero))))))))) h = record { faultless = refl; short = refl; undivided = refl }
signed_more names (suc (suc (suc (suc (suc (suc (suc (suc (suc (suc zero)))))))))) h = record { faultless = refl; short = refl; undivided = refl }
signed_more names (suc (suc (suc (suc (suc (suc (suc (suc (suc (suc (suc zero))))))))))) h = record { faultless = refl; short = refl; undivided = refl }
signed_more names (suc (suc (suc (suc (suc (suc (suc (suc (suc (suc (suc (suc zero)))))))))))) h = record { faultless = refl; short = refl; undivided = refl }
signed_more names (suc (suc (suc (suc (suc (suc (suc (suc (suc (suc (suc (suc (suc zero))))))))))))) h = record { faultless = refl; short = refl; undivided = refl }
signed_more names (suc (suc (suc (suc (suc (suc (suc (suc (suc (suc (suc (suc (suc (suc zero)))))))))))))) h = record { faultless = refl; short = refl; undivided = refl }
signed_more names (suc (suc (suc (suc (suc (suc (suc (suc (suc (suc (suc (suc (suc (suc (suc zero))))))))))))))) h = record { faultless = refl; short = refl; undivided = refl }
signed_more names (suc (suc (suc (suc (suc (suc (suc (suc (suc (suc (suc (suc (suc (suc (suc (suc m)))))))))))))))) h = absurd (omega arith)

signed_fits : ReadsRegister (record { front = codes "($x"; behind = codes ")" })
unfolding digits tokens_from after_blanks run_length wanting behind joined expression operand
signed_fits names zero h = record { faultless = refl; short = refl; undivided = refl }
signed_fits names (suc zero) h = record { faultless = refl; short = refl; undivided = refl }
signed_fits names (suc (suc zero)) h = record { faultless = refl; short = refl; undivided = refl }
signed_fits names (suc (suc (suc zero))) h = record { faultless = refl; short = refl; undivided = refl }
signed_fits names (suc (suc (suc (suc zero)))) h = record { faultless = refl; short = refl; undivided = refl }
signed_fits names (suc (suc (suc (suc (suc zero))))) h = record { faultless = refl; short = refl; undivided = refl }
signed_fits names (suc (suc (suc (suc (suc (suc zero)))))) h = record { faultless = refl; short = refl; undivided = refl }
signed_fits names (suc (suc (suc (suc (suc (suc (suc zero))))))) h = record { faultless = refl; short = refl; undivided = refl }
signed_fits names (suc (suc (suc (suc (suc (suc (suc (suc zero)))))))) h = record { faultless = refl; short = refl; undivided = refl }
signed_fits names (suc (suc (suc (suc (suc (suc (suc (suc (suc zero))))))))) h = record { faultless = refl; short = refl; undivided = refl }
signed_fits names (suc (suc (suc (suc (suc (suc (suc (suc (suc (suc zero)))))))))) h = record { faultless = refl; short = refl; undivided = refl }
signed_fits names (suc (suc (suc (suc (suc (suc (suc (suc (suc (suc (suc zero))))))))))) h = record { faultless = refl; short = refl; undivided = refl }
signed_fits names (suc (suc (suc (suc (suc (suc (suc (suc (suc (suc (suc (suc zero)))))))))))) h = record { faultless = refl; short = refl; undivided = refl }
signed_fits names (suc (suc (suc (suc (suc (suc (suc (suc (suc (suc (suc (suc (suc zero))))))))))))) h = record { faultless = refl; short = refl; undivided = refl }
signed_fits names (suc (suc (suc (suc (suc (suc (suc (suc (suc (suc (suc (suc (suc (suc zero)))))))))))))) h = record { faultless = refl; short = refl; undivided = refl }
signed_fits names (suc (suc (suc (suc (suc (suc (suc (suc (suc (suc (suc (suc (suc (suc (suc zero))))))))))))))) h = record { faultless = refl; short = refl; undivided = refl }
signed_fits names (suc (suc (suc (suc (suc (suc (suc (suc (suc (suc (suc (suc (suc (suc (suc (suc m)))))))))))))))) h = signed_more names m (omega arith)

whole_more : (names : Names) (m : ℕ) → m < 16
    → IsSpelled names (around (decimal (suc (suc (suc (suc (suc (suc (suc (suc (suc (suc (suc (suc (suc (suc (suc (suc m))))))))))))))))) (record { front = codes "(($x"; behind = codes " ^ 4294967295) ^ 4294967295)" }))
unfolding digits tokens_from after_blanks run_length wanting behind number_behind joined expression operand
whole_more names zero h = record { faultless = refl; short = refl; undivided = refl }
whole_more names (suc zero) h = record { faultless = refl; short = refl; undivided = refl }
whole_more names (suc (suc zero)) h = record { faultless = refl; short = refl; undivided = refl }
whole_more names (suc (suc (suc zero))) h = record { faultless = refl; short = refl; undivided = refl }
whole_more names (suc (suc (suc (suc zero)))) h = record { faultless = refl; short = refl; undivided = refl }
whole_more names (suc (suc (suc (suc (suc zero))))) h = record { faultless = refl; short = refl; undivided = refl }
whole_more names (suc (suc (suc (suc (suc (suc zero)))))) h = record { faultless = refl; short = refl; undivided = refl }
whole_more names (suc (suc (suc (suc (suc (suc (suc zero))))))) h = record { faultless = refl; short = refl; undivided = refl }
whole_more names (suc (suc (suc (suc (suc (suc (suc (suc zero)))))))) h = record { faultless = refl; short = refl; undivided = refl }
whole_more names (suc (suc (suc (suc (suc (suc (suc (suc (suc zero))))))))) h = record { faultless = refl; short = refl; undivided = refl }
whole_more names (suc (suc (suc (suc (suc (suc (suc (suc (suc (suc zero)))))))))) h = record { faultless = refl; short = refl; undivided = refl }
whole_more names (suc (suc (suc (suc (suc (suc (suc (suc (suc (suc (suc zero))))))))))) h = record { faultless = refl; short = refl; undivided = refl }
whole_more names (suc (suc (suc (suc (suc (suc (suc (suc (suc (suc (suc (suc zero)))))))))))) h = record { faultless = refl; short = refl; undivided = refl }
whole_more names (suc (suc (suc (suc (suc (suc (suc (suc (suc (suc (suc (suc (suc zero))))))))))))) h = record { faultless = refl; short = refl; undivided = refl }
whole_more names (suc (suc (suc (suc (suc (suc (suc (suc (suc (suc (suc (suc (suc (suc zero)))))))))))))) h = record { faultless = refl; short = refl; undivided = refl }
whole_more names (suc (suc (suc (suc (suc (suc (suc (suc (suc (suc (suc (suc (suc (suc (suc zero))))))))))))))) h = record { faultless = refl; short = refl; undivided = refl }
whole_more names (suc (suc (suc (suc (suc (suc (suc (suc (suc (suc (suc (suc (suc (suc (suc (suc m)))))))))))))))) h = absurd (omega arith)

whole_fits : ReadsRegister (record { front = codes "(($x"; behind = codes " ^ 4294967295) ^ 4294967295)" })
unfolding digits tokens_from after_blanks run_length wanting behind number_behind joined expression operand
whole_fits names zero h = record { faultless = refl; short = refl; undivided = refl }
whole_fits names (suc zero) h = record { faultless = refl; short = refl; undivided = refl }
whole_fits names (suc (suc zero)) h = record { faultless = refl; short = refl; undivided = refl }
whole_fits names (suc (suc (suc zero))) h = record { faultless = refl; short = refl; undivided = refl }
whole_fits names (suc (suc (suc (suc zero)))) h = record { faultless = refl; short = refl; undivided = refl }
whole_fits names (suc (suc (suc (suc (suc zero))))) h = record { faultless = refl; short = refl; undivided = refl }
whole_fits names (suc (suc (suc (suc (suc (suc zero)))))) h = record { faultless = refl; short = refl; undivided = refl }
whole_fits names (suc (suc (suc (suc (suc (suc (suc zero))))))) h = record { faultless = refl; short = refl; undivided = refl }
whole_fits names (suc (suc (suc (suc (suc (suc (suc (suc zero)))))))) h = record { faultless = refl; short = refl; undivided = refl }
whole_fits names (suc (suc (suc (suc (suc (suc (suc (suc (suc zero))))))))) h = record { faultless = refl; short = refl; undivided = refl }
whole_fits names (suc (suc (suc (suc (suc (suc (suc (suc (suc (suc zero)))))))))) h = record { faultless = refl; short = refl; undivided = refl }
whole_fits names (suc (suc (suc (suc (suc (suc (suc (suc (suc (suc (suc zero))))))))))) h = record { faultless = refl; short = refl; undivided = refl }
whole_fits names (suc (suc (suc (suc (suc (suc (suc (suc (suc (suc (suc (suc zero)))))))))))) h = record { faultless = refl; short = refl; undivided = refl }
whole_fits names (suc (suc (suc (suc (suc (suc (suc (suc (suc (suc (suc (suc (suc zero))))))))))))) h = record { faultless = refl; short = refl; undivided = refl }
whole_fits names (suc (suc (suc (suc (suc (suc (suc (suc (suc (suc (suc (suc (suc (suc zero)))))))))))))) h = record { faultless = refl; short = refl; undivided = refl }
whole_fits names (suc (suc (suc (suc (suc (suc (suc (suc (suc (suc (suc (suc (suc (suc (suc zero))))))))))))))) h = record { faultless = refl; short = refl; undivided = refl }
whole_fits names (suc (suc (suc (suc (suc (suc (suc (suc (suc (suc (suc (suc (suc (suc (suc (suc m)))))))))))))))) h = whole_more names m (omega arith)

register_reads : (k : Kind) (a : Around) → around_register k ≡ Some a → ReadsRegister a
register_reads (kind.Signed n) a e = by_choice ReadsRegister (n == 4) _ a _ e signed_fits (λ f. absurd (cc))
register_reads (kind.Unsigned n) a e = by_choice ReadsRegister (n == 4) _ a _ e whole_fits (λ f. absurd (cc))
register_reads kind.Pointer a e = (let same : record { front = codes "(($x"; behind = codes " ^ 4294967295) ^ 4294967295)" } ≡ a = cc in subst ReadsRegister same whole_fits)
register_reads kind.Other a e = absurd (cc)

-- a holder has a register below 32
framed : (o : Option ℕ) (offset : ℤ) (h : Holder) → option_map (λ address. Memory (moved address offset)) o ≡ Some h → IsHolder h
framed None offset h e = absurd (cc)
framed (Some address) offset (Memory a) e = tt
framed (Some address) offset (Register n) e = absurd (cc)

numbered : (n : ℕ) (b : Bool) (h : Holder) → nat_lt n 32 ≡ b → (if b then Some (Register n) else None) ≡ Some h → IsHolder h
numbered n true (Memory a) t e = tt
numbered n true (Register m) t e = (let same : n ≡ m = cc in let less : n < 32 = grind (arith, nat_tests) in subst (λ i. i < 32) same less)
numbered n false h t e = absurd (cc)

held_is : (registers : ℕ → ℕ) (cfa : Option ℕ) (b : Base) (p : Place) (h : Holder) → held_at registers cfa b p ≡ Some h → IsHolder h
held_is registers cfa b place.Absent h e = absurd (cc)
held_is registers cfa b (place.Fixed address) (Memory a) e = tt
held_is registers cfa b (place.Fixed address) (Register n) e = absurd (cc)
held_is registers cfa b (place.Frame offset) h e = framed (base_address registers cfa b) offset h e
held_is registers cfa b (place.Reg n) h e = numbered n (nat_lt n 32) h refl e

-- the text of what is around
text_spelled : (P : List ℕ → Type 0) (middle text : List ℕ) (o : Option Around) → text_in (text_or_none (option_map (around middle) o)) ≡ Some text → ((a : Around) → o ≡ Some a → P (around middle a)) → P text
text_spelled P middle text None e h = absurd (cc)
text_spelled P middle text (Some a) e h = (let same : around middle a ≡ text = cc in subst P same (h a refl))

holder_spelled : (names : Names) (k : Kind) (text : List ℕ) (h : Holder) → IsHolder h → text_in (standing_by k (Some h)) ≡ Some text → IsSpelled names text
holder_spelled names k text (Memory address) is e = text_spelled (IsSpelled names) (address_text address) text (around_address k) e (λ a same. memory_reads k a same names address)
holder_spelled names k text (Register n) is e = text_spelled (IsSpelled names) (decimal n) text (around_register k) e (λ a same. register_reads k a same names n is)

standing_spelled : (names : Names) (k : Kind) (text : List ℕ) (o : Option Holder) → ((h : Holder) → o ≡ Some h → IsHolder h) → text_in (standing_by k o) ≡ Some text → IsSpelled names text
standing_spelled names k text None is e = absurd (cc)
standing_spelled names k text (Some h) is e = holder_spelled names k text h (is h refl) e

spelled_parsed : (names : Names) (text : List ℕ) → IsSpelled names text → (x : Term) × (parsed names text ≡ Ok x)
unfolding parsed
spelled_parsed names text s = (read_tree (tokens_of names text), rw (s.short, s.faultless) refl)

pub stands_worth : (names : Names) (registers : ℕ → ℕ) (bytes : ℕ → Option ℕ) (cfa : Option ℕ) (v : Variable) (text : List ℕ) (x : Term) → stands registers cfa v ≡ Some text → parsed names text ≡ Ok x → IsWorth (value_of registers bytes x)
unfolding parsed
stands_worth names registers bytes cfa v text x e read =
    let s = standing_spelled names v.kind text (holder_of registers cfa v) (held_is registers cfa v.base v.place) e in
    let tree : Ok (read_tree (tokens_of names text)) ≡ Ok x = sym (rw (s.short, s.faultless) refl) ∙ read in
    let same : read_tree (tokens_of names text) ≡ x = cc in
    subst (λ (t : Term). IsWorth (value_of registers bytes t)) same (undivided_worth registers bytes (read_tree (tokens_of names text)) s.undivided)

pub stands_parsed : (names : Names) (registers : ℕ → ℕ) (cfa : Option ℕ) (v : Variable) (text : List ℕ) → stands registers cfa v ≡ Some text → (x : Term) × (parsed names text ≡ Ok x)
stands_parsed names registers cfa v text e = spelled_parsed names text (standing_spelled names v.kind text (holder_of registers cfa v) (held_is registers cfa v.base v.place) e)
