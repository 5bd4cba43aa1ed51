-- Rows are sooner by an order.
use Rattle.std.proofs.Common.{◌≡◌, ℕ, true, false, arith}
use Rattle.std.specs.Prelude.{nat_lt, ◌==◌, ◌&&◌, ◌||◌}
use Rattle.std.proofs.lemmas.Bool.Decides.{nat_tests}
use Rattle.elf_symbols.proofs.Foremost.{IsOrder}
use Rattle.line_index.specs.Lines.{is_sooner}

-- lines and addresses as numbers
itself_not : (l a : ℕ) → (nat_lt l l || ((l == l) && nat_lt a a)) ≡ false
itself_not l a = grind (arith, nat_tests)

sooner_along : (l a m b n c : ℕ) → (nat_lt l m || ((l == m) && nat_lt a b)) ≡ true → (nat_lt m n || ((m == n) && nat_lt b c)) ≡ true → (nat_lt l n || ((l == n) && nat_lt a c)) ≡ true
sooner_along l a m b n c h k = grind (arith, nat_tests)

sooner_between : (l a m b n c : ℕ) → (nat_lt l n || ((l == n) && nat_lt a c)) ≡ true → (nat_lt m n || ((m == n) && nat_lt b c)) ≡ false → (nat_lt l m || ((l == m) && nat_lt a b)) ≡ true
sooner_between l a m b n c h k = grind (arith, nat_tests)

pub sooner_order : IsOrder is_sooner
sooner_order = record {
  itself = λ x. itself_not x.line x.address;
  along = λ x y z h k. sooner_along x.line x.address y.line y.address z.line z.address h k;
  between = λ x y z h k. sooner_between x.line x.address y.line y.address z.line z.address h k;
}
