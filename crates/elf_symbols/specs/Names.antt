-- The symbols of a program, and what their look-ups answer.
use Rattle.std.specs.Prelude.{ℕ, ◌+◌, ◌==◌, nat_le, nat_lt, ◌&&◌, ◌||◌, not, Bool, true, false, List, [], ◌∷◌, Option, None, Some, filter, find, fold, take, if◌then◌else◌, option_and_then}
use Rattle.std.specs.List.{list_any}
use Rattle.std.specs.Str.{bytes_eq}

-- a named symbol (gABI, Symbol Table)
pub record Symbol : Type 0 where
  pub name : List ℕ
  pub address : ℕ
  pub size : ℕ
  pub is_function : Bool

pub record Names : Type 0 where
  -- all, in the table's order
  pub symbols : List Symbol
  -- the functions whose address is in text, in the table's order
  pub functions : List Symbol

-- byte order of names
abbrev pub bytes_before : List ℕ → List ℕ → Bool
bytes_before [] [] = false
bytes_before [] (y ∷ ys) = true
bytes_before (x ∷ xs) [] = false
bytes_before (x ∷ xs) (y ∷ ys) = nat_lt x y || ((x == y) && bytes_before xs ys)

-- the first element that no other comes before
abbrev pub foremost : {A : Type 0} → (A → A → Bool) → List A → Option A
foremost before xs = find (λ x. not (list_any (λ y. before y x) xs)) xs

-- one more element takes the place of the best so far where it comes before it
abbrev pub better : {A : Type 0} → (A → A → Bool) → Option A → A → Option A
better before None x = Some x
better before (Some best) x = if before x best then Some x else Some best

-- the best of a list, one element after the other; by an order it is the foremost
abbrev pub best : {A : Type 0} → (A → A → Bool) → List A → Option A
best before xs = fold (better before) None xs

-- the lesser address, and of equal ones a function
abbrev pub is_preferred : Symbol → Symbol → Bool
is_preferred a b =
    nat_lt a.address b.address || ((a.address == b.address) && (a.is_function && not b.is_function))

-- the symbol of a name, which is not empty
abbrev pub address_of : Names → List ℕ → Option Symbol
address_of names [] = None
address_of names (b ∷ bs) = foremost is_preferred (filter (λ s. bytes_eq (b ∷ bs) s.name) names.symbols)

-- what is compared of a name: as many bytes as a line of input has at most
abbrev pub leading : List ℕ → List ℕ
leading name = take 4096 name

-- the greater address, and of equal ones the lesser name
abbrev pub is_nearer : Symbol → Symbol → Bool
is_nearer a b =
    nat_lt b.address a.address || ((a.address == b.address) && bytes_before (leading a.name) (leading b.name))

-- a symbol, unless it has a size and the address lies past it
abbrev pub covering : ℕ → Symbol → Option Symbol
covering addr s = if nat_lt 0 s.size && nat_le (s.address + s.size) addr then None else Some s

-- the function that an address lies in
abbrev pub function_at : Names → ℕ → Option Symbol
function_at names addr = option_and_then (covering addr) (foremost is_nearer (filter (λ s. nat_le s.address addr) names.functions))
