-- The marks that bytes tell: this project's own.
use Rattle.std.specs.Prelude.{ℕ, List, [], ◌∷◌, map}
use Rattle.run_tape.specs.declared.marks.Mark.{Mark}
use Rattle.run_tape.specs.declared.marks.Mark.TheVariants.{Run, Note}
use Rattle.run_tape.specs.declared.turns.Turns.{Turns}
use Rattle.run_tape.specs.declared.token.Token.{Token}
use Rattle.run_tape.specs.declared.token.Token.TheVariants.{Count, Digit, Hart, Note as Aside}
use Rattle.run_tape.specs.Turning.{gone, with_digit, expecting, count_at}
use Rattle.run_tape.specs.Tokens.{token}

abbrev pub told_by : Turns → List Token → List Mark
told_by t [] = []
told_by t (Count b ∷ ts) = Run t.expected (count_at t b) ∷ told_by (gone t) ts
told_by t (Digit b ∷ ts) = told_by (with_digit t b) ts
told_by t (Hart b ∷ ts) = told_by (expecting t b) ts
told_by t (Aside ∷ ts) = Note ∷ told_by t ts

abbrev pub decoded : Turns → List ℕ → List Mark
decoded t bs = told_by t (map token bs)

-- what is known behind them
abbrev pub behind : Turns → List Token → Turns
behind t [] = t
behind t (Count b ∷ ts) = behind (gone t) ts
behind t (Digit b ∷ ts) = behind (with_digit t b) ts
behind t (Hart b ∷ ts) = behind (expecting t b) ts
behind t (Aside ∷ ts) = behind t ts
