-- Texts that are written in one piece, and what stands in them: this project's own.
use Rattle.std.specs.Prelude.{ℕ, List, ◌++◌, codes}
use Rattle.mi_text.specs.Numeral.{address_text}

-- where a hart stopped, before what is known of the address and behind it, and the end of the line
unfoldable pub frame_begun : ℕ → List ℕ
frame_begun address = codes ",frame={addr=\"" ++ (address_text address ++ codes "\"")

unfoldable pub threads_told : List ℕ → List ℕ
threads_told number = codes "},thread-id=\"" ++ (number ++ codes "\",stopped-threads=[\"")

unfoldable pub threads_ended : List ℕ → List ℕ
threads_ended number = codes "" ++ (number ++ codes "\"]\n")
