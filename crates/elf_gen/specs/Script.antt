-- A session of two harts over a generated file (GDB/MI Input Syntax).
use Rattle.std.specs.Prelude.{ℕ, ◌*◌, List, [], ◌∷◌, ◌++◌, codes, decimal}
use Rattle.std.specs.List.{flat_map}

-- each line with its line feed
abbrev pub lines_of : List (List ℕ) → List ℕ
lines_of lines = flat_map (λ line. line ++ 10 ∷ []) lines

-- the lines of a debugger that steps in `work`, and stops again once both harts have counted
abbrev pub script_text : ℕ → List ℕ
script_text number =
    lines_of
    (codes "-break-insert count.c:12"
    ∷ codes "-exec-continue --thread 1"
    ∷ codes "-exec-wait"
    ∷ codes "-exec-next --thread 1"
    ∷ codes "-exec-wait"
    ∷ codes "-break-delete 1"
    ∷ codes "-exec-finish --thread 1"
    ∷ codes "-exec-wait"
    ∷ [])
    ++ (codes "-break-insert -c \"{int} &count == "
    ++ (decimal (2 * number)
    ++ lines_of
    (codes "\" count.c:13"
    ∷ codes "-exec-continue --all"
    ∷ codes "-exec-wait"
    ∷ codes "-thread-info"
    ∷ codes "-exec-continue --all"
    ∷ codes "-exec-wait"
    ∷ [])))
