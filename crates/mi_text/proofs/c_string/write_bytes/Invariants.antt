use Rattle.std.proofs.Common.{◌≡◌, ◌++◌, take}
use Rattle.mi_text.specs.CString.{escapes}
use Rattle.mi_text.proofs.c_string.write_bytes.Given as goal

abbrev pub invariant-loop-b : goal.invariant-loop-b
invariant-loop-b l = l.into.items ≡ l.fn.into.items ++ escapes (take l.b-index l.text)
