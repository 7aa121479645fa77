use Rattle.std.proofs.Common.{◌≡◌, ◌++◌, drop}
use Rattle.obligation_text.specs.Text.{together}
use Rattle.obligation_text.proofs.text.put_sorts.Given as goal

-- what is written, and then the rest together, is all together
abbrev pub invariant-loop-sort : goal.invariant-loop-sort
invariant-loop-sort l = l.out.items ++ together (drop l.sort-index l.sorts) ≡ l.fn.out.items ++ together l.sorts
