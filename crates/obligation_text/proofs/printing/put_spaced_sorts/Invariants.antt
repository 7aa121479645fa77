use Rattle.std.proofs.Common.{◌≡◌, ◌++◌, drop}
use Rattle.obligation_text.specs.Text.{spaced_sorts}
use Rattle.obligation_text.proofs.printing.put_spaced_sorts.Given as goal

-- what is written, and then the rest, is all
abbrev pub invariant-loop-sort : goal.invariant-loop-sort
invariant-loop-sort l = l.out.items ++ spaced_sorts (drop l.sort-index l.sorts) ≡ l.fn.out.items ++ spaced_sorts l.sorts
