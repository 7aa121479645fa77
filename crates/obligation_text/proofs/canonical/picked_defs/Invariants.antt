use Rattle.std.proofs.Common.{◌≡◌, ◌++◌, drop}
use Rattle.obligation_text.specs.Canonical.{picked}
use Rattle.obligation_text.proofs.canonical.picked_defs.Given as goal

-- what is found, and then the items of the numbers that are left, are the items of all
abbrev pub invariant-loop-number : goal.invariant-loop-number
invariant-loop-number l = l.found.items ++ picked l.defs (drop l.number-index l.order) ≡ picked l.defs l.order
