use Rattle.std.proofs.Common.{◌≡◌, take}
use Rattle.flow_core.specs.State.{sorts_at}
use Rattle.bpl_typing.proofs.terms.sorts_at.Given as goal

abbrev pub invariant-loop-number : goal.invariant-loop-number
invariant-loop-number l = l.sorts.items ≡ sorts_at l.vars (take l.number-index l.numbers)
