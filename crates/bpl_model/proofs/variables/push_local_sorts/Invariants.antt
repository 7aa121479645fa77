use Rattle.std.proofs.Common.{◌≡◌, ◌++◌, take}
use Rattle.bpl_model.specs.Numbering.{local_sorts}
use Rattle.bpl_model.proofs.variables.push_local_sorts.Given as goal

abbrev pub invariant-loop-local : goal.invariant-loop-local
invariant-loop-local l = l.sorts.items ≡ l.fn.sorts.items ++ local_sorts (take l.local-index l.locals)
