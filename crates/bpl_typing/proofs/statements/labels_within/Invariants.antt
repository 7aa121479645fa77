use Rattle.std.proofs.Common.{◌≡◌, ◌++◌, take}
use Rattle.bpl_typing.proofs.statements.labels_within.Given as goal

abbrev pub invariant-loop-label : goal.invariant-loop-label
invariant-loop-label l = l.labels.items ≡ l.own ++ take l.label-index l.around
