use Rattle.std.proofs.Common.{◌≡◌, ◌++◌, take}
use Rattle.bpl_scopes.specs.Scopes.{texts_of}
use Rattle.bpl_statement_faults.proofs.labels.push_named.Given as goal

abbrev pub invariant-loop-label : goal.invariant-loop-label
invariant-loop-label l = l.found ≡ l.fn.found ++ texts_of (take l.label-index l.labels)
