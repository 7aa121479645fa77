use Rattle.std.proofs.Common.{◌≡◌, map, take}
use Rattle.logic_core.specs.Tree.{free}
use Rattle.call_cut.proofs.assignment.as_terms.Given as goal

abbrev pub invariant-loop-var : goal.invariant-loop-var
invariant-loop-var l = l.terms.items ≡ map free (take l.var-index l.vars)
