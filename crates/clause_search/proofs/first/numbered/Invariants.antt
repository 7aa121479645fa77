use Rattle.std.proofs.Common.{◌≡◌, ◌++◌, drop}
use Rattle.clause_search.specs.First.{facts_from}
use Rattle.clause_search.proofs.first.numbered.Given as goal

abbrev pub invariant-loop-i : goal.invariant-loop-i
invariant-loop-i l = l.facts.items ++ facts_from l.i (drop l.i l.forms) ≡ facts_from 0 l.forms
