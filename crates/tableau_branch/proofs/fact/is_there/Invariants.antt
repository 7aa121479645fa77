use Rattle.std.proofs.Common.{◌≡◌, drop}
use Rattle.tableau_branch.specs.Branch.{is_there}
use Rattle.tableau_branch.proofs.fact.is_there.Given as goal

abbrev pub invariant-loop-fact : goal.invariant-loop-fact
invariant-loop-fact l = is_there l.term (drop l.fact-index l.facts) ≡ is_there l.term l.facts
