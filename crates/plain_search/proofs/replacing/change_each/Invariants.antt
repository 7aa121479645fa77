use Rattle.std.proofs.Common.{◌≡◌, ◌-◌, ◌≤◌, length}
use Rattle.tableau_branch.specs.Replacing.{replaced_from}
use Rattle.plain_search.proofs.replacing.change_each.Given as goal

abbrev pub invariant-loop-at : goal.invariant-loop-at
invariant-loop-at l = record {
  rest : replaced_from l.defs l.replacing.ground l.replacing.left.now l.replacing.right.now l.made l.at ≡ replaced_from l.defs l.replacing.ground l.replacing.left.now l.replacing.right.now l.fn.made 0;
  within : l.at ≤ length l.made.branch.facts;
}

abbrev pub decreases-loop-at : goal.decreases-loop-at
decreases-loop-at l = length l.made.branch.facts - l.at
