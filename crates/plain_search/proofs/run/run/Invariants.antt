use Rattle.std.proofs.Common.{◌≡◌, [], ◌∷◌, map, reverse}
use Rattle.tableau.specs.Search.{run}
use Rattle.tableau_branch.specs.View.{played_of}
use Rattle.tableau.proofs.Turns.{before_run}
use Rattle.plain_search.proofs.run.run.Given as goal

abbrev pub invariant-loop-branch : goal.invariant-loop-branch
invariant-loop-branch l = before_run (map played_of l.moves.items) (run l.defs l.left l.left (reverse l.stack.items)) ≡ run l.defs l.fn.turns l.fn.turns (l.fn.first ∷ [])

abbrev pub decreases-loop-branch : goal.decreases-loop-branch
decreases-loop-branch l = l.left
