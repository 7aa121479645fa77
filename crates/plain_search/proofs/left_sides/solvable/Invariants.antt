use Rattle.std.proofs.Common.{◌≡◌, ◌≤◌, drop, length}
use Rattle.std.specs.Option.{option_copied}
use Rattle.logic_core.specs.View.{parts_of}
use Rattle.tableau_branch.specs.Oriented.{solvable_among}
use Rattle.plain_search.proofs.left_sides.solvable.Given as goal

abbrev pub invariant-loop-i : goal.invariant-loop-i
invariant-loop-i l = record {
  best : option_copied l.best ≡ solvable_among (parts_of l.parts) (parts_of (drop l.i l.parts));
  within : l.i ≤ length l.parts;
}

abbrev pub decreases-loop-i : goal.decreases-loop-i
decreases-loop-i l = l.i
