use Rattle.std.proofs.Common.{◌≤◌, drop, length}
use Rattle.logic_core.specs.View.{parts_of}
use Rattle.tableau_branch.specs.Oriented.{solvable_among}
use Rattle.numbered_terms.specs.Lists.{atoms_at}
use Rattle.numbered_facts.specs.Answers.{StandsFor}
use Rattle.numbered_facts.proofs.left.solvable.Given as goal

abbrev pub invariant-loop-i : goal.invariant-loop-i
invariant-loop-i l = record {
  best : StandsFor l.terms l.best (solvable_among (parts_of (atoms_at l.terms l.parts)) (parts_of (atoms_at l.terms (drop l.i l.parts))));
  within : l.i ≤ length l.parts;
}

abbrev pub decreases-loop-i : goal.decreases-loop-i
decreases-loop-i l = l.i
