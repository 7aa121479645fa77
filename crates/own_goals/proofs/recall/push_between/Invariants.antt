use Rattle.std.proofs.Common.{◌≡◌, ◌≤◌, map, take}
use Rattle.std.specs.Arc.{arc_value}
use Rattle.tableau.specs.Settled.{settled_by}
use Rattle.own_goals.proofs.recall.push_between.Given as goal

abbrev pub invariant-loop-at : goal.invariant-loop-at
invariant-loop-at l = record {
  so_far : map arc_value l.all.items ≡ map settled_by (map arc_value (take l.at l.questions));
  within : l.at ≤ l.to;
}
