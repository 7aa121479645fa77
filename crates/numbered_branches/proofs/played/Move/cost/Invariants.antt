use Rattle.std.proofs.Common.{◌≡◌, ◌+◌, ◌-◌, ◌^◌, ◌≤◌, drop}
use Rattle.logic_core.specs.Size.{capped}
use Rattle.numbered_branches.specs.Moves.{nodes_made}
use Rattle.numbered_branches.proofs.played.Move.cost.Given as goal

abbrev pub invariant-loop-made : goal.invariant-loop-made
invariant-loop-made l = record {
  sum : capped (l.nodes + nodes_made (drop l.made-index l.made-items)) ≡ capped (nodes_made l.made-items);
  fits : l.nodes ≤ 2 ^ 64 - 1;
}
