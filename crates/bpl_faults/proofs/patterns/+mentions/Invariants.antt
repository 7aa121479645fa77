use Rattle.std.proofs.Common.{◌≡◌, ◌+◌, ◌*◌, ◌≤◌, [], ◌∷◌, drop}
use Rattle.bpl_ast.specs.Nodes.{nodes, exprs_nodes, indices_nodes}
use Rattle.bpl_ast.specs.ExprView.{exprs_of, indices_of}
use Rattle.bpl_faults.specs.ExprFaults.{any_mentions, index_mentions}
use Rattle.bpl_faults.proofs.patterns.+mentions.Given as goal

abbrev pub decreases-mentions : goal.decreases-mentions
decreases-mentions l = 4 * nodes l.x.now

abbrev pub decreases-any_mentions : goal.decreases-any_mentions
decreases-any_mentions l = 4 * exprs_nodes (exprs_of l.xs.now) + 2

abbrev pub decreases-is_mentioned_in_index : goal.decreases-is_mentioned_in_index
decreases-is_mentioned_in_index l = 4 * indices_nodes (indices_of (l.index.now ∷ [])) + 1

abbrev pub decreases-index_mentions : goal.decreases-index_mentions
decreases-index_mentions l = 4 * indices_nodes (indices_of l.indices.now) + 2

abbrev pub invariant-any_mentions-loop-x : goal.invariant-any_mentions-loop-x
invariant-any_mentions-loop-x l = record {
  rest : any_mentions l.name (exprs_of (drop l.x-index l.xs)) ≡ any_mentions l.name (exprs_of l.xs);
  less : exprs_nodes (exprs_of (drop l.x-index l.xs)) ≤ exprs_nodes (exprs_of l.xs);
}

abbrev pub invariant-index_mentions-loop-index : goal.invariant-index_mentions-loop-index
invariant-index_mentions-loop-index l = record {
  rest : index_mentions l.name (indices_of (drop l.index-index l.indices)) ≡ index_mentions l.name (indices_of l.indices);
  less : indices_nodes (indices_of (drop l.index-index l.indices)) ≤ indices_nodes (indices_of l.indices);
}
