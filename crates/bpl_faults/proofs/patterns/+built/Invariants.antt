use Rattle.std.proofs.Common.{◌≡◌, ◌+◌, ◌*◌, ◌≤◌, [], ◌∷◌, drop}
use Rattle.bpl_ast.specs.Nodes.{nodes, exprs_nodes, indices_nodes}
use Rattle.bpl_ast.specs.ExprView.{exprs_of, indices_of}
use Rattle.bpl_faults.specs.ExprFaults.{all_built, all_reads}
use Rattle.bpl_faults.proofs.patterns.+built.Given as goal

abbrev pub decreases-is_built : goal.decreases-is_built
decreases-is_built l = 4 * nodes l.x.now

abbrev pub decreases-all_built : goal.decreases-all_built
decreases-all_built l = 4 * exprs_nodes (exprs_of l.xs.now) + 2

abbrev pub decreases-is_built_read : goal.decreases-is_built_read
decreases-is_built_read l = 4 * indices_nodes (indices_of (l.index.now ∷ [])) + 1

abbrev pub decreases-all_reads : goal.decreases-all_reads
decreases-all_reads l = 4 * indices_nodes (indices_of l.indices.now) + 2

abbrev pub invariant-all_built-loop-x : goal.invariant-all_built-loop-x
invariant-all_built-loop-x l = record {
  rest : all_built (exprs_of (drop l.x-index l.xs)) ≡ all_built (exprs_of l.xs);
  less : exprs_nodes (exprs_of (drop l.x-index l.xs)) ≤ exprs_nodes (exprs_of l.xs);
}

abbrev pub invariant-all_reads-loop-index : goal.invariant-all_reads-loop-index
invariant-all_reads-loop-index l = record {
  rest : all_reads (indices_of (drop l.index-index l.indices)) ≡ all_reads (indices_of l.indices);
  less : indices_nodes (indices_of (drop l.index-index l.indices)) ≤ indices_nodes (indices_of l.indices);
}
