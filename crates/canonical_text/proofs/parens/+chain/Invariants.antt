use Rattle.std.proofs.Common.{◌+◌, ◌*◌}
use Rattle.bpl_ast.specs.Nodes.{nodes, inner_nodes, exprs_nodes}
use Rattle.bpl_ast.specs.ExprView.{exprs_of, node_of}
use Rattle.canonical_text.proofs.parens.+chain.Given as goal

abbrev pub decreases-chain_of : goal.decreases-chain_of
decreases-chain_of l = 4 * inner_nodes (node_of l.form.now)

abbrev pub decreases-operand_chain : goal.decreases-operand_chain
decreases-operand_chain l = 4 * nodes l.x.now + 1

abbrev pub decreases-last_chain : goal.decreases-last_chain
decreases-last_chain l = 4 * exprs_nodes (exprs_of l.xs.now) + 2
