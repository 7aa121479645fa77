use Rattle.std.proofs.Common.{◌+◌, ◌*◌}
use Rattle.bpl_ast.specs.Nodes.{nodes, inner_nodes, exprs_nodes}
use Rattle.bpl_ast.specs.ExprView.{exprs_of, node_of}
use Rattle.canonical_text.proofs.parens.+compared.Given as goal

abbrev pub decreases-compared : goal.decreases-compared
decreases-compared l = 4 * inner_nodes (node_of l.form.now)

abbrev pub decreases-operand_compared : goal.decreases-operand_compared
decreases-operand_compared l = 4 * nodes l.x.now + 1

abbrev pub decreases-last_compared : goal.decreases-last_compared
decreases-last_compared l = 4 * exprs_nodes (exprs_of l.xs.now) + 2
