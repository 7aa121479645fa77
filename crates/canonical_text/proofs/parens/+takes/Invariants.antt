use Rattle.std.proofs.Common.{◌+◌, ◌*◌, [], ◌∷◌}
use Rattle.bpl_ast.specs.Nodes.{nodes, inner_nodes, exprs_nodes, terms_nodes}
use Rattle.bpl_ast.specs.ExprView.{exprs_of, terms_of, node_of}
use Rattle.canonical_text.proofs.parens.+takes.Given as goal

abbrev pub decreases-if_takes : goal.decreases-if_takes
decreases-if_takes l = 8 * inner_nodes (node_of l.form.now)

abbrev pub decreases-operand_takes : goal.decreases-operand_takes
decreases-operand_takes l = 8 * nodes l.x.now + 1

abbrev pub decreases-takes_in : goal.decreases-takes_in
decreases-takes_in l = 8 * nodes l.x.now + 2

abbrev pub decreases-last_takes : goal.decreases-last_takes
decreases-last_takes l = 8 * exprs_nodes (exprs_of l.xs.now) + 3

abbrev pub decreases-term_takes : goal.decreases-term_takes
decreases-term_takes l = 8 * terms_nodes (terms_of (l.term.now ∷ [])) + 2

abbrev pub decreases-terms_take : goal.decreases-terms_take
decreases-terms_take l = 8 * terms_nodes (terms_of l.terms.now) + 3
