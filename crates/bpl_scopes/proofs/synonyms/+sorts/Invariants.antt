use Rattle.std.proofs.Common.{◌+◌, ◌*◌}
use Rattle.bpl_ast.specs.Nodes.{ty_nodes, tys_nodes}
use Rattle.bpl_ast.specs.TypeView.{tys_of}
use Rattle.bpl_scopes.proofs.synonyms.+sorts.Given as goal

abbrev pub decreases-sort_over : goal.decreases-sort_over
decreases-sort_over l = 2 * ty_nodes l.of.now

abbrev pub decreases-are_int_alone : goal.decreases-are_int_alone
decreases-are_int_alone l = 2 * tys_nodes (tys_of l.types.now) + 1
