use Rattle.std.proofs.Common.{◌+◌, ◌*◌}
use Rattle.bpl_ast.specs.Nodes.{ty_nodes, tys_nodes}
use Rattle.bpl_ast.specs.TypeView.{tys_of}
use Rattle.bpl_scopes.proofs.synonym_order.+named.Given as goal

abbrev pub decreases-push_named : goal.decreases-push_named
decreases-push_named l = 2 * ty_nodes l.of.now

abbrev pub decreases-push_alone : goal.decreases-push_alone
decreases-push_alone l = 2 * tys_nodes (tys_of l.types.now) + 1
