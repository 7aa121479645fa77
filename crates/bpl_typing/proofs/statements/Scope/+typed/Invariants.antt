use Rattle.std.proofs.Common.{◌≡◌, ◌+◌, ◌*◌, ◌≤◌, drop}
use Rattle.bpl_model.specs.Nodes.{stmt_nodes, stmts_nodes}
use Rattle.bpl_model.specs.StmtView.{stmts_of}
use Rattle.bpl_model.specs.TypedTest.{are_typed}
use Rattle.bpl_typing.proofs.statements.Scope.+typed.Given as goal

abbrev pub decreases-is_typed : goal.decreases-is_typed
decreases-is_typed l = 3 * stmt_nodes l.stmt.now

abbrev pub decreases-is_typed_if : goal.decreases-is_typed_if
decreases-is_typed_if l = 3 * (stmts_nodes (stmts_of l.first.now) + stmts_nodes (stmts_of l.second.now)) + 2

abbrev pub decreases-is_typed_while : goal.decreases-is_typed_while
decreases-is_typed_while l = 3 * stmts_nodes (stmts_of l.body.now) + 2

abbrev pub decreases-are_typed : goal.decreases-are_typed
decreases-are_typed l = 3 * stmts_nodes (stmts_of l.stmts.now) + 1

abbrev pub invariant-are_typed-loop-stmt : goal.invariant-are_typed-loop-stmt
invariant-are_typed-loop-stmt l = record {
  same : are_typed l.self.defs.now l.self.procs.now l.self.vars.now l.inside l.labels (stmts_of (drop l.stmt-index l.stmts)) ≡ are_typed l.self.defs.now l.self.procs.now l.self.vars.now l.inside l.labels (stmts_of l.stmts);
  less : stmts_nodes (stmts_of (drop l.stmt-index l.stmts)) ≤ stmts_nodes (stmts_of l.stmts);
}
