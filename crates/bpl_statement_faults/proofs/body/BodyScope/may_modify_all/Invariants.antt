use Rattle.std.proofs.Common.{◌≡◌, drop}
use Rattle.std.specs.List.{list_all}
use Rattle.bpl_faults.specs.ScopeView.{scope_seen}
use Rattle.bpl_statement_faults.specs.BodyView.{body_seen}
use Rattle.bpl_statement_faults.specs.CallView.{modified_where}
use Rattle.bpl_statement_faults.specs.StmtFaults.{may_modify}
use Rattle.bpl_statement_faults.proofs.body.BodyScope.may_modify_all.Given as goal

abbrev pub invariant-loop-clause : goal.invariant-loop-clause
invariant-loop-clause l = list_all (may_modify (body_seen l.self).modified) (modified_where (scope_seen l.self.scope.now).table l.hidden (drop l.clause-index l.clauses)) ≡ list_all (may_modify (body_seen l.self).modified) (modified_where (scope_seen l.self.scope.now).table l.hidden l.clauses)
