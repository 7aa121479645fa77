use Rattle.std.proofs.Common.{◌≡◌, ◌&&◌, not, filter, drop}
use Rattle.std.specs.List.{list_all}
use Rattle.bv_base.specs.Text.{is_among}
use Rattle.bpl_scopes.specs.Scopes.{texts_of, entity_of}
use Rattle.bpl_faults.specs.ScopeView.{scope_seen}
use Rattle.bpl_statement_faults.specs.BodyView.{body_seen}
use Rattle.bpl_statement_faults.specs.StmtFaults.{is_global, may_modify}
use Rattle.bpl_statement_faults.proofs.body.BodyScope.may_modify_names.Given as goal

abbrev pub invariant-loop-name : goal.invariant-loop-name
invariant-loop-name l = list_all (may_modify (body_seen l.self).modified) (filter (λ n. is_global (entity_of (scope_seen l.self.scope.now).table n) && not (is_among l.hidden n)) (texts_of (drop l.name-index l.names))) ≡ list_all (may_modify (body_seen l.self).modified) (filter (λ n. is_global (entity_of (scope_seen l.self.scope.now).table n) && not (is_among l.hidden n)) (texts_of l.names))
