use Rattle.std.proofs.Common.{◌≡◌, drop, flat_map}
use Rattle.bpl_scopes.specs.Fault.{earlier, first_fault}
use Rattle.bpl_ast.specs.Statement.{Invariant}
use Rattle.bpl_faults.specs.ExprFaults.{formula_faults}
use Rattle.bpl_faults.specs.ScopeView.{scope_seen}
use Rattle.bpl_statement_faults.proofs.body.BodyScope.note_invariants.Given as goal

abbrev pub invariant-loop-found : goal.invariant-loop-found
invariant-loop-found l = earlier l.faults.first (first_fault (flat_map (λ (i : Invariant). formula_faults (scope_seen l.self.scope.now) i.formula) (drop l.found-index l.invariants))) ≡ earlier l.fn.faults.first (first_fault (flat_map (λ (i : Invariant). formula_faults (scope_seen l.self.scope.now) i.formula) l.invariants))
