use Rattle.std.proofs.Common.{ap, ◌∙◌, ◌++◌}
use Rattle.bpl_ast.specs.ExprView.{clause_of}
use Rattle.bpl_scopes.specs.Sorts.{sort_of_type}
use Rattle.bpl_scopes.specs.KnownSorts.{hidden_seen}
use Rattle.bpl_scopes.specs.Shape.{kind_seen}
use Rattle.bpl_faults.specs.ScopeView.{scope_seen}
use Rattle.bpl_resolve.specs.Elaborate.{clause_term}
use Rattle.bpl_resolve.proofs.GroupSteps.{named_locals, locals_pushed}
use Rattle.bpl_resolve.proofs.variables.push_locals.Goals as goal

pub loop-group-preserved : goal.loop-group-preserved
loop-group-preserved c = locals_pushed (scope_seen c.args.scope.now) (hidden_seen c.args.hidden.now) c.args.groups.now c.loop-group.group-index c.group-item.result (kind_seen c.in_ok-sort.sort) c.loop-group.locals.items c.push_named.new.locals.items _
    c.loop-group-test.true c.group-item.is (c.in_ok-sort.ensures ∙ ap (λ t. sort_of_type t (hidden_seen c.args.hidden.now) c.group-item.result.of) c.types.ensures) (c.in_ok-push_named.ensures ∙ (λ i. c.loop-group.locals.items ++ named_locals (scope_seen c.args.scope.now) (kind_seen c.in_ok-sort.sort) (clause_term (scope_seen c.args.scope.now) (clause_of c.group-item.result.condition)) (c.deref.ensures.value i))) c.loop-group.invariant
