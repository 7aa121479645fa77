use Rattle.std.proofs.Common.{◌∙◌, ◌++◌}
use Rattle.bpl_ast.specs.ExprView.{clause_of}
use Rattle.bpl_scopes.specs.Sorts.{sort_of_type}
use Rattle.bpl_scopes.specs.Shape.{kind_seen}
use Rattle.bpl_faults.specs.ScopeView.{scope_seen}
use Rattle.bpl_resolve.specs.Elaborate.{clause_term}
use Rattle.bpl_resolve.proofs.GroupSteps.{named_globals, globals_pushed}
use Rattle.bpl_resolve.proofs.globals.push_group_globals.Goals as goal

pub loop-group-preserved : goal.loop-group-preserved
loop-group-preserved c = globals_pushed (scope_seen c.args.scope.now) c.args.groups.now c.loop-group.group-index c.group-item.result (kind_seen c.in_ok-sort.sort) c.loop-group.globals.items c.push_named.new.globals.items _
    c.loop-group-test.true c.group-item.is (c.in_ok-sort.ensures ∙ (λ i. sort_of_type (c.types-types.ensures i) (c.nothing_hidden.ensures i) c.group-item.result.of)) (c.in_ok-push_named.ensures ∙ (λ i. c.loop-group.globals.items ++ named_globals (scope_seen c.args.scope.now) (kind_seen c.in_ok-sort.sort) (clause_term (scope_seen c.args.scope.now) (clause_of c.group-item.result.condition)) (c.deref.ensures.value i))) c.loop-group.invariant
