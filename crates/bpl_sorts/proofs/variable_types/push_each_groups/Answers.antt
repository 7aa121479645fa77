use Rattle.std.proofs.Common.{◌∙◌, ap, ◌++◌}
use Rattle.bpl_ast.specs.ExprView.{groups_of}
use Rattle.bpl_scopes.specs.Scopes.{names_of}
use Rattle.bpl_sorts.specs.DeclaredTypes.{types_named}
use Rattle.bpl_sorts.specs.TypesView.{tys_seen}
use Rattle.bpl_sorts.proofs.NestedTypes.{each_pushed}
use Rattle.bpl_sorts.proofs.variable_types.push_each_groups.Goals as goal

pub loop-declared-preserved : goal.loop-declared-preserved
loop-declared-preserved c = each_pushed c.args.known.now c.args.groups.now c.loop-declared.declared-index c.declared-item.result (tys_seen c.loop-declared.types.items) (tys_seen c.push_group_types.new.types.items) _
    c.loop-declared-test.true c.declared-item.is (c.in_ok-push_group_types.ensures ∙ ap (λ gs. tys_seen c.loop-declared.types.items ++ types_named c.args.known.now (names_of (groups_of gs))) c.deref.ensures.value) c.loop-declared.invariant
