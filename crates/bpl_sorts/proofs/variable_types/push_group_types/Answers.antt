use Rattle.std.proofs.Common.{◌∙◌, ap, ◌++◌, map}
use Rattle.bpl_ast.specs.Place.{Name}
use Rattle.bpl_sorts.specs.TypeNames.{type_over}
use Rattle.bpl_sorts.specs.TypesView.{tys_seen}
use Rattle.bpl_sorts.proofs.NestedTypes.{groups_pushed}
use Rattle.bpl_sorts.proofs.variable_types.push_group_types.Goals as goal

pub loop-group-preserved : goal.loop-group-preserved
loop-group-preserved c = groups_pushed c.args.known.now c.args.groups.now c.loop-group.group-index c.group-item.result (tys_seen c.loop-group.types.items) (tys_seen c.push_named.new.types.items) _
    c.loop-group-test.true c.group-item.is (c.in_ok-push_named.ensures ∙ ap (λ ns. tys_seen c.loop-group.types.items ++ map (λ (n : Name). type_over c.args.known.now c.group-item.result.of) ns) c.deref.ensures.value) c.loop-group.invariant
