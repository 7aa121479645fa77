use Rattle.std.proofs.Common.{ap, sym, ◌∙◌, ◌+◌, ◌++◌, drop, arith}
use Rattle.bpl_ast.specs.ExprView.{groups_of}
use Rattle.bpl_scopes.specs.Scopes.{names_of}
use Rattle.bpl_scopes.specs.Sorts.{sorts_of_names}
use Rattle.bpl_scopes.specs.Shape.{kind_seen}
use Rattle.bpl_scopes.specs.KnownSorts.{shapes_seen, hidden_seen}
use Rattle.bpl_faults.proofs.ListedNames.{next_dropped}
use Rattle.bpl_statement_faults.proofs.CallSteps.{sorts_next}
use Rattle.bpl_statement_faults.proofs.calls.group_sorts.Goals as goal

pub loop-group-preserved : goal.loop-group-preserved
loop-group-preserved c =
    let H = hidden_seen c.args.hidden.now in
    let before = shapes_seen c.loop-group.sorts.items in
    let left = drop (c.loop-group.group-index + 1) c.args.groups.now in
    sorts_next c.args.types.now H before (shapes_seen c.push_each.new.sorts.items) (kind_seen c.in_ok-sort.sort) c.group-item.result left c.in_ok-sort.ensures
    (grind (arith, c.in_ok-push_each.ensures, c.deref.ensures.value))
    ∙ ap (λ gs. before ++ sorts_of_names c.args.types.now H (names_of (groups_of gs))) (sym (next_dropped c.args.groups.now c.loop-group.group-index c.group-item.result c.loop-group-test.true c.group-item.is))
    ∙ c.loop-group.invariant
