use Rattle.std.proofs.Common.{◌≡◌, ap, sym, ◌∙◌, ◌+◌, ◌++◌, map, drop, arith}
use Rattle.bpl_ast.specs.ExprView.{groups_of}
use Rattle.bpl_scopes.specs.Scopes.{hidden_in}
use Rattle.bpl_scopes.specs.Sorts.{sort_of_type}
use Rattle.bpl_scopes.specs.Shape.{kind_seen}
use Rattle.bpl_faults.specs.ScopeView.{scope_seen}
use Rattle.bpl_faults.proofs.ListedNames.{next_dropped}
use Rattle.bpl_terms.specs.Terms.{sort_or_int, bound_sorts}
use Rattle.bpl_terms.proofs.BoundSorts.{bound_next}
use Rattle.bpl_terms.proofs.sorts.bound_sorts.Goals as goal

pub loop-group-preserved : goal.loop-group-preserved
loop-group-preserved c =
    let S = scope_seen c.args.scope.now in
    let before = c.loop-group.sorts.items in
    let left = drop (c.loop-group.group-index + 1) c.args.groups.now in
    let is : kind_seen c.in_ok-shape.shape ≡ sort_of_type S.table (hidden_in S) c.group-item.result.of = cc (c.in_ok-shape.ensures, c.types.ensures, c.hidden.ensures) in
    let made : c.push_sorts.new.sorts.items ≡ before ++ map (λ n. sort_or_int (kind_seen c.in_ok-shape.shape)) c.group-item.result.names.items = grind (arith, c.in_ok-push_sorts.ensures, c.deref.ensures.value) in
    bound_next S before c.push_sorts.new.sorts.items (kind_seen c.in_ok-shape.shape) c.group-item.result left is made
    ∙ ap (λ gs. before ++ bound_sorts S (groups_of gs)) (sym (next_dropped c.args.groups.now c.loop-group.group-index c.group-item.result c.loop-group-test.true c.group-item.is))
    ∙ c.loop-group.invariant
