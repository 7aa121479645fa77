use Rattle.std.proofs.Common.{◌≡◌, ap, sym, ◌∙◌, ◌+◌, ◌++◌, map, drop, reverse, arith}
use Rattle.std.proofs.lemmas.List.{at_drop_all, append-nil}
use Rattle.bpl_ast.specs.ExprView.{groups_of}
use Rattle.bpl_scopes.specs.Scopes.{names_of}
use Rattle.bpl_scopes.specs.Shape.{kind_seen}
use Rattle.bpl_scopes.specs.KnownSorts.{bound_seen, bounds_seen, hidden_seen}
use Rattle.bpl_faults.proofs.ListedNames.{bound_for, bounds_next, map_reversed, next_dropped}
use Rattle.bpl_faults.proofs.scope.bounds_of.Goals as goal

pub loop-group-preserved : goal.loop-group-preserved
loop-group-preserved c =
    let H = hidden_seen c.args.hidden.now in
    let before = bounds_seen c.loop-group.bounds.items in
    let left = drop (c.loop-group.group-index + 1) c.args.groups.now in
    bounds_next c.args.types.now H before (bounds_seen c.push_bounds.new.bounds.items) (kind_seen c.in_ok-sort.sort) c.group-item.result left c.in_ok-sort.ensures
    (grind (arith, c.in_ok-push_bounds.ensures, c.deref.ensures.value))
    ∙ ap (λ gs. before ++ map (bound_for c.args.types.now H) (names_of (groups_of gs))) (sym (next_dropped c.args.groups.now c.loop-group.group-index c.group-item.result c.loop-group-test.true c.group-item.is))
    ∙ c.loop-group.invariant

pub returns : goal.returns
returns c =
    let H = hidden_seen c.args.hidden.now in
    let before = bounds_seen c.loop-group.bounds.items in
    let all = sym (append-nil before) ∙ sym (at_drop_all (λ gs. before ++ map (bound_for c.args.types.now H) (names_of (groups_of gs))) c.args.groups.now c.loop-group.group-index c.loop-group-test.false) ∙ c.loop-group.invariant in
    ap bounds_seen c.reverse.ensures.items ∙ map_reversed bound_seen c.loop-group.bounds.items ∙ ap reverse all
