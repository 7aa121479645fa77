use Rattle.std.proofs.Common.{◌≡◌, ◌∙◌, subst, map, find}
use Rattle.std.specs.Prelude.{IfOk}
use Rattle.logic_core.specs.View.{each_items, trees_of}
use Rattle.quantifier_triggers.specs.Match.{tuples}
use Rattle.logic_rules.specs.Instantiating.{is_unmarked}
use Rattle.plain_search.proofs.instantiating.first_at.Goals as goal

pub returns : goal.returns
returns c =
    let d = c.args.defs.now in
    let b = c.args.branch.now in
    let there : each_items c.in_ok-tuples.tuples.items ≡ tuples b.vars d (trees_of c.args.trigger.now) c.args.sorts.now c.args.ground.now = c.in_ok-tuples.ensures ∙ (λ i. tuples (c.deref.ensures.value i) d (trees_of c.args.trigger.now) c.args.sorts.now c.args.ground.now) ∙ (λ i. tuples (c.branch.view_is i).vars d (trees_of c.args.trigger.now) c.args.sorts.now c.args.ground.now) in
    subst (λ xs. IfOk c.first_unmarked.result (λ o. o ≡ find (is_unmarked b) (map (λ ts. record { fact = c.args.fact.now; body = c.args.body.now; tuple = ts }) xs))) there c.first_unmarked.ensures
