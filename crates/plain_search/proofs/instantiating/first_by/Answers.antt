use Rattle.std.proofs.Common.{◌∙◌, sym}
use Rattle.logic_core.specs.View.{patterns_of, each_items}
use Rattle.tableau_branch.proofs.Lists.{drop_item}
use Rattle.logic_rules.specs.Instantiating.{Quantified}
use Rattle.logic_rules.proofs.Instances.{trigger_taken, trigger_passed}
use Rattle.plain_search.proofs.instantiating.first_by.Goals as goal

pub returns-in-Some : goal.returns-in-Some
returns-in-Some c = let i = c.loop-trigger.trigger-index in let vs = c.args.triggers.now in
    let q : Quantified = record { sorts = c.args.sorts.now; triggers = patterns_of (each_items vs); body = c.args.body.now } in
    sym (trigger_taken c.args.defs.now c.args.branch.now c.args.ground.now c.args.fact.now q vs i c.trigger-item.result c.deref.result.now c.in_ok-found.field-0
    (drop_item vs i c.trigger-item.result c.loop-trigger-test.true c.trigger-item.is) c.deref.ensures.value c.in_ok-found.ensures c.in-Some.found c.in-Some.is) ∙ c.loop-trigger.invariant

pub loop-trigger-preserved : goal.loop-trigger-preserved
loop-trigger-preserved c = let i = c.loop-trigger.trigger-index in let vs = c.args.triggers.now in
    let q : Quantified = record { sorts = c.args.sorts.now; triggers = patterns_of (each_items vs); body = c.args.body.now } in
    trigger_passed c.args.defs.now c.args.branch.now c.args.ground.now c.args.fact.now q vs i c.trigger-item.result c.deref.result.now c.in_ok-found.field-0
    (drop_item vs i c.trigger-item.result c.loop-trigger-test.true c.trigger-item.is) c.deref.ensures.value c.in_ok-found.ensures c.in_default.is ∙ c.loop-trigger.invariant
