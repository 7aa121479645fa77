use Rattle.tableau_branch.specs.View.{move_of}
use Rattle.theory_rules.proofs.Tried.{attempts_err}
use Rattle.tableau.specs.Rules.{rule_of}
use Rattle.tableau.specs.Search.{step}
use Rattle.tableau.specs.declared.rules.Rule.TheVariants as rule
use Rattle.tableau.proofs.FirstRule.{order, rule_leaves, rule_gives, rule_passes}
use Rattle.plain_search.proofs.rules.step.Goals as goal

pub returns-in_err-step : goal.returns-in_err-step
returns-in_err-step c = attempts_err move_of c.from_residual.result c.in_err-step.field-0.0 (step c.args.defs.now c.args.branch) c.from_residual.ensures.1 (λ wide.
    rule_leaves (rule_of c.args.defs.now) order c.loop-rule.rule-index rule.Close c.args.branch c.loop-rule.branch (step c.args.defs.now c.args.branch)
    c.loop-rule-test.true c.loop-rule.invariant.ahead c.loop-rule.invariant.same (c.in_err-step.ensures wide))

pub returns-in-Gives : goal.returns-in-Gives
returns-in-Gives c =
    rule_gives (rule_of c.args.defs.now) order c.loop-rule.rule-index rule.Close c.args.branch c.loop-rule.branch (step c.args.defs.now c.args.branch)
    c.loop-rule-test.true c.loop-rule.invariant.ahead c.loop-rule.invariant.same c.in_ok-step.field-0 c.in-Gives.step c.in-Gives.is c.in_ok-step.ensures

pub loop-rule-preserved : goal.loop-rule-preserved
loop-rule-preserved c =
    let on = rule_passes (rule_of c.args.defs.now) order c.loop-rule.rule-index rule.Close c.args.branch c.loop-rule.branch (step c.args.defs.now c.args.branch)
    c.loop-rule-test.true c.loop-rule.invariant.ahead c.loop-rule.invariant.same c.in_ok-step.field-0 c.in-Passes.same c.in-Passes.is c.in_ok-step.ensures in
    record { ahead = on.0; same = on.1 }
