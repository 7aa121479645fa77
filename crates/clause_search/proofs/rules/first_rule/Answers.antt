use Rattle.std.proofs.Common.{◌∙◌, sym, ap, get_or, Ok}
use Rattle.term_bank.proofs.Numbers.{begins_then}
use Rattle.tableau_branch.specs.Branch.{Branch}
use Rattle.tableau.specs.Rules.{rule_of}
use Rattle.tableau.specs.Search.{step}
use Rattle.tableau.specs.declared.rules.Rule.TheVariants as rule
use Rattle.tableau.proofs.FirstRule.{order}
use Rattle.numbered_facts.proofs.Growing.{then}
use Rattle.numbered_branches.specs.Branches.{branch_at}
use Rattle.clause_search.proofs.FirstAt.{attempts_err, rule_leaves, rule_gives, rule_passes, tried_over, wide_over}
use Rattle.clause_search.proofs.rules.first_rule.Goals as goal

pub try_rule-requires : goal.try_rule-requires
try_rule-requires c = record { branch = c.loop-rule.invariant.same.0; vars = c.loop-rule.invariant.grows.vars ∙ c.requires.vars ∙ sym (ap (λ (b : Branch). b.vars) c.loop-rule.invariant.same.1); tables = c.loop-rule.invariant.tables }

pub returns-in_err-step-clause-attempts : goal.returns-in_err-step-clause-attempts
returns-in_err-step-clause-attempts c =
    let defs = c.args.store.now.defs in
    let b = branch_at c.args.store.now.terms c.args.branch in
    let d = branch_at c.loop-rule.store.terms c.loop-rule.branch in
    let us = c.try_rule.new.store.terms in
    attempts_err us c.from_residual.result c.in_err-step.field-0.0 (step defs b) c.from_residual.ensures.1 (λ wide.
    rule_leaves (rule_of defs) order c.loop-rule.rule-index rule.Close us b d (step defs b)
    c.loop-rule-test.true c.loop-rule.invariant.ahead c.loop-rule.invariant.same.1 (wide_over c.loop-rule.store.defs defs c.loop-rule.invariant.grows.defs (λ ds. rule_of ds (get_or order c.loop-rule.rule-index rule.Close)) d (c.in_err-step.ensures.tries wide)))

pub returns-in-Gives-clause-attempts : goal.returns-in-Gives-clause-attempts
returns-in-Gives-clause-attempts c =
    let defs = c.args.store.now.defs in
    let b = branch_at c.args.store.now.terms c.args.branch in
    let d = branch_at c.loop-rule.store.terms c.loop-rule.branch in
    let us = c.try_rule.new.store.terms in
    rule_gives (rule_of defs) order c.loop-rule.rule-index rule.Close us b d (step defs b)
    c.loop-rule-test.true c.loop-rule.invariant.ahead c.loop-rule.invariant.same.1 c.in_ok-step.field-0 c.in-Gives.step c.in-Gives.is (tried_over us c.loop-rule.store.defs defs c.loop-rule.invariant.grows.defs (λ ds. rule_of ds (get_or order c.loop-rule.rule-index rule.Close)) d (Ok c.in_ok-step.field-0) c.in_ok-step.ensures.tries)

pub loop-rule-preserved : goal.loop-rule-preserved
loop-rule-preserved c =
    let defs = c.args.store.now.defs in
    let b = branch_at c.args.store.now.terms c.args.branch in
    let d = branch_at c.loop-rule.store.terms c.loop-rule.branch in
    let us = c.try_rule.new.store.terms in
    let on = rule_passes (rule_of defs) order c.loop-rule.rule-index rule.Close us b d (step defs b)
    c.loop-rule-test.true c.loop-rule.invariant.ahead c.loop-rule.invariant.same.1 c.in_ok-step.field-0 c.in-Passes.same c.in-Passes.is (tried_over us c.loop-rule.store.defs defs c.loop-rule.invariant.grows.defs (λ ds. rule_of ds (get_or order c.loop-rule.rule-index rule.Close)) d (Ok c.in_ok-step.field-0) c.in_ok-step.ensures.tries) in
    record { grows = then c.args.store.now c.loop-rule.store c.try_rule.new.store c.loop-rule.invariant.grows c.in_ok-step.ensures.grows; tables = c.in_ok-step.ensures.tables; ahead = on.0; same = on.1 }

pub returns-in_err-step-clause-terms : goal.returns-in_err-step-clause-terms
returns-in_err-step-clause-terms c = begins_then c.args.store.now.terms (c.loop-rule.store).terms (c.try_rule.new.store).terms c.loop-rule.invariant.grows.terms c.try_rule.ensures.terms

pub returns-in-Gives-clause-terms : goal.returns-in-Gives-clause-terms
returns-in-Gives-clause-terms c = begins_then c.args.store.now.terms (c.loop-rule.store).terms (c.try_rule.new.store).terms c.loop-rule.invariant.grows.terms c.try_rule.ensures.terms

pub returns-in-Gives-clause-grows : goal.returns-in-Gives-clause-grows
returns-in-Gives-clause-grows c = then c.args.store.now c.loop-rule.store c.try_rule.new.store c.loop-rule.invariant.grows c.in_ok-step.ensures.grows

pub returns-clause-terms : goal.returns-clause-terms
returns-clause-terms c = c.loop-rule.invariant.grows.terms

pub returns-clause-grows : goal.returns-clause-grows
returns-clause-grows c = c.loop-rule.invariant.grows
