use Rattle.std.proofs.Common.{◌≡◌, ◌∙◌, subst, length, take, map, Some, rules}
use Rattle.std.specs.Prelude.{Ok}
use Rattle.proof_core.specs.View.{proofs_of}
use Rattle.proof_core.specs.Context.{with_fact}
use Rattle.proof_core.specs.Ends.{after_cases}
use Rattle.proof_core.specs.Verdict.{next, for_each, judged, judged_each}
use Rattle.proof_check.specs.Added.{with_facts, Extends}
use Rattle.proof_check.specs.Checked.{JudgesAs}
use Rattle.proof_check.proofs.Extending.{cut_back}
use Rattle.proof_check.proofs.Judging.{cases_judged}
use Rattle.proof_check.proofs.walk.+judge.Goals as goal

pub judge_child-returns-clause-same : goal.judge_child-returns-clause-same
judge_child-returns-clause-same t c =
    let old = c.args.context.now in
    let new = c.judge.new.context in
    let added : c.add.new.self ≡ with_facts old c.args.facts.items = c.in_ok-add.ensures ∙ c.facts.ensures old in
    let more : Extends (with_facts old c.args.facts.items) new = subst (λ d. Extends d new) added c.in_ok-node.ensures.more in
    let vars : c.truncate.new.self.items ≡ take (length old.vars) new.vars = search rules in
    let facts : c.truncate-2.new.self.items ≡ take (length old.facts) new.facts = search rules in
    cut_back old new c.args.facts.items c.truncate.new.self.items c.truncate-2.new.self.items vars facts more

pub judge_cases-returns-clause-judged : goal.judge_cases-returns-clause-judged
judge_cases-returns-clause-judged t c =
    let old = c.args.context.now in
    let cases = c.in_ok-cases.cases in
    let others = proofs_of c.args.others.now in
    let given : for_each others (after_cases c.args.defs.now old c.args.f) ≡ Some (with_fact old cases.first, map (λ t. with_fact old t) cases.others.items) = search rules in
    let first : judged c.args.defs.now (next c.args.node) (with_fact old cases.first) c.args.first.now ≡ Ok c.in_ok-node.node = search rules in
    let each : JudgesAs (λ n. n) c.judge_each.result (judged_each c.args.defs.now c.in_ok-node.node (map (λ t. with_fact old t) cases.others.items) others) = search rules in
    cases_judged (λ n. n) c.judge_each.result c.args.defs.now c.args.node c.in_ok-node.node old _ _ c.args.f c.args.first.now others given first each
