use Rattle.std.proofs.lemmas.Result.{IfOk-weaker}
use Rattle.tableau_branch.specs.Branch.{context_of}
use Rattle.proof_core.specs.Split.{cases}
use Rattle.term_bank.specs.Numbered.{at}
use Rattle.logic_rules.specs.Splitting.{cases_of}
use Rattle.numbered_branches.specs.Branches.{fact_at}
use Rattle.numbered_logic.specs.Forms.{AreSome, branch_over}
use Rattle.numbered_logic.proofs.TwoCases.{listed, no_cases, its_cases}
use Rattle.numbered_facts.proofs.Growing.{then}
use Rattle.numbered_logic.proofs.splitting.cases_of.Goals as goal

pub returns-in-Some-clause-cases : goal.returns-in-Some-clause-cases
returns-in-Some-clause-cases c = no_cases c.args.store.now c.left_side.new.self c.left_side.ensures.grows c.args.fact.now c.requires c.term_of-id.result c.term_of-id.ensures c.in_ok-left.left c.in_ok-left.ensures.gives c.in-Some.field-0 c.in-Some.is

pub returns-in-None-clause-cases : goal.returns-in-None-clause-cases
returns-in-None-clause-cases c =
    let n = c.args.store.now in let m = c.left_side.new.self in let o = c.cases.new.store in let id = c.term_of-id.result in
    IfOk-weaker c.cases.result (λ p. AreSome o.terms p (listed (cases m.defs (context_of (branch_over m.vars)) (at m.terms id)))) (λ p. AreSome o.terms p (cases_of n.defs (branch_over n.vars) (fact_at n.terms c.args.fact.now)))
    (λ p h. its_cases n m c.left_side.ensures.grows c.args.fact.now c.requires id c.term_of-id.ensures c.in_ok-left.left c.in_ok-left.ensures.gives o.terms p c.in-None.is h) c.cases.ensures.cases

pub returns-in-None-clause-grows : goal.returns-in-None-clause-grows
returns-in-None-clause-grows c = then c.args.store.now c.left_side.new.self c.cases.new.store c.left_side.ensures.grows c.cases.ensures.grows
