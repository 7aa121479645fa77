use Rattle.std.proofs.Common.{◌≡◌, ◌∙◌, ◌<◌, sym, ap, subst, map, length, option_map, arith}
use Rattle.std.specs.List.{AllByRecursion}
use Rattle.std.proofs.lemmas.Result.{IfOk-weaker}
use Rattle.logic_core.specs.Tree.{some}
use Rattle.logic_core.specs.View.{trees_of}
use Rattle.proof_core.specs.Split.{cases}
use Rattle.term_bank.specs.Numbered.{at}
use Rattle.term_bank.specs.Node.{tree_over, numbers_in}
use Rattle.tableau_branch.specs.Branch.{context_of}
use Rattle.numbered_terms.proofs.Items.{all_lower}
use Rattle.numbered_logic.specs.Forms.{AreSome, at_least_one, branch_over}
use Rattle.numbered_logic.proofs.TwoCases.{listed, or_cases}
use Rattle.numbered_logic.proofs.splitting.cases.Goals as goal

pub returns-in-Or-clause-cases : goal.returns-in-Or-clause-cases
returns-in-Or-clause-cases c =
    let n = c.args.store.now in let ts = n.terms in let us = c.terms.result.now in let is = c.in-Or.parts.items in
    let seen : at us c.args.fact ≡ some (trees_of (map (at us) is)) = sym c.node.ensures.node ∙ ap (tree_over (at us)) c.in-Or.is in
    let shape = subst (λ vs. at vs c.args.fact ≡ some (trees_of (map (at vs) is))) c.terms.ensures seen in
    let low = all_lower c.args.fact (length ts) is (omega (arith, c.requires)) (subst (λ m. AllByRecursion (λ j. j < c.args.fact) (numbers_in m)) c.in-Or.is c.node.ensures.lower) in
    IfOk-weaker c.disjuncts.result (λ o. option_map (λ v. v.items) o ≡ at_least_one c.deref.result.now) (λ o. AreSome ts o (listed (cases n.defs (context_of (branch_over n.vars)) (at ts c.args.fact))))
    (λ o e. subst (λ t. AreSome ts o (listed (cases n.defs (context_of (branch_over n.vars)) t))) (sym shape) (or_cases ts is o low (e ∙ ap at_least_one c.deref.ensures.value))) c.disjuncts.ensures
