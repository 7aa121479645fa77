use Rattle.std.proofs.Common.{◌∙◌, ap, subst, [], List}
use Rattle.std.proofs.lemmas.Result.{IfOk-weaker}
use Rattle.logic_core.specs.Tree.{Kind}
use Rattle.logic_core.specs.Substitute.{substitute}
use Rattle.proof_core.specs.Context.{new_variables}
use Rattle.term_bank.specs.Numbered.{at}
use Rattle.numbered_terms.specs.At.{IsAt}
use Rattle.numbered_branches.specs.Branches.{NumberedBranch}
use Rattle.numbered_logic.proofs.skolemizing.instance_of.Goals as goal

pub returns-clause-is : goal.returns-clause-is
returns-clause-is c =
    let n = c.args.store.now in let us = (c.witness.new.store).terms in let body = at n.terms c.args.found.now.body in
    IfOk-weaker c.witness.result _ _ (λ i h. subst (λ (ks : List Kind). IsAt us i (substitute body (new_variables (record { vars = c.args.branch.now.vars; facts = [] }) ks))) c.deref-2.ensures.value
    (subst (λ (vs : List Kind). IsAt us i (substitute body (new_variables (record { vars = vs; facts = [] }) c.deref-2.result.now))) (c.deref.ensures.value ∙ ap (λ (x : NumberedBranch). x.vars) c.branch.view_is) h)) c.witness.ensures.is
