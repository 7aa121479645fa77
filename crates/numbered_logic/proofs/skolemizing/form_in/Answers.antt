use Rattle.std.proofs.Common.{◌∙◌, ap, subst, [], List}
use Rattle.logic_core.specs.Tree.{Kind}
use Rattle.logic_core.specs.Normal.{normal}
use Rattle.term_bank.specs.Numbered.{at}
use Rattle.numbered_terms.specs.At.{GivesAt}
use Rattle.numbered_branches.specs.Branches.{NumberedBranch}
use Rattle.numbered_logic.proofs.skolemizing.form_in.Goals as goal

pub returns-clause-gives : goal.returns-clause-gives
returns-clause-gives c = let n = c.args.store.now in
    subst (λ (vs : List Kind). GivesAt (c.form_over.new.store).terms c.form_over.result (normal vs n.defs [] (at n.terms c.args.id))) (c.deref.ensures.value ∙ ap (λ (x : NumberedBranch). x.vars) c.branch.view_is) c.form_over.ensures.gives
