use Rattle.std.proofs.Common.{IfOk, sym, subst}
use Rattle.tableau_branch.specs.Cases.{case}
use Rattle.term_bank.specs.Numbered.{at}
use Rattle.numbered_branches.specs.Branches.{NumberedBranch, branch_at, IsBranchOver}
use Rattle.numbered_branches.specs.Standing.{IsMadeAt}
use Rattle.numbered_theory.proofs.trichotomy.inner_case.Goals as goal

pub case-requires-clause-branch : goal.case-requires-clause-branch
case-requires-clause-branch c = subst (IsBranchOver c.args.store.now.terms) (sym c.in_ok-inner.ensures) c.requires.branch

pub returns-clause-made : goal.returns-clause-made
returns-clause-made c =
    let ts = c.args.store.now.terms in
    subst (λ (b : NumberedBranch). IfOk c.case.result (λ m. IsMadeAt c.case.new.store.terms m (case (branch_at ts b) (at ts c.args.way)))) c.in_ok-inner.ensures c.case.ensures.made
