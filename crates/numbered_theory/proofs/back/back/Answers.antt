use Rattle.std.proofs.Common.{sym, subst}
use Rattle.tableau_branch.specs.Branch.{Attempt}
use Rattle.tableau_branch.specs.Move.{Move}
use Rattle.numbered_branches.specs.Applied.{TriesAt}
use Rattle.numbered_branches.specs.Branches.{branch_at}
use Rattle.theory_rules.proofs.Attempting.{back_by_parts}
use Rattle.numbered_theory.proofs.back.back.Goals as goal

pub returns-clause-tries : goal.returns-clause-tries
returns-clause-tries c =
    let n = c.args.store.now in let b = branch_at n.terms c.args.branch in
    subst (λ (x : Attempt Move). TriesAt c.back_in_parts.new.store.terms b c.back_in_parts.result x) (sym (back_by_parts n.defs b)) c.back_in_parts.ensures.tries
