use Rattle.std.proofs.Common.{◌≡◌, sym, subst, map}
use Rattle.std.specs.Prelude.{IfOk}
use Rattle.tableau_branch.specs.Cases.{case}
use Rattle.plain_search.proofs.splitting.each_case.Goals as goal

pub returns-in-Some : goal.returns-in-Some
returns-in-Some c = subst (λ ts. IfOk c.cases_before.result (λ v. v.items ≡ map (case c.args.branch) ts)) (sym c.in-Some.ensures.items) c.cases_before.ensures
