use Rattle.std.proofs.Common.{sym, subst}
use Rattle.std.specs.Prelude.{Option}
use Rattle.logic_core.specs.Gives.{Gives}
use Rattle.tableau_branch.specs.Change.{Made}
use Rattle.theory_rules.proofs.Given.{passes}
use Rattle.plain_search.proofs.past.pass.Goals as goal

pub returns : goal.returns
returns c =
    let is = passes c.args.defs.now c.args.branch c.args.access.now c.args.way.now c.args.said.now _ _ _ _ c.in_ok-linear.ensures c.in_ok-made.ensures.made c.in_ok-made.ensures.equation in
    subst (λ (o : Option Made). Gives c.replace_by.result o) (sym is) c.replace_by.ensures
