use Rattle.tableau_branch.specs.View.{move_of}
use Rattle.theory_rules.proofs.Given.{conditions_not, conditions_made}
use Rattle.theory_rules.proofs.Tried.{gives_err}
use Rattle.theory_rules.proofs.condition.condition_at.Goals as goal

pub returns-in_err-yes : goal.returns-in_err-yes
returns-in_err-yes c = gives_err move_of c.from_residual.result c.in_err-yes.field-0.0 _ c.from_residual.ensures.1
    (λ wide. conditions_not c.args.defs.now c.args.branch c.args.found.now (c.in_err-yes.ensures wide))

pub returns : goal.returns
returns c = conditions_made c.args.defs.now c.args.branch c.args.found.now _ _ c.in_ok-yes.ensures c.in_ok-choosing.ensures
