use Rattle.tableau_branch.specs.View.{move_of}
use Rattle.logic_core.proofs.Refused.{gives_err}
use Rattle.logic_rules.proofs.MovesMade.{flattens, flattens_not}
use Rattle.plain_search.proofs.flattening.flatten_at.Goals as goal

pub returns-in_err-parts : goal.returns-in_err-parts
returns-in_err-parts c = gives_err move_of c.from_residual.result c.in_err-parts.field-0.0 _ c.from_residual.ensures.1
    (λ wide. flattens_not c.args.defs.now c.args.branch c.args.found (c.in_err-parts.ensures wide))

pub returns : goal.returns
returns c = flattens c.args.defs.now c.args.branch c.args.found _ c.without_found-rest.result _ _ c.in_ok-parts.ensures c.without_found-rest.ensures c.number_of-number.ensures c.in_ok-adding_each.ensures
