use Rattle.tableau_branch.specs.View.{move_of}
use Rattle.logic_core.proofs.Refused.{gives_err}
use Rattle.logic_rules.proofs.MovesMade.{splits, splits_not}
use Rattle.plain_search.proofs.splitting.split_into.Goals as goal

pub returns-in_err-terms : goal.returns-in_err-terms
returns-in_err-terms c = gives_err move_of c.from_residual.result c.in_err-terms.field-0.0 _ c.from_residual.ensures.1
    (λ wide. splits_not c.args.defs.now c.args.branch c.args.found (c.in_err-terms.ensures wide))

pub returns : goal.returns
returns c = splits c.args.defs.now c.args.branch c.args.found _ c.without_found-rest.result _ _ c.in_ok-terms.ensures c.without_found-rest.ensures c.number_of-number.ensures c.in_ok-made.ensures
