use Rattle.tableau_branch.specs.View.{move_of}
use Rattle.logic_core.proofs.Refused.{gives_err}
use Rattle.logic_rules.proofs.MovesMade.{instantiates, instantiates_not}
use Rattle.plain_search.proofs.instantiating.instantiate_by.Goals as goal

pub returns-in_err-term : goal.returns-in_err-term
returns-in_err-term c = gives_err move_of c.from_residual.result c.in_err-term.field-0.0 _ c.from_residual.ensures.1
    (λ wide. instantiates_not c.args.defs.now c.args.branch c.args.found (c.in_err-term.ensures wide))

pub returns : goal.returns
returns c = instantiates c.args.defs.now c.args.branch c.args.found c.in_ok-term.term c.in_ok-wider.wider _ _ c.in_ok-term.ensures c.in_ok-wider.ensures c.in_ok-node.ensures c.in_ok-adding.ensures
