use Rattle.tableau_branch.specs.View.{move_of}
use Rattle.logic_core.proofs.Refused.{gives_err}
use Rattle.logic_rules.proofs.MovesMade.{unfolds, unfolds_not}
use Rattle.plain_search.proofs.unfolding.unfold_at.Goals as goal

pub returns-in_err-term : goal.returns-in_err-term
returns-in_err-term c = gives_err move_of c.from_residual.result c.in_err-term.field-0.0 _ c.from_residual.ensures.1
    (λ wide. unfolds_not c.args.defs.now c.args.branch c.args.found (c.in_err-term.ensures wide))

pub returns : goal.returns
returns c = unfolds c.args.defs.now c.args.branch c.args.found _ c.in_ok-more.more _ _ _ c.in_ok-term.ensures c.in_ok-more.ensures.branch c.place_of-at.ensures c.step-node.ensures c.in_ok-changing.ensures
