use Rattle.tableau_branch.specs.View.{move_of}
use Rattle.logic_core.proofs.Refused.{gives_err}
use Rattle.logic_rules.proofs.MovesMade.{skolemizes, skolemizes_not}
use Rattle.plain_search.proofs.skolem.skolemize_at.Goals as goal

pub returns-in_err-term : goal.returns-in_err-term
returns-in_err-term c = gives_err move_of c.from_residual-in_err-term.result c.in_err-term.field-0.0 _ c.from_residual-in_err-term.ensures.1
    (λ wide. skolemizes_not c.args.defs.now c.args.branch c.args.found _ c.in_ok-wider.wider c.in_ok-instance.ensures c.in_ok-wider.ensures (c.in_err-term.ensures wide))

pub returns : goal.returns
returns c = skolemizes c.args.defs.now c.args.branch c.args.found _ _ c.in_ok-wider.wider _ _ c.in_ok-instance.ensures c.in_ok-wider.ensures c.step-node.ensures c.in_ok-term.ensures c.in_ok-adding.ensures
