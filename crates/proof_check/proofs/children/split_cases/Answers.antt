use Rattle.std.proofs.Common.{rules}
use Rattle.proof_check.proofs.Appending.{split_at_once}
use Rattle.proof_check.proofs.children.split_cases.Goals as goal

pub returns-in_err-others : goal.returns-in_err-others
returns-in_err-others c = rw (split_at_once c.args.defs.now c.args.context.now c.args.fact.now _ _ c.in_ok-formulas.ensures) (search rules)

pub returns : goal.returns
returns c = rw (split_at_once c.args.defs.now c.args.context.now c.args.fact.now _ _ c.in_ok-formulas.ensures, c.in_ok-first.ensures) (search rules)
