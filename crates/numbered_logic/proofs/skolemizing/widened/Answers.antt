use Rattle.std.proofs.lemmas.Result.{IfOk-weaker}
use Rattle.numbered_logic.proofs.Witnesses.{wider_over, wider_is}
use Rattle.numbered_logic.proofs.skolemizing.widened.Goals as goal

pub returns-clause-over : goal.returns-clause-over
returns-clause-over c = IfOk-weaker c.with_variables.result _ _ (λ w e. wider_over c.args.terms.now c.args.branch c.without-rest.result w c.args.found.at c.args.found.sorts.items e c.without-rest.ensures.over) c.with_variables.ensures

pub returns-clause-is : goal.returns-clause-is
returns-clause-is c = IfOk-weaker c.with_variables.result _ _ (λ w e. wider_is c.args.terms.now c.args.branch c.without-rest.result w c.args.found.at c.args.found.sorts.items e c.without-rest.ensures.without) c.with_variables.ensures
