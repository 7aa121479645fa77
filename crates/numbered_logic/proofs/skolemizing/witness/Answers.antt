use Rattle.std.proofs.Common.{◌∙◌, ap}
use Rattle.std.proofs.lemmas.Result.{IfOk-weaker}
use Rattle.logic_core.specs.Substitute.{substitute}
use Rattle.numbered_terms.specs.Lists.{terms_at}
use Rattle.numbered_logic.proofs.Later.{at_later}
use Rattle.numbered_facts.proofs.Growing.{then}
use Rattle.numbered_logic.proofs.skolemizing.witness.Goals as goal

pub returns-clause-is : goal.returns-clause-is
returns-clause-is c = let n = c.args.store.now in let m = c.new_variables.new.store in
    let same = at_later n m c.args.body c.in_ok-variables.ensures.grows c.requires in let vs = ap (terms_at m.terms) c.deref.ensures.value ∙ c.in_ok-variables.ensures.are.1 in
    IfOk-weaker c.substituted.result _ _ (λ i h. (h.0, h.1 ∙ λ k. substitute (same k) (vs k))) c.substituted.ensures.gives

pub returns-clause-grows : goal.returns-clause-grows
returns-clause-grows c = then c.args.store.now c.new_variables.new.store c.substituted.new.self c.new_variables.ensures.grows c.substituted.ensures.grows
