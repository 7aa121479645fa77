use Rattle.numbered_logic.proofs.Bodies.{form_some, form_none}
use Rattle.numbered_facts.proofs.Growing.{then}
use Rattle.numbered_logic.proofs.unfolding.unfolded_form.Goals as goal

pub returns-in-Some-clause-gives : goal.returns-in-Some-clause-gives
returns-in-Some-clause-gives c = form_some c.args.store.now c.body_of.new.store c.body_of.ensures.grows c.args.formula c.args.call c.requires.formula c.requires.call (c.replaced_form.new.self).terms c.replaced_form.result c.in-Some.body
    (rw c.in-Some.is at c.in_ok-body.ensures.body) c.replaced_form.ensures.gives

pub returns-in-None-clause-gives : goal.returns-in-None-clause-gives
returns-in-None-clause-gives c = λ wide. form_none c.args.store.now c.body_of.new.store c.body_of.ensures.grows c.args.formula c.args.call c.requires.formula c.requires.call (rw c.in-None.is at c.in_ok-body.ensures.body)

pub returns-in-Some-clause-grows : goal.returns-in-Some-clause-grows
returns-in-Some-clause-grows c = then c.args.store.now c.body_of.new.store c.replaced_form.new.self c.body_of.ensures.grows c.replaced_form.ensures.grows
