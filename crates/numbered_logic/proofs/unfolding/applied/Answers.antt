use Rattle.numbered_logic.proofs.Bodies.{applied_some, applied_none}
use Rattle.numbered_logic.proofs.Later.{all_later}
use Rattle.numbered_facts.proofs.Growing.{then}
use Rattle.numbered_logic.proofs.unfolding.applied.Goals as goal

pub substituted-requires-clause-args : goal.substituted-requires-clause-args
substituted-requires-clause-args c = all_later c.args.store.now c.body.new.self c.args.args.now c.body.ensures.grows c.requires

pub returns-in_ok-substituted-in-Some-clause-body : goal.returns-in_ok-substituted-in-Some-clause-body
returns-in_ok-substituted-in-Some-clause-body c = applied_some c.args.store.now c.body.new.self c.substituted.new.self c.body.ensures.grows c.args.number c.args.args.now c.requires c.in-Some.body c.in_ok-substituted-in-Some.field-0
    (rw c.in-Some.is at c.in_ok-body.ensures.gives) c.in_ok-substituted-in-Some.ensures.gives

pub returns-in-None-clause-body : goal.returns-in-None-clause-body
returns-in-None-clause-body c = applied_none c.args.store.now c.body.new.self c.args.store.now c.body.ensures.grows c.args.number c.args.args.now c.requires (rw c.in-None.is at c.in_ok-body.ensures.gives)

pub returns-in_err-substituted-in-Some-clause-grows : goal.returns-in_err-substituted-in-Some-clause-grows
returns-in_err-substituted-in-Some-clause-grows c = then c.args.store.now c.body.new.self c.substituted.new.self c.body.ensures.grows c.substituted.ensures.grows

pub returns-in_ok-substituted-in-Some-clause-grows : goal.returns-in_ok-substituted-in-Some-clause-grows
returns-in_ok-substituted-in-Some-clause-grows c = then c.args.store.now c.body.new.self c.substituted.new.self c.body.ensures.grows c.substituted.ensures.grows
