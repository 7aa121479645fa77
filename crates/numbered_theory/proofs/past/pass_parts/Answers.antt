use Rattle.std.proofs.Common.{subst, Option, ◌∙◌}
use Rattle.tableau_branch.specs.Move.{Move}
use Rattle.numbered_branches.specs.Applied.{GivesMoveAt}
use Rattle.numbered_theory.proofs.Passing.{past_done}
use Rattle.numbered_facts.proofs.Growing.{then}
use Rattle.numbered_branches.proofs.Growing.{below}
use Rattle.numbered_branches.proofs.Changing.{branch_more}
use Rattle.numbered_theory.proofs.past.pass_parts.Goals as goal

pub returns-clause-gives : goal.returns-clause-gives
returns-clause-gives c =
    let is = past_done c.args.store.now c.distance.new.store c.make.new.self c.in_ok-distance.ensures.grows c.in_ok-before.ensures.grows c.args.branch.now c.requires.branch c.requires.vars c.args.id c.requires.id c.args.parts.now c.requires.parts.0 c.requires.parts.1
    c.in_ok-distance.distance c.in_ok-before.before c.in_ok-distance.ensures.gives.0 c.in_ok-distance.ensures.gives.1 c.in_ok-before.ensures.gives.1 in
    subst (λ (o : Option Move). GivesMoveAt c.pass_each.new.store.terms c.pass_each.result o) is c.pass_each.ensures.gives

pub distance-requires : goal.distance-requires
distance-requires c = c.requires.parts.0

pub pass_each-requires-clause-branch : goal.pass_each-requires-clause-branch
pass_each-requires-clause-branch c = (branch_more c.args.store.now.terms c.make.new.self.terms (then c.args.store.now c.distance.new.store c.make.new.self c.in_ok-distance.ensures.grows c.in_ok-before.ensures.grows).terms c.args.branch.now c.requires.branch).0

pub pass_each-requires-clause-vars : goal.pass_each-requires-clause-vars
pass_each-requires-clause-vars c = (then c.args.store.now c.distance.new.store c.make.new.self c.in_ok-distance.ensures.grows c.in_ok-before.ensures.grows).vars ∙ c.requires.vars

pub pass_each-requires-clause-access : goal.pass_each-requires-clause-access
pass_each-requires-clause-access c = below c.args.store.now c.make.new.self c.args.id (then c.args.store.now c.distance.new.store c.make.new.self c.in_ok-distance.ensures.grows c.in_ok-before.ensures.grows) c.requires.id

pub pass_each-requires-clause-distance : goal.pass_each-requires-clause-distance
pass_each-requires-clause-distance c = below c.distance.new.store c.make.new.self c.in_ok-distance.distance c.in_ok-before.ensures.grows c.in_ok-distance.ensures.gives.0

pub pass_each-requires-clause-before : goal.pass_each-requires-clause-before
pass_each-requires-clause-before c = c.in_ok-before.ensures.gives.0

pub pass_each-requires-clause-value : goal.pass_each-requires-clause-value
pass_each-requires-clause-value c = below c.args.store.now c.make.new.self c.args.parts.now.value (then c.args.store.now c.distance.new.store c.make.new.self c.in_ok-distance.ensures.grows c.in_ok-before.ensures.grows) c.requires.parts.0.value

pub returns-in_err-distance-clause-grows : goal.returns-in_err-distance-clause-grows
returns-in_err-distance-clause-grows c = c.distance.ensures.grows

pub returns-in_err-before-clause-grows : goal.returns-in_err-before-clause-grows
returns-in_err-before-clause-grows c = then c.args.store.now c.distance.new.store c.make.new.self c.in_ok-distance.ensures.grows c.make.ensures.grows

pub returns-clause-grows : goal.returns-clause-grows
returns-clause-grows c = then c.args.store.now c.make.new.self c.pass_each.new.store (then c.args.store.now c.distance.new.store c.make.new.self c.in_ok-distance.ensures.grows c.in_ok-before.ensures.grows) c.pass_each.ensures.grows
