use Rattle.std.proofs.Common.{ap, map}
use Rattle.proof_core.specs.View.{steps_of}
use Rattle.numbered_branches.specs.StepView.{step_seen}
use Rattle.numbered_branches.proofs.Standing.{made_of}
use Rattle.numbered_facts.proofs.Growing.{then}
use Rattle.numbered_branches.proofs.moves_to_numbers.made_number.Goals as goal

pub returns-clause-made : goal.returns-clause-made
returns-clause-made c = let i = c.made.inside in
    made_of c.of.new.store.terms c.step_numbers.new.store.terms c.in_ok-steps.ensures.grows.terms c.in_ok-branch.branch (map step_seen c.in_ok-steps.steps.items) i.size i.branch (steps_of c.deref.result.now) (steps_of i.steps.items) c.args.made.now
    c.in_ok-branch.ensures.branch c.in_ok-steps.ensures.steps (ap steps_of c.deref.ensures.value) c.made.view_is

pub returns-in_err-steps-clause-grows : goal.returns-in_err-steps-clause-grows
returns-in_err-steps-clause-grows c = then c.args.store.now c.of.new.store c.step_numbers.new.store c.in_ok-branch.ensures.grows c.step_numbers.ensures.grows

pub returns-clause-grows : goal.returns-clause-grows
returns-clause-grows c = then c.args.store.now c.of.new.store c.step_numbers.new.store c.in_ok-branch.ensures.grows c.in_ok-steps.ensures.grows
