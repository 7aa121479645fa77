use Rattle.std.proofs.Common.{◌≡◌, [], arith}
use Rattle.std.proofs.lemmas.List.{nil_from_length}
use Rattle.numbered_branches.proofs.Steps.{branches_of_made, steps_of_made}
use Rattle.numbered_branches.proofs.played.stack_each.Goals as goal

pub returns-clause-steps : goal.returns-clause-steps
returns-clause-steps c = let none : c.loop-made_one.made.items ≡ [] = nil_from_length c.loop-made_one.made.items (omega (arith, c.in_default.ensures.cases)) in
    let kept = rw none at c.loop-made_one.invariant.steps in let now = c.reverse.ensures.items in let was = steps_of_made c.args.made.items in rw (was, now, kept)

pub returns-clause-pushed : goal.returns-clause-pushed
returns-clause-pushed c = let none : c.loop-made_one.made.items ≡ [] = nil_from_length c.loop-made_one.made.items (omega (arith, c.in_default.ensures.cases)) in
    let kept = rw none at c.loop-made_one.invariant.branches in let was = branches_of_made c.args.made.items in rw (was, kept)
