use Rattle.std.proofs.Common.{◌≡◌, [], arith}
use Rattle.std.proofs.lemmas.List.{nil_from_length, map-append}
use Rattle.tableau.proofs.partial.PartialProof.begin_with.Goals as goal

pub returns : goal.returns
returns c = let none : c.loop-step.steps.items ≡ [] = nil_from_length c.loop-step.steps.items (omega (arith, c.in_default.ensures.cases)) in
    let kept = rw none at c.loop-step.invariant.steps in rw (kept, map-append, c.loop-step.invariant.end)
