use Rattle.std.proofs.Common.{◌≡◌, [], arith}
use Rattle.std.proofs.lemmas.List.{nil_from_length}
use Rattle.numbered_branches.specs.StepView.{step_seen}
use Rattle.clause_search.specs.Packed.{packed_step}
use Rattle.clause_search.proofs.Packing.{put_back, all_back}
use Rattle.clause_search.proofs.packed.pack_steps.Goals as goal

pub loop-step-preserved : goal.loop-step-preserved
loop-step-preserved c = put_back step_seen packed_step c.loop-step.steps.items c.pop.new.self.items c.in-Some.step c.loop-step.packed.items c.push.new.self.items _ _ c.in-Some.ensures.items c.in_ok-push.ensures.items c.in_ok-of.ensures c.loop-step.invariant

pub returns : goal.returns
returns c = let none : c.loop-step.steps.items ≡ [] = nil_from_length c.loop-step.steps.items (omega (arith, c.in_default.ensures.cases)) in
    all_back step_seen packed_step c.loop-step.steps.items c.loop-step.packed.items _ none c.loop-step.invariant
