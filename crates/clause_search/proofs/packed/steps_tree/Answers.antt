use Rattle.std.proofs.Common.{◌≡◌, [], length, arith}
use Rattle.std.proofs.lemmas.List.{nil_from_length}
use Rattle.proof_core.specs.View.{step_of}
use Rattle.numbered_branches.specs.Branches.{IsStepBelow, step_at}
use Rattle.clause_search.specs.Packed.{packed_step}
use Rattle.clause_search.proofs.Packing.{backwards, put_forth_twice, all_forth_twice}
use Rattle.clause_search.proofs.packed.steps_tree.Goals as goal

pub tree-requires : goal.tree-requires
tree-requires c = (backwards (IsStepBelow (length c.args.terms.now)) packed_step c.loop-step.packed.items c.pop.new.self.items c.in-Some.step c.in-Some.ensures.items c.loop-step.invariant.below).0

pub loop-step-preserved : goal.loop-step-preserved
loop-step-preserved c = record {
  below = (backwards (IsStepBelow (length c.args.terms.now)) packed_step c.loop-step.packed.items c.pop.new.self.items c.in-Some.step c.in-Some.ensures.items c.loop-step.invariant.below).1;
  trees = put_forth_twice (step_at c.args.terms.now) packed_step step_of c.loop-step.packed.items c.pop.new.self.items c.in-Some.step c.loop-step.trees.items c.push.new.self.items _ _ c.in-Some.ensures.items c.in_ok-push.ensures.items c.in_ok-tree.ensures c.loop-step.invariant.trees;
}

pub returns : goal.returns
returns c = let none : c.loop-step.packed.items ≡ [] = nil_from_length c.loop-step.packed.items (omega (arith, c.in_default.ensures.cases)) in
    all_forth_twice (step_at c.args.terms.now) packed_step step_of c.loop-step.packed.items c.loop-step.trees.items _ none c.loop-step.invariant.trees
