use Rattle.std.proofs.Common.{◌≡◌, [], Vec, map, length, arith}
use Rattle.std.specs.List.{AllByRecursion}
use Rattle.std.specs.declared.alloc.Global.{Global}
use Rattle.std.proofs.lemmas.List.{nil_from_length}
use Rattle.proof_core.specs.View.{steps_of}
use Rattle.proof_core.specs.declared.proof.Step.{Step}
use Rattle.numbered_branches.specs.Branches.{IsStepBelow, step_at}
use Rattle.clause_search.specs.Packed.{packed_steps}
use Rattle.clause_search.proofs.Packing.{backwards, put_forth_twice, all_forth_twice}
use Rattle.clause_search.proofs.packed.lists_tree.Goals as goal

pub steps_tree-requires : goal.steps_tree-requires
steps_tree-requires c = (backwards (AllByRecursion (IsStepBelow (length c.args.terms.now))) packed_steps c.loop-list.packed.items c.pop.new.self.items c.in-Some.list c.in-Some.ensures.items c.loop-list.invariant.below).0

pub loop-list-preserved : goal.loop-list-preserved
loop-list-preserved c = record {
  below = (backwards (AllByRecursion (IsStepBelow (length c.args.terms.now))) packed_steps c.loop-list.packed.items c.pop.new.self.items c.in-Some.list c.in-Some.ensures.items c.loop-list.invariant.below).1;
  trees = put_forth_twice (map (step_at c.args.terms.now)) packed_steps (λ (v : Vec Step Global). steps_of v.items) c.loop-list.packed.items c.pop.new.self.items c.in-Some.list c.loop-list.trees.items c.push.new.self.items _ _ c.in-Some.ensures.items c.in_ok-push.ensures.items c.in_ok-steps_tree.ensures c.loop-list.invariant.trees;
}

pub returns : goal.returns
returns c = let none : c.loop-list.packed.items ≡ [] = nil_from_length c.loop-list.packed.items (omega (arith, c.in_default.ensures.cases)) in
    all_forth_twice (map (step_at c.args.terms.now)) packed_steps (λ (v : Vec Step Global). steps_of v.items) c.loop-list.packed.items c.loop-list.trees.items _ none c.loop-list.invariant.trees
