use Rattle.std.proofs.Common.{◌≡◌, [], Vec, map, arith}
use Rattle.std.specs.declared.alloc.Global.{Global}
use Rattle.std.proofs.lemmas.List.{nil_from_length}
use Rattle.numbered_branches.specs.StepView.{step_seen}
use Rattle.numbered_branches.specs.declared.step.Step.{Step}
use Rattle.clause_search.specs.Packed.{packed_steps}
use Rattle.clause_search.proofs.Packing.{put_back, all_back}
use Rattle.clause_search.proofs.packed.pack_lists.Goals as goal

pub loop-list-preserved : goal.loop-list-preserved
loop-list-preserved c = put_back (λ (v : Vec Step Global). map step_seen v.items) packed_steps c.loop-list.lists.items c.pop.new.self.items c.in-Some.list c.loop-list.packed.items c.push.new.self.items _ _ c.in-Some.ensures.items c.in_ok-push.ensures.items c.in_ok-pack_steps.ensures c.loop-list.invariant

pub returns : goal.returns
returns c = let none : c.loop-list.lists.items ≡ [] = nil_from_length c.loop-list.lists.items (omega (arith, c.in_default.ensures.cases)) in
    all_back (λ (v : Vec Step Global). map step_seen v.items) packed_steps c.loop-list.lists.items c.loop-list.packed.items _ none c.loop-list.invariant
