use Rattle.std.proofs.Common.{length}
use Rattle.tableau.specs.PartialView.{partials_of}
use Rattle.numbered_branches.specs.Moves.{IsPlayedBelow, played_at}
use Rattle.clause_search.specs.Packed.{packed_move}
use Rattle.clause_search.proofs.Assembling.{one_joined}
use Rattle.clause_search.proofs.Packing.{forwards}
use Rattle.clause_search.proofs.ended.assemble.Goals as goal

pub tree-requires : goal.tree-requires
tree-requires c = (forwards (IsPlayedBelow (length c.args.terms.now)) packed_move c.loop-step.moves.items c.pop.new.self.items c.in-Some.step c.in-Some.ensures.items c.loop-step.invariant.below).1

pub loop-step-preserved : goal.loop-step-preserved
loop-step-preserved c = record {
  below = (forwards (IsPlayedBelow (length c.args.terms.now)) packed_move c.loop-step.moves.items c.pop.new.self.items c.in-Some.step c.in-Some.ensures.items c.loop-step.invariant.below).0;
  before = one_joined (played_at c.args.terms.now) packed_move c.loop-step.moves.items c.pop.new.self.items c.in-Some.step _ (partials_of c.loop-step.stack.items) _ _ _ c.in-Some.ensures.items c.in_ok-played.ensures c.in_ok-make_room.ensures c.in_ok-join.ensures c.loop-step.invariant.before;
}
