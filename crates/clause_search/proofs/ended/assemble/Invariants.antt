use Rattle.std.proofs.Common.{◌≡◌, [], map, length, vec_len}
use Rattle.std.specs.List.{AllByRecursion}
use Rattle.tableau.specs.PartialView.{partials_of}
use Rattle.tableau.specs.Search.{proofs_before}
use Rattle.numbered_branches.specs.Moves.{IsPlayedBelow, played_at}
use Rattle.clause_search.specs.Packed.{packed_move}
use Rattle.clause_search.proofs.ended.assemble.Given as goal

abbrev pub invariant-loop-step : goal.invariant-loop-step
invariant-loop-step l = record {
  below : AllByRecursion (IsPlayedBelow (length l.terms)) (map packed_move l.moves.items);
  before : proofs_before (map (played_at l.terms) (map packed_move l.moves.items)) (partials_of l.stack.items) ≡ proofs_before (map (played_at l.terms) (map packed_move l.fn.moves.items)) [];
}

abbrev pub decreases-loop-step : goal.decreases-loop-step
decreases-loop-step l = vec_len l.moves
