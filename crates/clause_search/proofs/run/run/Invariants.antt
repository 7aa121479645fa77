use Rattle.std.proofs.Common.{◌≡◌, [], ◌∷◌, map, length, reverse}
use Rattle.std.specs.List.{AllByRecursion}
use Rattle.term_bank.specs.Numbered.{Begins}
use Rattle.tableau.specs.Search.{run}
use Rattle.tableau.proofs.Turns.{before_run}
use Rattle.numbered_branches.specs.Branches.{IsBranchOver, branch_at}
use Rattle.numbered_branches.specs.Moves.{IsPlayedBelow, played_at}
use Rattle.clause_search.specs.Packed.{packed_move}
use Rattle.clause_search.specs.Tables.{AreRight}
use Rattle.clause_search.proofs.run.run.Given as goal

abbrev pub invariant-loop-branch : goal.invariant-loop-branch
invariant-loop-branch l = record {
  terms : Begins l.fn.store.terms l.store.terms;
  defs : l.store.defs ≡ l.fn.store.defs;
  tables : AreRight l.store.terms l.tables;
  over : AllByRecursion (IsBranchOver l.store.terms) (reverse l.stack.items);
  below : AllByRecursion (IsPlayedBelow (length l.store.terms)) (map packed_move l.moves.items);
  run : before_run (map (played_at l.store.terms) (map packed_move l.moves.items)) (run l.fn.store.defs l.left l.left (map (branch_at l.store.terms) (reverse l.stack.items))) ≡ run l.fn.store.defs l.fn.turns l.fn.turns (branch_at l.fn.store.terms l.fn.first ∷ []);
}

abbrev pub decreases-loop-branch : goal.decreases-loop-branch
decreases-loop-branch l = l.left
