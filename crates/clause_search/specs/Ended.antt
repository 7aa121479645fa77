-- What a search over numbers that ended stands for.
use Rattle.std.specs.Prelude.{ℕ, List, map}
use Rattle.std.specs.List.{AllByRecursion}
use Rattle.logic_core.specs.Tree.{Tree}
use Rattle.tableau.specs.Search as search
use Rattle.tableau.specs.RunView.{verdict_of}
use Rattle.numbered_branches.specs.Moves.{IsPlayedBelow, played_at}
use Rattle.clause_search.specs.Packed.{packed_move}
use Rattle.clause_search.specs.declared.ended.Run.{Run}

abbrev pub IsRunBelow : ℕ → Run → Type 0
IsRunBelow n r = AllByRecursion (IsPlayedBelow n) (map packed_move r.moves.items)

abbrev pub run_at : List Tree → Run → search.Run
run_at ts r = record { verdict = verdict_of r.verdict; moves = map (played_at ts) (map packed_move r.moves.items) }
