use Rattle.std.proofs.Common.{◌≡◌, [], map, vec_len}
use Rattle.tableau.specs.Search.{proofs_before}
use Rattle.tableau_branch.specs.View.{played_of}
use Rattle.tableau.specs.PartialView.{partials_of}
use Rattle.tableau.proofs.assembly.assemble.Given as goal

abbrev pub invariant-loop-played : goal.invariant-loop-played
invariant-loop-played l = proofs_before (map played_of l.moves.items) (partials_of l.stack.items) ≡ proofs_before (map played_of l.fn.moves.items) []

abbrev pub decreases-loop-played : goal.decreases-loop-played
decreases-loop-played l = vec_len l.moves
