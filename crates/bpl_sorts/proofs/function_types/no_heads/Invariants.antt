use Rattle.std.proofs.Common.{◌≡◌, [], replicate}
use Rattle.bpl_sorts.specs.Types.{integers}
use Rattle.bpl_sorts.specs.TypesView.{heads_seen}
use Rattle.bpl_sorts.proofs.function_types.no_heads.Given as goal

abbrev pub invariant-loop-made : goal.invariant-loop-made
invariant-loop-made l = heads_seen l.heads.items ≡ replicate l.made ([], integers)
