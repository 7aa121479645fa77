use Rattle.std.proofs.Common.{◌≡◌, map, take}
use Rattle.bpl_typing.proofs.terms.targets_of.Given as goal

abbrev pub invariant-loop-pair : goal.invariant-loop-pair
invariant-loop-pair l = l.targets.items ≡ map (λ a. a.0) (take l.pair-index l.pairs)
