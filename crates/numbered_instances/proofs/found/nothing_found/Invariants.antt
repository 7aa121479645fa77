use Rattle.std.proofs.Common.{◌≡◌, None, map, take}
use Rattle.numbered_instances.proofs.found.nothing_found.Given as goal

abbrev pub invariant-loop-sort : goal.invariant-loop-sort
invariant-loop-sort l = l.found.items ≡ map (λ k. None) (take l._sort-index l.sorts)
