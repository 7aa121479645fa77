use Rattle.std.proofs.Common.{◌≡◌, drop}
use Rattle.logic_core.specs.View.{trees_of}
use Rattle.logic_core.specs.Junction.{has_truth}
use Rattle.logic_core.proofs.junction.has_truth.Given as goal

abbrev pub invariant-loop-term : goal.invariant-loop-term
invariant-loop-term l = has_truth l.b (trees_of (drop l.term-index l.terms)) ≡ has_truth l.b (trees_of l.terms)
