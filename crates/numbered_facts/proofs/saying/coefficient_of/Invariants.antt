use Rattle.std.proofs.Common.{◌≡◌, drop}
use Rattle.numbered_facts.specs.Saying.{coefficient_of}
use Rattle.numbered_facts.proofs.saying.coefficient_of.Given as goal

abbrev pub invariant-loop-part : goal.invariant-loop-part
invariant-loop-part l = coefficient_of l.id (drop l.part-index l.parts) ≡ coefficient_of l.id l.parts
