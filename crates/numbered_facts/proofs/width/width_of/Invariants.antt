use Rattle.numbered_facts.specs.Alike.{AreBelow}
use Rattle.numbered_facts.proofs.width.width_of.Given as goal

abbrev pub invariant-loop-number : goal.invariant-loop-number
invariant-loop-number l = AreBelow l.terms l.number l.width
