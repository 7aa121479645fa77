use Rattle.std.proofs.Common.{◌≡◌, take}
use Rattle.numbered_facts.specs.Tightening.{divided_atoms}
use Rattle.numbered_facts.proofs.tightening.divided.Given as goal

abbrev pub invariant-loop-part : goal.invariant-loop-part
invariant-loop-part l = l.quotients.items ≡ divided_atoms l.g (take l.part-index l.parts)
