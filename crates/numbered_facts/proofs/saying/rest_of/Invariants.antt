use Rattle.std.proofs.Common.{◌≡◌, ◌++◌, drop, if◌then◌else◌}
use Rattle.numbered_facts.specs.Saying.{without}
use Rattle.numbered_facts.proofs.saying.rest_of.Given as goal

abbrev pub invariant-loop-part : goal.invariant-loop-part
invariant-loop-part l = l.others.items ++ (if l.found then drop l.part-index l.parts else without l.id (drop l.part-index l.parts)) ≡ without l.id l.parts
