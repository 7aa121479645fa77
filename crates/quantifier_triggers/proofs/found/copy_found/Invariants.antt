use Rattle.std.proofs.Common.{◌≡◌, take}
use Rattle.quantifier_triggers.proofs.found.copy_found.Given as goal

abbrev pub invariant-loop-term : goal.invariant-loop-term
invariant-loop-term l = l.copies.items ≡ take l.term-index l.found
