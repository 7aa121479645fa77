use Rattle.std.proofs.Common.{◌≡◌, ◌++◌, drop, flat_map}
use Rattle.theory_rules.specs.Back.{accesses_in}
use Rattle.plain_search.proofs.back.accesses.Given as goal

abbrev pub invariant-loop-fact : goal.invariant-loop-fact
invariant-loop-fact l = l.accesses.items ++ flat_map accesses_in (drop l.fact-index l.facts) ≡ flat_map accesses_in l.facts
