use Rattle.std.proofs.Common.{◌≡◌, ◌++◌, drop, flat_map}
use Rattle.logic_rules.specs.Instantiating.{applications_in}
use Rattle.plain_search.proofs.instantiating.applications.Given as goal

abbrev pub invariant-loop-fact : goal.invariant-loop-fact
invariant-loop-fact l = l.terms.items ++ flat_map applications_in (drop l.fact-index l.facts) ≡ flat_map applications_in l.facts
