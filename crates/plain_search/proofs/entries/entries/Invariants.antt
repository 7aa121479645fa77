use Rattle.std.proofs.Common.{◌≡◌, ◌++◌, drop, flat_map}
use Rattle.theory_rules.specs.Combining.{entries_of}
use Rattle.plain_search.proofs.entries.entries.Given as goal

abbrev pub invariant-loop-fact : goal.invariant-loop-fact
invariant-loop-fact l = l.entries.items ++ flat_map (entries_of l.defs l.branch) (drop l.fact-index l.branch.facts) ≡ flat_map (entries_of l.defs l.branch) l.branch.facts
