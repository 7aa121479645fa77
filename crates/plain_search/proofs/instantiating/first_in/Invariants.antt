use Rattle.std.proofs.Common.{◌≡◌, drop, find, flat_map}
use Rattle.logic_rules.specs.Instantiating.{is_unmarked, candidates_of}
use Rattle.plain_search.proofs.instantiating.first_in.Given as goal

abbrev pub invariant-loop-fact : goal.invariant-loop-fact
invariant-loop-fact l = find (is_unmarked l.branch) (flat_map (candidates_of l.defs l.branch l.ground) (drop l.fact-index l.facts)) ≡ find (is_unmarked l.branch) (flat_map (candidates_of l.defs l.branch l.ground) l.facts)
