use Rattle.std.proofs.Common.{◌≡◌, map, find, flat_map, drop}
use Rattle.logic_rules.specs.Instantiating.{is_unmarked, candidates_of}
use Rattle.numbered_terms.specs.Lists.{terms_at}
use Rattle.numbered_terms.specs.Stored.{Grows}
use Rattle.numbered_branches.specs.Branches.{branch_at, fact_at}
use Rattle.numbered_instances.proofs.candidates.first_in.Given as goal

abbrev pub invariant-loop-fact : goal.invariant-loop-fact
invariant-loop-fact l = record {
  grows : Grows l.fn.store l.store;
  same : find (is_unmarked (branch_at l.fn.store.terms l.branch)) (flat_map (candidates_of l.fn.store.defs (branch_at l.fn.store.terms l.branch) (terms_at l.fn.store.terms l.ground)) (map (fact_at l.fn.store.terms) (drop l.fact-index l.facts)))
      ≡ find (is_unmarked (branch_at l.fn.store.terms l.branch)) (flat_map (candidates_of l.fn.store.defs (branch_at l.fn.store.terms l.branch) (terms_at l.fn.store.terms l.ground)) (map (fact_at l.fn.store.terms) l.facts));
}
