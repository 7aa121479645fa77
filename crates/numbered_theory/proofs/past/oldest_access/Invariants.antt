use Rattle.std.proofs.Common.{◌≡◌, drop, map}
use Rattle.numbered_terms.specs.Stored.{Grows}
use Rattle.numbered_branches.specs.Branches.{fact_at}
use Rattle.theory_rules.specs.Condition.{first_some}
use Rattle.theory_rules.specs.Past.{first_access}
use Rattle.numbered_theory.proofs.past.oldest_access.Given as goal

abbrev pub invariant-loop-fact : goal.invariant-loop-fact
invariant-loop-fact l = record {
  grows : Grows l.fn.store l.store;
  first : first_some first_access (map (fact_at l.fn.store.terms) (drop l.fact-index l.facts)) ≡ first_some first_access (map (fact_at l.fn.store.terms) l.facts);
}
