use Rattle.std.proofs.Common.{[], map, flat_map, take}
use Rattle.logic_rules.specs.Instantiating.{each_once, applications_in}
use Rattle.numbered_terms.specs.Stored.{Grows}
use Rattle.numbered_facts.specs.Answers.{AreAt}
use Rattle.numbered_branches.specs.Branches.{fact_at}
use Rattle.numbered_instances.proofs.ground.list_facts.Given as goal

abbrev pub invariant-loop-fact : goal.invariant-loop-fact
invariant-loop-fact l = record {
  grows : Grows l.fn.store l.store;
  ground : AreAt l.store.terms l.ground (each_once [] (flat_map applications_in (map (fact_at l.fn.store.terms) (take l.fact-index l.facts))));
}
