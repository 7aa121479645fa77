use Rattle.std.proofs.Common.{◌++◌, map, take, drop}
use Rattle.numbered_terms.specs.Stored.{Grows}
use Rattle.numbered_branches.specs.Branches.{NumberedFact}
use Rattle.numbered_instances.specs.Shared.{AreShared}
use Rattle.numbered_instances.proofs.shared.count_new.Given as goal

abbrev pub invariant-loop-fact : goal.invariant-loop-fact
invariant-loop-fact l = record {
  grows : Grows l.fn.store l.store;
  counted : AreShared l.fn.store.terms l.listed l.fn.counts.items → AreShared l.store.terms (map (λ (f : NumberedFact). f.term) (take l.fact-index l.facts) ++ drop l.at l.listed) l.counts.items;
}
