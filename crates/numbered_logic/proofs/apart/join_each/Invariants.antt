use Rattle.std.proofs.Common.{take}
use Rattle.std.specs.List.{AllByRecursion}
use Rattle.numbered_terms.specs.Stored.{Grows}
use Rattle.numbered_logic.specs.Apart.{AreApart, IsListed}
use Rattle.numbered_logic.proofs.apart.join_each.Given as goal

abbrev pub invariant-loop-fact : goal.invariant-loop-fact
invariant-loop-fact l = record {
  grows : Grows l.fn.store l.store;
  apart : AreApart l.store.terms l.apart;
  joined : AllByRecursion (IsListed l.apart.facts) (take l.fact-index l.facts);
}
