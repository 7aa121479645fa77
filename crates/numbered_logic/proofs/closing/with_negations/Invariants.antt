use Rattle.std.proofs.Common.{take}
use Rattle.numbered_terms.specs.Stored.{Grows}
use Rattle.numbered_logic.specs.Denied.{AreDenied}
use Rattle.numbered_logic.proofs.closing.with_negations.Given as goal

abbrev pub invariant-loop-fact : goal.invariant-loop-fact
invariant-loop-fact l = record {
  grows : Grows l.fn.store l.store;
  denied : AreDenied l.store.terms l.all.items (take l.fact-index l.facts);
}
