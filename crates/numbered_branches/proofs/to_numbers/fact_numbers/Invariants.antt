use Rattle.std.proofs.Common.{take}
use Rattle.numbered_terms.specs.Stored.{Grows}
use Rattle.numbered_branches.specs.Standing.{AreFactsAt}
use Rattle.numbered_branches.proofs.to_numbers.fact_numbers.Given as goal

abbrev pub invariant-loop-fact : goal.invariant-loop-fact
invariant-loop-fact l = record { grows : Grows l.fn.store l.store; done : AreFactsAt l.store.terms l.all.items (take l.fact-index l.facts) }
