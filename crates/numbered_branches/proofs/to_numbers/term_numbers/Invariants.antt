use Rattle.std.proofs.Common.{take}
use Rattle.numbered_terms.specs.Stored.{Grows}
use Rattle.numbered_facts.specs.Answers.{AreAt}
use Rattle.numbered_branches.proofs.to_numbers.term_numbers.Given as goal

abbrev pub invariant-loop-tree : goal.invariant-loop-tree
invariant-loop-tree l = record { grows : Grows l.fn.store l.store; done : AreAt l.store.terms l.all.items (take l.tree-index l.trees) }
