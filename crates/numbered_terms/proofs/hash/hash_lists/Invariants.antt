use Rattle.std.proofs.Common.{◌≡◌, drop}
use Rattle.logic_core.specs.View.{patterns_of}
use Rattle.numbered_terms.specs.Shaped.{shaped_lists}
use Rattle.term_bank.specs.Hash.{hash_of_patterns}
use Rattle.numbered_terms.proofs.hash.hash_lists.Given as goal

abbrev pub invariant-loop-list : goal.invariant-loop-list
invariant-loop-list l = hash_of_patterns l.mixed (patterns_of (shaped_lists (drop l.list-index l.lists))) ≡ hash_of_patterns l.start (patterns_of (shaped_lists l.lists))
