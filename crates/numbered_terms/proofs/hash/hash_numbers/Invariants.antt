use Rattle.std.proofs.Common.{◌≡◌, drop}
use Rattle.logic_core.specs.View.{trees_of}
use Rattle.numbered_terms.specs.Shaped.{shaped}
use Rattle.term_bank.specs.Hash.{hash_of_each}
use Rattle.numbered_terms.proofs.hash.hash_numbers.Given as goal

abbrev pub invariant-loop-id : goal.invariant-loop-id
invariant-loop-id l = hash_of_each l.mixed (trees_of (shaped (drop l.id-index l.ids))) ≡ hash_of_each l.start (trees_of (shaped l.ids))
