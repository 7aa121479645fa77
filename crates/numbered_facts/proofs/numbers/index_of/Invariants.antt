use Rattle.std.proofs.Common.{◌≡◌, take}
use Rattle.numbered_facts.proofs.numbers.index_of.Given as goal

abbrev pub invariant-loop-id : goal.invariant-loop-id
invariant-loop-id l = l.index.keys ≡ take l.id-index l.ids
