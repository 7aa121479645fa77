use Rattle.std.proofs.Common.{◌≡◌, map, take}
use Rattle.numbered_terms.specs.Renumbered.{new_of}
use Rattle.numbered_terms.proofs.renumber.new_numbers.Given as goal

abbrev pub invariant-loop-id : goal.invariant-loop-id
invariant-loop-id l = l.numbers.items ≡ (map (new_of l.found.entries) (take l.id-index l.ids))
