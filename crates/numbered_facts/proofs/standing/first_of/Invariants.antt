use Rattle.std.proofs.Common.{◌≡◌, map, find, drop}
use Rattle.tableau_branch.specs.Shapes.{has_shape}
use Rattle.term_bank.specs.Numbered.{at}
use Rattle.numbered_facts.proofs.standing.first_of.Given as goal

abbrev pub invariant-loop-id : goal.invariant-loop-id
invariant-loop-id l = find (has_shape l.shape) (map (at l.terms) (drop l.id-index l.ids)) ≡ find (has_shape l.shape) (map (at l.terms) l.ids)
