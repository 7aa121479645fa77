use Rattle.std.proofs.Common.{◌≡◌, filter, take}
use Rattle.tableau_branch.specs.Oriented.{is_application}
use Rattle.term_bank.specs.Numbered.{at}
use Rattle.numbered_facts.proofs.standing.applications.Given as goal

abbrev pub invariant-loop-id : goal.invariant-loop-id
invariant-loop-id l = l.found.items ≡ filter (λ i. is_application (at l.terms i)) (take l.id-index l.ids)
