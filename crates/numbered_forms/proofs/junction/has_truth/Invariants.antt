use Rattle.std.proofs.Common.{◌≡◌, drop}
use Rattle.logic_core.specs.View.{trees_of}
use Rattle.logic_core.specs.Junction.{has_truth}
use Rattle.numbered_terms.specs.Lists.{terms_at}
use Rattle.numbered_forms.proofs.junction.has_truth.Given as goal

abbrev pub invariant-loop-id : goal.invariant-loop-id
invariant-loop-id l = has_truth l.b (trees_of (terms_at l.terms (drop l.id-index l.ids))) ≡ has_truth l.b (trees_of (terms_at l.terms l.ids))
