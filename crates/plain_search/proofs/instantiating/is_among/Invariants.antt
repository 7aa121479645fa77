use Rattle.std.proofs.Common.{◌≡◌, drop}
use Rattle.std.specs.List.{list_any}
use Rattle.logic_core.specs.Same.{same_term}
use Rattle.plain_search.proofs.instantiating.is_among.Given as goal

abbrev pub invariant-loop-other : goal.invariant-loop-other
invariant-loop-other l = list_any (same_term l.term) (drop l.other-index l.terms) ≡ list_any (same_term l.term) l.terms
